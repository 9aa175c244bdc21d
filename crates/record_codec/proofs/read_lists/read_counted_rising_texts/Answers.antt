use Rattle.std.proofs.Common.{false, []}
use Rattle.std.proofs.lemmas.Result.{err_from_is_err_and}
use Rattle.record_codec.specs.Reading.{items_at}
use Rattle.record_codec.specs.Readers.{rising_text, next_text}
use Rattle.record_codec.proofs.Loops.{text_more, ends, is_done}
use Rattle.record_codec.proofs.read_lists.read_counted_rising_texts.Goals as goal

pub returns-in_err-text : goal.returns-in_err-text
returns-in_err-text c =
    let p = err_from_is_err_and c.from_residual.result c.from_residual.ensures.1 in
    rw (p.1, p.2) (ends rising_text next_text c.in_err-text.field-0.0 c.loop.texts.items c.args.count c.loop.counter (c.loop.tight, c.loop.bound.now) c.loop.rest.now (items_at rising_text next_text (false, []) c.args.count c.args.bytes.now) c.loop-test.true c.in_err-text.ensures c.loop.invariant)

pub loop-preserved : goal.loop-preserved
loop-preserved c =
    text_more c.loop.texts.items c.push.new.self.items c.args.count c.loop.counter (c.loop.tight, c.loop.bound.now) c.loop.rest.now c.in_ok-text.text.now c.in_ok-from_str.field-0 c.as_bytes-bound.result.now c.in_ok-text.after.now
    (items_at rising_text next_text (false, []) c.args.count c.args.bytes.now) c.loop-test.true c.in_ok-text.ensures c.in_ok-from_str.ensures c.as_bytes-bound.ensures.value c.in_ok-push.ensures.items c.loop.invariant

pub returns : goal.returns
returns c = is_done rising_text next_text c.loop.texts.items c.args.count c.loop.counter (c.loop.tight, c.loop.bound.now) c.loop.rest.now (items_at rising_text next_text (false, []) c.args.count c.args.bytes.now) c.loop-test.false c.loop.invariant
