use Rattle.std.proofs.lemmas.Result.{err_from_is_err_and}
use Rattle.record_codec.specs.Reading.{items_at}
use Rattle.record_codec.specs.Readers.{rising_number, next_number}
use Rattle.record_codec.proofs.Loops.{goes_on, ends}
use Rattle.record_codec.proofs.read_lists.read_counted_rising_numbers.Goals as goal

pub returns-in_err-number : goal.returns-in_err-number
returns-in_err-number c =
    let p = err_from_is_err_and c.from_residual.result c.from_residual.ensures.1 in
    rw (p.1, p.2) (ends rising_number next_number c.in_err-number.field-0.0 c.loop-taken.numbers.items c.args.count c.loop-taken.taken c.loop-taken.low c.loop-taken.rest.now (items_at rising_number next_number 0 c.args.count c.args.bytes.now) c.loop-taken-test.true c.in_err-number.ensures c.loop-taken.invariant)

pub loop-taken-preserved : goal.loop-taken-preserved
loop-taken-preserved c =
    rw (c.in_ok-push.ensures.items, c.advance_number-low.ensures) (goes_on rising_number next_number c.loop-taken.numbers.items c.args.count c.loop-taken.taken c.loop-taken.low c.loop-taken.rest.now c.in_ok-number.number c.in_ok-number.behind.now (items_at rising_number next_number 0 c.args.count c.args.bytes.now) c.loop-taken-test.true c.in_ok-number.ensures c.loop-taken.invariant)
