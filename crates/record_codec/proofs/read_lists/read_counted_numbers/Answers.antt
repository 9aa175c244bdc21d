use Rattle.std.proofs.lemmas.Result.{err_from_is_err_and}
use Rattle.record_codec.specs.Reading.{items_at}
use Rattle.record_codec.specs.Readers.{any_at, same, number_at}
use Rattle.record_codec.proofs.Loops.{goes_on, ends, is_done}
use Rattle.record_codec.proofs.read_lists.read_counted_numbers.Goals as goal

pub returns-in_err-number : goal.returns-in_err-number
returns-in_err-number c =
    let p = err_from_is_err_and c.from_residual.result c.from_residual.ensures.1 in
    rw (p.1, p.2) (ends (any_at number_at) same c.in_err-number.field-0.0 c.loop.numbers.items c.args.count c.loop.counter tt c.loop.rest.now (items_at (any_at number_at) same tt c.args.count c.args.bytes.now) c.loop-test.true c.in_err-number.ensures c.loop.invariant)

pub loop-preserved : goal.loop-preserved
loop-preserved c =
    rw c.in_ok-push.ensures.items (goes_on (any_at number_at) same c.loop.numbers.items c.args.count c.loop.counter tt c.loop.rest.now c.in_ok-number.number c.in_ok-number.after.now (items_at (any_at number_at) same tt c.args.count c.args.bytes.now) c.loop-test.true c.in_ok-number.ensures c.loop.invariant)

pub returns : goal.returns
returns c = is_done (any_at number_at) same c.loop.numbers.items c.args.count c.loop.counter tt c.loop.rest.now (items_at (any_at number_at) same tt c.args.count c.args.bytes.now) c.loop-test.false c.loop.invariant
