use Rattle.std.proofs.Common.{◌<◌, ◌≤◌, ◌-◌, length, arith}
use Rattle.mail_records.proofs.Searches.{before_record, from_record}
use Rattle.mail_records.proofs.table.place_of.Goals as goal

pub find_place_between-requires-clause-low : goal.find_place_between-requires-clause-low
find_place_between-requires-clause-low g c =
    let number = g.R.Record.number in
    let lt : c.loop-step.high - c.loop-step.step < length c.args.rows.now = omega (arith, c.loop-step.invariant.0.within, c.loop-step-test.true, c.loop-step.invariant.1) in
    let less : number c.index-rows-low.result < c.args.number = omega (arith, c.number.ensures, c.if-number.true) in
    before_record number c.args.number c.args.rows.now (c.loop-step.high - c.loop-step.step) c.index-rows-low.result c.requires lt c.index-rows-low.is less

pub loop-step-preserved : goal.loop-step-preserved
loop-step-preserved g c =
    let number = g.R.Record.number in
    let lt : c.loop-step.high - c.loop-step.step < length c.args.rows.now = omega (arith, c.loop-step.invariant.0.within, c.loop-step-test.true, c.loop-step.invariant.1) in
    let most : c.args.number ≤ number c.index-rows-low.result = omega (arith, c.number.ensures, c.if-number.false) in (
      from_record number c.args.number c.args.rows.now (c.loop-step.high - c.loop-step.step) c.index-rows-low.result c.requires lt c.index-rows-low.is most,
      omega (arith, c.saturating_add-step.ensures, c.loop-step.invariant.1),
    )
