use Rattle.account_hall.specs.HeldAccounts.{side_of, state_from}
use Rattle.account_hall.proofs.Parts.{gained_none, told_if}
use Rattle.account_hall.proofs.held_accounts.follow_copy.Goals as goal

pub returns-in-None-clause-gained : goal.returns-in-None-clause-gained
returns-in-None-clause-gained g c = gained_none c.args.from.now

pub returns-then-read_only-clause-followed : goal.returns-then-read_only-clause-followed
returns-then-read_only-clause-followed g c to es set_of =
    told_if g.R.Rules.plan_of set_of (side_of c.args.from.now) to c.args.asked.call c.args.asked.made c.args.asked.moment c.args.placed c.args.asked.read_only c.args.set c.in-Some.set (state_from c.args.from.now es c.args.trail.now.items) c.with_error.result
    c.if-read_only.true c.in-Some.is c.with_error.ensures

pub returns-then-read_only-clause-gained : goal.returns-then-read_only-clause-gained
returns-then-read_only-clause-gained g c = gained_none c.args.from.now
