use Rattle.std.proofs.Common.{◌≡◌, ◌+◌, length, subst, arith}
use Rattle.account_hall.specs.Calls.{IsPerformed}
use Rattle.account_hall.specs.Halls.{entries_of}
use Rattle.account_hall.specs.HeldAccounts.{entries_in}
use Rattle.account_hall.proofs.Parts.{side_kept}
use Rattle.account_hall.proofs.held_accounts.perform_held.Goals as goal

pub returns-in-Ok-clause-step : goal.returns-in-Ok-clause-step
returns-in-Ok-clause-step g c =
    let h = c.args.held.now in
    let done = c.in-Ok.done in
    let next : c.len.result + 1 ≡ length c.args.trail.now.items + 1 = omega (arith, c.len.ensures, c.args.trail.now.ok.0) in
    record {
      rules = h.book.value.rules;
      before = done.before;
      after = done.after;
      performed = subst (λ n. IsPerformed (g.R.Rules.plan_of h.book.value.rules) h.book.value.opened (entries_in h) (entries_of c.perform_under.new.book.value) h.number n c.args.call.now c.args.moment done.before done.after done.out) next c.in-Ok.ensures.done;
      trail_is = c.push_reserved.ensures.items;
    }

pub returns-in-Ok-clause-gained : goal.returns-in-Ok-clause-gained
returns-in-Ok-clause-gained g c =
    let h = c.args.held.now in
    let b = c.perform_under.new.book.value in
    record { side = side_kept h.account h.number h.book.value.opened b.opened h.book.value.before b.before c.perform_under.ensures.opened c.perform_under.ensures.before; extends = c.perform_under.ensures.extends }

pub returns-in-Err-clause-gained : goal.returns-in-Err-clause-gained
returns-in-Err-clause-gained g c =
    let h = c.args.held.now in
    let b = c.perform_under.new.book.value in
    record { side = side_kept h.account h.number h.book.value.opened b.opened h.book.value.before b.before c.perform_under.ensures.opened c.perform_under.ensures.before; extends = c.perform_under.ensures.extends }
