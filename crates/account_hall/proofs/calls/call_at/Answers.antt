use Rattle.std.proofs.Common.{ap, ◌∙◌}
use Rattle.account_hall.specs.Halls.{entries_of}
use Rattle.account_hall.proofs.Turns.{called_if, once}
use Rattle.account_hall.proofs.calls.call_at.Goals as goal

pub returns-clause-called : goal.returns-clause-called
returns-clause-called g c =
    let b = c.take-book.result.value in
    called_if g.R.Rules.plan_of b.rules b.opened c.args.pass.now c.take-book.new.pass c.give.new.pass (entries_of b) (entries_of c.perform_under-done.new.book.value) c.name-number.result c.args.serial c.args.call.now c.args.moment c.perform_under-done.result
    c.requires.free.1 c.take-book.ensures.pass c.give.ensures c.take-book.ensures.seen c.take-book.ensures.own c.take-book.ensures.opening (c.name-number.ensures ∙ ap (λ x. x.name) c.take-book.ensures.pass) c.perform_under-done.ensures.done

pub returns-clause-turn : goal.returns-clause-turn
returns-clause-turn g c =
    once c.args.pass.now c.take-book.new.pass c.give.new.pass (entries_of c.take-book.result.value) (entries_of c.perform_under-done.new.book.value) c.requires.free.1 c.take-book.ensures.pass c.give.ensures
