use Rattle.std.proofs.Common.{rules, sym, ap, ◌∙◌, ◌%◌, ◌^◌, subst, Option}
use Rattle.std.proofs.Common.{Box, Global}
use Rattle.atomic_table.specs.Table.{Me}
use Rattle.account_lock.specs.Views.{View}
use Rattle.account_lock.specs.Steps.{Got}
use Rattle.account_lock.proofs.Turning.{watches}
use Rattle.account_lock.proofs.steps.await_turn.Goals as goal

pub load-found-requires : goal.load-found-requires
load-found-requires g c = (search rules, search rules, watches _ _ _ _ _ _ _ (search rules) (search rules))

pub returns-then-found-ticket-clause-got : goal.returns-then-found-ticket-clause-got
returns-then-found-ticket-clause-got g c = subst (λ (m : Me (Option (Box g.row.B.Denot Global)) View). Got (λ b. g.B.AccountView.entries b.value) (λ b. record { before = g.B.AccountView.before b.value; opening = g.B.AccountView.opening b.value }) m c.load-found.new.seat.me) c.loop.invariant.1
    (c.load-found.ensures.2.0 (c.if-found-ticket.true ∙ (c.requires.ready.2 ∙ ap (λ (m : Me (Option (Box g.row.B.Denot Global)) View). m.0.ticket % 2 ^ 64) (sym c.loop.invariant.1))))
