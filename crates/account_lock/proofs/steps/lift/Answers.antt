use Rattle.std.proofs.Common.{rules, sym, ap, ◌∙◌, ◌∷◌, Some}
use Rattle.atomic_table.specs.Table.{rest}
use Rattle.account_lock.proofs.Turning.{leaves_empty_at}
use Rattle.account_lock.proofs.steps.lift.Goals as goal

pub exchange-requires : goal.exchange-requires
exchange-requires g c = let held = c.requires.ready.1 in (search rules, (Some held.0, held.1 ∙ ap (λ cs. (0, Some held.0) ∷ rest cs) (sym held.1)))

pub load-requires : goal.load-requires
load-requires g c = (search rules, search rules, leaves_empty_at _ _ _ _ _ _ (search rules) (search rules))
