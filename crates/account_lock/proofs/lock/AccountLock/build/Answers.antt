use Rattle.std.proofs.Common.{sym, ap, subst, Option, List, [], ◌∷◌, Box, Global}
use Rattle.atomic_table.specs.Table.{opening as table_opening}
use Rattle.account_lock.specs.Views.{Origin, rooted}
use Rattle.account_lock.specs.Rule.{IsKept}
use Rattle.account_lock.proofs.Naming.{opens}
use Rattle.account_lock.proofs.lock.AccountLock.build.Goals as goal

pub new-requires : goal.new-requires
new-requires g c =
    let shows : Box g.row.B.Denot Global → List _ = λ b. g.B.AccountView.entries b.value in
    let origin : Box g.row.B.Denot Global → Origin = λ b. record { before = g.B.AccountView.before b.value; opening = g.B.AccountView.opening b.value } in
    subst (λ (xs : List (Option (Box g.row.B.Denot Global))). IsKept shows origin c.of-about.result.value (table_opening (0 ∷ 0 ∷ 0 ∷ []) xs (rooted (origin c.of-about.result.value)))) (sym c.in_ok-slots.ensures.ok)
    (opens shows origin c.of-about.result.value c.args.value _ c.requires (ap origin (sym c.of-about.ensures)) c.of-about.ensures)
