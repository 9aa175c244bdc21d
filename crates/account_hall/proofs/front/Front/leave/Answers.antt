use Rattle.std.proofs.Common.{sym, subst}
use Rattle.account_hall.specs.Halls.{AreOf}
use Rattle.account_hall.proofs.Fronts.{of_joined}
use Rattle.account_hall.proofs.front.Front.leave.Goals as goal

pub returns-clause-front : goal.returns-clause-front
returns-clause-front g c =
    subst (AreOf c.args.hall.now) (sym c.join_all.ensures.roots)
    (of_joined c.args.hall.now c.self.inside.roots.items c.passes.inside.list.items (subst (λ v. AreOf c.args.hall.now v.roots) (sym c.self.view_is) c.requires.hall))
