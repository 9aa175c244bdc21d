use Rattle.std.proofs.Common.{◌+◌, map, sym, subst, arith}
use Rattle.std.specs.List.{AllByRecursion}
use Rattle.account_lock.specs.Passes.{split_off}
use Rattle.account_hall.specs.Halls.{AreOf, IsFrontPass}
use Rattle.account_hall.specs.Sessions.{IsSession}
use Rattle.account_hall.proofs.Fronts.{front_given, of_given, of_split}
use Rattle.account_hall.proofs.Splitting.{admitted}
use Rattle.account_hall.proofs.front.Front.admit.Goals as goal

pub invariant_of-result : goal.invariant_of-result
invariant_of-result g c =
    subst (λ ps. IsSession (record { passes = ps; trail = c.new.result.items })) (sym c.split_all.ensures.list)
    (subst (λ ps. IsSession (record { passes = map split_off c.self.inside.roots.items; trail = ps })) (sym c.new.ensures.items) (admitted c.self.inside.roots.items))

pub invariant_of-self : goal.invariant_of-self
invariant_of-self g c = record {
  few = omega arith;
  each = subst (AllByRecursion (IsFrontPass (c.self.inside.inside + 1) (c.self.inside.admitted + 1))) (sym c.split_all.ensures.roots) (front_given c.self.inside.inside c.self.inside.admitted c.self.inside.roots.items c.self.invariant.each);
}

pub returns-clause-session : goal.returns-clause-session
returns-clause-session g c =
    let of : AreOf c.args.hall.now c.self.inside.roots.items = subst (λ v. AreOf c.args.hall.now v.roots) (sym c.self.view_is) c.requires.hall in
    subst (AreOf c.args.hall.now) (sym c.split_all.ensures.list) (of_split c.args.hall.now c.self.inside.roots.items of)

pub returns-clause-front : goal.returns-clause-front
returns-clause-front g c =
    let of : AreOf c.args.hall.now c.self.inside.roots.items = subst (λ v. AreOf c.args.hall.now v.roots) (sym c.self.view_is) c.requires.hall in
    subst (AreOf c.args.hall.now) (sym c.split_all.ensures.roots) (of_given c.args.hall.now c.self.inside.roots.items of)
