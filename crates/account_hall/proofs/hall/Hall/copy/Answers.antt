use Rattle.std.proofs.Common.{inl, IfOk, OnErr, length, refl, sym, ap, ◌∙◌, subst, arith}
use Rattle.account_hall.specs.Copies.{HasBegunCopy, IsCopy}
use Rattle.account_hall.specs.Halls.{AreOf, room_view}
use Rattle.account_hall.specs.Sessions.{IsSession, SessionView, session_of}
use Rattle.account_hall.proofs.Fronts.{some_pass}
use Rattle.account_hall.proofs.Grips.{count_map}
use Rattle.account_hall.proofs.Steps.{OnErr-any, look_away}
use Rattle.account_hall.proofs.hall.Hall.copy.Goals as goal

pub returns-in_err-reserve-clause-begun : goal.returns-in_err-reserve-clause-begun
returns-in_err-reserve-clause-begun g c =
    let copy = c.args.copy in
    let s : SessionView = session_of c.passes.inside.list.items c.passes.inside.trail.items in
    let of : AreOf c.args.self.now s.passes = subst (λ v. AreOf c.args.self.now v.passes) (sym c.passes.view_is) c.requires.hall in
    let k = some_pass c.args.self.now s.passes copy.from of c.requires.from in
    let l = some_pass c.args.self.now s.passes copy.to of c.requires.to in
    let none : HasBegunCopy g.R.Rules.plan_of g.O.Originals.set_of copy c.args.moment s s =
    record { taken = s; took = record { between = s; first = look_away s copy.from k.0 k.1; second = look_away s copy.to l.0 l.1 }; begun = inl refl; held = inl refl } in
    let new = subst (λ ps. HasBegunCopy g.R.Rules.plan_of g.O.Originals.set_of copy c.args.moment s (session_of s.passes ps)) (sym c.reserve.ensures.items) none in
    OnErr-any c.from_residual.result (subst (λ v. HasBegunCopy g.R.Rules.plan_of g.O.Originals.set_of copy c.args.moment v (session_of s.passes c.reserve.new.self.items)) c.passes.view_is new)

pub copy_between-requires-clause-hall : goal.copy_between-requires-clause-hall
copy_between-requires-clause-hall g c κs within =
    subst (λ v. AreOf v c.passes.inside.list.items) (sym c.self.view_is) (subst (λ v. AreOf c.args.self.now v.passes) (sym c.passes.view_is) c.requires.hall)

pub copy_between-requires-clause-session : goal.copy_between-requires-clause-session
copy_between-requires-clause-session g c κs within =
    subst (λ ps. IsSession (session_of c.passes.inside.list.items ps)) (sym c.reserve.ensures.items) c.passes.invariant

pub copy_between-requires-clause-from : goal.copy_between-requires-clause-from
copy_between-requires-clause-from g c =
    let n = count_map room_view c.self.inside.rooms.items in
    let m = ap length c.self.view_is in
    omega (arith, n, m, c.requires.from)

pub copy_between-requires-clause-to : goal.copy_between-requires-clause-to
copy_between-requires-clause-to g c =
    let n = count_map room_view c.self.inside.rooms.items in
    let m = ap length c.self.view_is in
    omega (arith, n, m, c.requires.to)

pub returns-clause-copied : goal.returns-clause-copied
returns-clause-copied g c =
    let ks = c.passes.inside.list.items in
    let new : SessionView = session_of c.copy_between.new.list.items c.copy_between.new.trail.items in
    subst (λ v. IfOk c.copy_between.result (λ out. IsCopy g.R.Rules.plan_of g.O.Originals.set_of c.args.copy c.args.moment v new out)) (ap (session_of ks) c.reserve.ensures.items ∙ c.passes.view_is) c.copy_between.ensures.copied

pub returns-clause-begun : goal.returns-clause-begun
returns-clause-begun g c =
    let ks = c.passes.inside.list.items in
    let new : SessionView = session_of c.copy_between.new.list.items c.copy_between.new.trail.items in
    subst (λ v. OnErr c.copy_between.result (HasBegunCopy g.R.Rules.plan_of g.O.Originals.set_of c.args.copy c.args.moment v new)) (ap (session_of ks) c.reserve.ensures.items ∙ c.passes.view_is) c.copy_between.ensures.begun

pub returns-clause-hall : goal.returns-clause-hall
returns-clause-hall g c = subst (λ v. AreOf v c.copy_between.new.list.items) c.self.view_is c.copy_between.ensures.hall
