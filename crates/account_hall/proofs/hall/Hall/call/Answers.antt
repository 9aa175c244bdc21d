use Rattle.std.proofs.Common.{◌≡◌, ◌+◌, ◌++◌, ◌∷◌, [], Some, length, slice_get, sym, ap, ◌∙◌, subst, arith}
use Rattle.std.proofs.Math.ListN.{set}
use Rattle.account_hall.specs.Calls.{point_at}
use Rattle.account_hall.specs.Halls.{AreOf}
use Rattle.account_hall.specs.Sessions.{HasHadTurn, IsCall, IsLook, IsSession, SessionView}
use Rattle.account_hall.proofs.Fronts.{of_set, pass_there, room_lock, some_pass}
use Rattle.account_hall.proofs.Steps.{OnErr-any, had_turn, is_call, is_look, look_away, session_called, session_looked}
use Rattle.account_hall.proofs.hall.Hall.call.Goals as goal

pub returns-in_err-reserve-clause-looked : goal.returns-in_err-reserve-clause-looked
returns-in_err-reserve-clause-looked g c =
    let s : SessionView = record { passes = c.passes.inside.list.items; trail = c.passes.inside.trail.items } in
    let of : AreOf c.args.self.now s.passes = subst (λ v. AreOf c.args.self.now v.passes) (sym c.passes.view_is) c.requires.hall in
    let k = some_pass c.args.self.now s.passes c.args.account of c.requires.account in
    let away : IsLook c.args.account s s = look_away s c.args.account k.0 k.1 in
    let new : IsLook c.args.account s (record { passes = s.passes; trail = c.reserve.new.self.items }) = subst (λ ps. IsLook c.args.account s (record { passes = s.passes; trail = ps })) (sym c.reserve.ensures.items) away in
    OnErr-any c.from_residual.result (subst (λ v. IsLook c.args.account v (record { passes = s.passes; trail = c.reserve.new.self.items })) c.passes.view_is new)

pub call_at-requires-clause-lock : goal.call_at-requires-clause-lock
call_at-requires-clause-lock g c κs within =
    let of : AreOf c.args.self.now c.passes.inside.list.items = subst (λ v. AreOf c.args.self.now v.passes) (sym c.passes.view_is) c.requires.hall in
    room_lock c.self.inside.rooms.items c.args.self.now c.passes.inside.list.items c.args.account c.index-room.result.now c.index_mut-pass.result.now c.self.view_is of c.requires.account c.index-room.ensures c.index_mut-pass.ensures.value
    ∙ sym (ap (λ v. v.lock.id) c.room.view_is)

pub invariant_of-passes-in-Ok : goal.invariant_of-passes-in-Ok
invariant_of-passes-in-Ok g c =
    let s : SessionView = record { passes = c.passes.inside.list.items; trail = c.passes.inside.trail.items } in
    let of : AreOf c.args.self.now s.passes = subst (λ v. AreOf c.args.self.now v.passes) (sym c.passes.view_is) c.requires.hall in
    let k = c.index_mut-pass.result.now in
    let there : slice_get s.passes c.args.account ≡ Some k = pass_there c.self.inside.rooms.items c.args.self.now s.passes c.args.account k c.self.view_is of c.requires.account c.index_mut-pass.ensures.value in
    let next : c.len.result + 1 ≡ length s.trail + 1 = omega (arith, c.len.ensures, c.reserve.ensures.len, c.passes.inside.trail.ok.0) in
    let done = c.in-Ok.done in
    let w = c.in-Ok.ensures.called in
    subst (λ ps. IsSession (record { passes = set s.passes c.args.account c.call_at.new.pass; trail = ps }))
    (sym (c.push_reserved.ensures.items ∙ ap (λ ps. ps ++ point_at c.args.account done.before done.after c.args.moment ∷ []) c.reserve.ensures.items))
    (session_called (g.R.Rules.plan_of w.0) s c.args.account k c.call_at.new.pass (c.len.result + 1) c.args.call.now c.args.moment done.before done.after done.out c.passes.invariant there next w.1)

pub returns-in-Ok-clause-called : goal.returns-in-Ok-clause-called
returns-in-Ok-clause-called g c =
    let s : SessionView = record { passes = c.passes.inside.list.items; trail = c.passes.inside.trail.items } in
    let of : AreOf c.args.self.now s.passes = subst (λ v. AreOf c.args.self.now v.passes) (sym c.passes.view_is) c.requires.hall in
    let k = c.index_mut-pass.result.now in
    let there : slice_get s.passes c.args.account ≡ Some k = pass_there c.self.inside.rooms.items c.args.self.now s.passes c.args.account k c.self.view_is of c.requires.account c.index_mut-pass.ensures.value in
    let next : c.len.result + 1 ≡ length s.trail + 1 = omega (arith, c.len.ensures, c.reserve.ensures.len, c.passes.inside.trail.ok.0) in
    let done = c.in-Ok.done in
    let w = c.in-Ok.ensures.called in
    let call = is_call (g.R.Rules.plan_of w.0) s c.args.account k c.call_at.new.pass (c.len.result + 1) c.args.call.now c.args.moment done.before done.after done.out c.passes.invariant there next w.1 in
    let trail = sym (c.push_reserved.ensures.items ∙ ap (λ ps. ps ++ point_at c.args.account done.before done.after c.args.moment ∷ []) c.reserve.ensures.items) in
    let new = subst (λ ps. IsCall (g.R.Rules.plan_of w.0) c.args.account c.args.call.now c.args.moment s (record { passes = set s.passes c.args.account c.call_at.new.pass; trail = ps }) done.out) trail call in
    (w.0, subst (λ v. IsCall (g.R.Rules.plan_of w.0) c.args.account c.args.call.now c.args.moment v (record { passes = set s.passes c.args.account c.call_at.new.pass; trail = c.push_reserved.new.self.items }) done.out) c.passes.view_is new)

pub returns-in-Ok-clause-turn : goal.returns-in-Ok-clause-turn
returns-in-Ok-clause-turn g c =
    let s : SessionView = record { passes = c.passes.inside.list.items; trail = c.passes.inside.trail.items } in
    let of : AreOf c.args.self.now s.passes = subst (λ v. AreOf c.args.self.now v.passes) (sym c.passes.view_is) c.requires.hall in
    let k = c.index_mut-pass.result.now in
    let there : slice_get s.passes c.args.account ≡ Some k = pass_there c.self.inside.rooms.items c.args.self.now s.passes c.args.account k c.self.view_is of c.requires.account c.index_mut-pass.ensures.value in
    subst (λ v. HasHadTurn c.args.account v (record { passes = set s.passes c.args.account c.call_at.new.pass; trail = c.push_reserved.new.self.items })) c.passes.view_is
    (had_turn s c.args.account k c.call_at.new.pass c.push_reserved.new.self.items there c.call_at.ensures.turn)

pub returns-in-Ok-clause-hall : goal.returns-in-Ok-clause-hall
returns-in-Ok-clause-hall g c =
    let ks = c.passes.inside.list.items in
    let of : AreOf c.args.self.now ks = subst (λ v. AreOf c.args.self.now v.passes) (sym c.passes.view_is) c.requires.hall in
    let k = c.index_mut-pass.result.now in
    let there : slice_get ks c.args.account ≡ Some k = pass_there c.self.inside.rooms.items c.args.self.now ks c.args.account k c.self.view_is of c.requires.account c.index_mut-pass.ensures.value in
    of_set c.args.self.now ks c.args.account k c.call_at.new.pass of there (ap (λ x. x.lock) c.in-Ok.ensures.called.1.same)

pub invariant_of-passes-in-Err : goal.invariant_of-passes-in-Err
invariant_of-passes-in-Err g c =
    let s : SessionView = record { passes = c.passes.inside.list.items; trail = c.passes.inside.trail.items } in
    let of : AreOf c.args.self.now s.passes = subst (λ v. AreOf c.args.self.now v.passes) (sym c.passes.view_is) c.requires.hall in
    let k = c.index_mut-pass.result.now in
    let there : slice_get s.passes c.args.account ≡ Some k = pass_there c.self.inside.rooms.items c.args.self.now s.passes c.args.account k c.self.view_is of c.requires.account c.index_mut-pass.ensures.value in
    subst (λ ps. IsSession (record { passes = set s.passes c.args.account c.call_at.new.pass; trail = ps })) (sym c.reserve.ensures.items)
    (session_looked s c.args.account k c.call_at.new.pass c.passes.invariant there c.in-Err.ensures.looked)

pub returns-in-Err-clause-looked : goal.returns-in-Err-clause-looked
returns-in-Err-clause-looked g c =
    let s : SessionView = record { passes = c.passes.inside.list.items; trail = c.passes.inside.trail.items } in
    let of : AreOf c.args.self.now s.passes = subst (λ v. AreOf c.args.self.now v.passes) (sym c.passes.view_is) c.requires.hall in
    let k = c.index_mut-pass.result.now in
    let there : slice_get s.passes c.args.account ≡ Some k = pass_there c.self.inside.rooms.items c.args.self.now s.passes c.args.account k c.self.view_is of c.requires.account c.index_mut-pass.ensures.value in
    let look = is_look s c.args.account k c.call_at.new.pass c.passes.invariant there c.in-Err.ensures.looked in
    let new = subst (λ ps. IsLook c.args.account s (record { passes = set s.passes c.args.account c.call_at.new.pass; trail = ps })) (sym c.reserve.ensures.items) look in
    subst (λ v. IsLook c.args.account v (record { passes = set s.passes c.args.account c.call_at.new.pass; trail = c.reserve.new.self.items })) c.passes.view_is new

pub returns-in-Err-clause-hall : goal.returns-in-Err-clause-hall
returns-in-Err-clause-hall g c =
    let ks = c.passes.inside.list.items in
    let of : AreOf c.args.self.now ks = subst (λ v. AreOf c.args.self.now v.passes) (sym c.passes.view_is) c.requires.hall in
    let k = c.index_mut-pass.result.now in
    let there : slice_get ks c.args.account ≡ Some k = pass_there c.self.inside.rooms.items c.args.self.now ks c.args.account k c.self.view_is of c.requires.account c.index_mut-pass.ensures.value in
    of_set c.args.self.now ks c.args.account k c.call_at.new.pass of there (ap (λ x. x.lock) c.in-Err.ensures.looked.same)
