use Rattle.std.proofs.Common.{◌≡◌, inl, IfOk, OnErr, is_some, refl, ap, subst}
use Rattle.account_hall.specs.Copies.{IsFetchedSo, carried_in}
use Rattle.account_hall.specs.HeldAccounts.{MayHaveFollowed, entries_in, held_steps, side_of, state_of}
use Rattle.account_hall.proofs.Parts.{begun_if, copied_if, gained_none, gained_then, state_same, taken_out}
use Rattle.account_hall.proofs.held_accounts.copy_held.Goals as goal

pub unwrap-call-requires : goal.unwrap-call-requires
unwrap-call-requires g c = ap is_some (c.copy_asked.ensures.fetch c.args.copy.call refl)

pub returns-in-Ok-clause-copied : goal.returns-in-Ok-clause-copied
returns-in-Ok-clause-copied g c =
    let copy = c.args.copy in
    let steps = held_steps g.R.Rules.plan_of g.O.Originals.set_of (side_of c.args.from.now) (side_of c.args.to.now) copy.from_read_only copy.call copy.made c.args.moment in
    let s = state_of c.args.from.now c.args.to.now c.args.trail.now.items in
    let m = state_of c.perform_held.new.held c.args.to.now c.perform_held.new.trail.items in
    let s' = state_of c.follow_fetched.new.from c.follow_fetched.new.to c.follow_fetched.new.trail.items in
    let same : c.unwrap-call.result ≡ copy.call = taken_out c.copy_asked.result c.unwrap-call.result copy.call c.unwrap-call.ensures (c.copy_asked.ensures.fetch copy.call refl) in
    let rest : IfOk c.follow_fetched.result (λ out. IsFetchedSo steps (carried_in c.in-Ok.fetched) m s' out) =
    subst (λ x. IfOk c.follow_fetched.result (λ out. IsFetchedSo (held_steps g.R.Rules.plan_of g.O.Originals.set_of x (side_of c.args.to.now) copy.from_read_only copy.call copy.made c.args.moment) (carried_in c.in-Ok.fetched) m s' out)) c.perform_held.ensures.gained.side
    (subst (λ x. IfOk c.follow_fetched.result (λ out. IsFetchedSo (held_steps g.R.Rules.plan_of g.O.Originals.set_of (side_of c.perform_held.new.held) (side_of c.args.to.now) copy.from_read_only x copy.made c.args.moment) (carried_in c.in-Ok.fetched) m s' out)) same
    c.follow_fetched.ensures.followed) in
    copied_if steps s m s' c.in-Ok.fetched c.follow_fetched.result (c.in-Ok.ensures.step, refl) rest

pub returns-in-Ok-clause-begun : goal.returns-in-Ok-clause-begun
returns-in-Ok-clause-begun g c =
    let copy = c.args.copy in
    let steps = held_steps g.R.Rules.plan_of g.O.Originals.set_of (side_of c.args.from.now) (side_of c.args.to.now) copy.from_read_only copy.call copy.made c.args.moment in
    let s = state_of c.args.from.now c.args.to.now c.args.trail.now.items in
    let m = state_of c.perform_held.new.held c.args.to.now c.perform_held.new.trail.items in
    let s' = state_of c.follow_fetched.new.from c.follow_fetched.new.to c.follow_fetched.new.trail.items in
    let same : c.unwrap-call.result ≡ copy.call = taken_out c.copy_asked.result c.unwrap-call.result copy.call c.unwrap-call.ensures (c.copy_asked.ensures.fetch copy.call refl) in
    let rest : OnErr c.follow_fetched.result (MayHaveFollowed steps c.in-Ok.fetched m s') =
    subst (λ x. OnErr c.follow_fetched.result (MayHaveFollowed (held_steps g.R.Rules.plan_of g.O.Originals.set_of x (side_of c.args.to.now) copy.from_read_only copy.call copy.made c.args.moment) c.in-Ok.fetched m s')) c.perform_held.ensures.gained.side
    (subst (λ x. OnErr c.follow_fetched.result (MayHaveFollowed (held_steps g.R.Rules.plan_of g.O.Originals.set_of (side_of c.perform_held.new.held) (side_of c.args.to.now) copy.from_read_only x copy.made c.args.moment) c.in-Ok.fetched m s')) same
    c.follow_fetched.ensures.begun) in
    begun_if steps c.in-Ok.fetched s m s' c.follow_fetched.result (c.in-Ok.ensures.step, refl) rest

pub returns-in-Ok-clause-gained : goal.returns-in-Ok-clause-gained
returns-in-Ok-clause-gained g c =
    (gained_then c.args.from.now c.perform_held.new.held c.follow_fetched.new.from c.perform_held.ensures.gained c.follow_fetched.ensures.gained.0, c.follow_fetched.ensures.gained.1)

pub returns-in-Err-clause-begun : goal.returns-in-Err-clause-begun
returns-in-Err-clause-begun g c =
    inl (state_same (entries_in c.args.from.now) (entries_in c.args.to.now) c.args.trail.now.items (entries_in c.perform_held.new.held) (entries_in c.args.to.now) c.perform_held.new.trail.items c.in-Err.ensures.none.0 refl c.in-Err.ensures.none.1)

pub returns-in-Err-clause-gained : goal.returns-in-Err-clause-gained
returns-in-Err-clause-gained g c = (c.perform_held.ensures.gained, gained_none c.args.to.now)
