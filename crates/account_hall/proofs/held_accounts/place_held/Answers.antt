use Rattle.std.proofs.Common.{◌≡◌, inl, IfOk, is_some, refl, ap, subst}
use Rattle.account_hall.specs.Copies.{IsPlacedSo, replied_in}
use Rattle.account_hall.specs.HeldAccounts.{entries_in, held_steps, side_of, state_of}
use Rattle.account_hall.proofs.Parts.{gained_none, placed_begun, placed_if, same_if, state_same, taken_out}
use Rattle.account_hall.proofs.held_accounts.place_held.Goals as goal

pub unwrap-copy-requires : goal.unwrap-copy-requires
unwrap-copy-requires g c = ap is_some (c.copy_asked.ensures.place c.args.asked.call c.args.carried refl)

pub returns-in-Ok-clause-placed : goal.returns-in-Ok-clause-placed
returns-in-Ok-clause-placed g c =
    let steps = held_steps g.R.Rules.plan_of g.O.Originals.set_of (side_of c.args.from.now) (side_of c.args.to.now) c.args.asked.read_only c.args.asked.call c.args.asked.made c.args.asked.moment in
    let s = state_of c.args.from.now c.args.to.now c.args.trail.now.items in
    let m = state_of c.args.from.now c.perform_held.new.held c.perform_held.new.trail.items in
    let s' = state_of c.follow_placed.new.from c.perform_held.new.held c.follow_placed.new.trail.items in
    let same : c.unwrap-copy.result ≡ c.args.asked.call = taken_out c.copy_asked.result c.unwrap-copy.result c.args.asked.call c.unwrap-copy.ensures (c.copy_asked.ensures.place c.args.asked.call c.args.carried refl) in
    let rest : IfOk c.follow_placed.result (λ out. IsPlacedSo steps (replied_in c.in-Ok.placed) m s' out) =
    subst (λ x. IfOk c.follow_placed.result (λ out. IsPlacedSo (held_steps g.R.Rules.plan_of g.O.Originals.set_of (side_of c.args.from.now) (side_of c.args.to.now) c.args.asked.read_only x c.args.asked.made c.args.asked.moment) (replied_in c.in-Ok.placed) m s' out)) same
    (c.follow_placed.ensures.followed (side_of c.args.to.now) (entries_in c.perform_held.new.held)) in
    placed_if steps s m s' c.args.carried c.in-Ok.placed c.follow_placed.result (c.in-Ok.ensures.step, refl) rest

pub returns-in-Ok-clause-begun : goal.returns-in-Ok-clause-begun
returns-in-Ok-clause-begun g c =
    let steps = held_steps g.R.Rules.plan_of g.O.Originals.set_of (side_of c.args.from.now) (side_of c.args.to.now) c.args.asked.read_only c.args.asked.call c.args.asked.made c.args.asked.moment in
    let s = state_of c.args.from.now c.args.to.now c.args.trail.now.items in
    let m = state_of c.args.from.now c.perform_held.new.held c.perform_held.new.trail.items in
    let s' = state_of c.follow_placed.new.from c.perform_held.new.held c.follow_placed.new.trail.items in
    placed_begun steps s m s' c.args.carried c.in-Ok.placed c.follow_placed.result (c.in-Ok.ensures.step, refl)
    (same_if c.follow_placed.result (entries_in c.args.from.now) (entries_in c.perform_held.new.held) (entries_in c.follow_placed.new.from) c.perform_held.new.trail.items c.follow_placed.new.trail.items c.follow_placed.ensures.none)

pub returns-in-Err-clause-begun : goal.returns-in-Err-clause-begun
returns-in-Err-clause-begun g c =
    inl (state_same (entries_in c.args.from.now) (entries_in c.args.to.now) c.args.trail.now.items (entries_in c.args.from.now) (entries_in c.perform_held.new.held) c.perform_held.new.trail.items refl c.in-Err.ensures.none.0 c.in-Err.ensures.none.1)

pub returns-in-Err-clause-gained : goal.returns-in-Err-clause-gained
returns-in-Err-clause-gained g c = (gained_none c.args.from.now, c.perform_held.ensures.gained)
