use Rattle.std.proofs.Common.{◌≡◌, Some, drop, get_or, refl, slice_get, sym, take, true, ap, ◌∙◌, subst, arith}
use Rattle.account_lock.specs.Entries.{ExtendsUnder}
use Rattle.account_hall.specs.HeldAccounts.{entries_in, released, turn_at}
use Rattle.account_hall.proofs.Grips.{grip_first, grip_lock, grip_lower, grip_there, one_there, turn_is}
use Rattle.account_hall.proofs.Places.{set_lent}
use Rattle.account_hall.proofs.Releases.{released_is}
use Rattle.account_hall.proofs.taking.give_higher.Goals as goal

pub give_within-requires-clause-lock : goal.give_within-requires-clause-lock
give_within-requires-clause-lock g c =
    let rooms = c.args.rooms.now.items in
    let ks = c.args.list.now.items in
    let back = c.split_at_mut-lower.result.1.now in
    let k = get_or back 0 c.index-rest-0.result in
    let second : back ≡ drop c.args.held.account ks = c.split_at_mut-lower.ensures.back ∙ ap (drop c.args.held.account) c.as_mut_slice.ensures.value in
    let is : k ≡ get_or ks c.args.held.account k = grip_first rooms ks c.args.held.account c.requires.hall c.requires.account back k second (ap (get_or back 0) c.index-rest-0.is) in
    grip_lock rooms ks c.args.held.account c.requires.hall c.requires.account c.index-room.result.now k c.index-room.ensures is
    ∙ sym (ap (λ v. v.lock.id) c.room.view_is)

pub give_within-requires-clause-holds : goal.give_within-requires-clause-holds
give_within-requires-clause-holds g c =
    let rooms = c.args.rooms.now.items in
    let ks = c.args.list.now.items in
    let back = c.split_at_mut-lower.result.1.now in
    let k = get_or back 0 c.index-rest-0.result in
    let second : back ≡ drop c.args.held.account ks = c.split_at_mut-lower.ensures.back ∙ ap (drop c.args.held.account) c.as_mut_slice.ensures.value in
    let is : k ≡ get_or ks c.args.held.account k = grip_first rooms ks c.args.held.account c.requires.hall c.requires.account back k second (ap (get_or back 0) c.index-rest-0.is) in
    let there = grip_there rooms ks c.args.held.account c.requires.hall c.requires.account k is in
    let same = one_there ks c.args.held.account k c.requires.held.pass there c.requires.held.there in
    subst (λ x. x.holds ≡ true) (sym same) c.requires.held.holds

pub give_within-requires-clause-other : goal.give_within-requires-clause-other
give_within-requires-clause-other g c =
    let rooms = c.args.rooms.now.items in
    let ks = c.args.list.now.items in
    let back = c.split_at_mut-lower.result.1.now in
    let k = get_or back 0 c.index-rest-0.result in
    let second : back ≡ drop c.args.held.account ks = c.split_at_mut-lower.ensures.back ∙ ap (drop c.args.held.account) c.as_mut_slice.ensures.value in
    let is : k ≡ get_or ks c.args.held.account k = grip_first rooms ks c.args.held.account c.requires.hall c.requires.account back k second (ap (get_or back 0) c.index-rest-0.is) in
    let front = c.split_at_mut-lower.result.0.now in
    let low = get_or front c.args.low.now.account c.index-lower-low.result in
    let first : front ≡ take c.args.held.account ks = c.split_at_mut-lower.ensures.front ∙ ap (take c.args.held.account) c.as_mut_slice.ensures.value in
    let low_there : slice_get ks c.args.low.now.account ≡ Some low = grip_lower rooms ks c.args.held.account c.requires.hall c.requires.account front c.args.low.now.account low first c.requires.order (ap (get_or front c.args.low.now.account) c.index-lower-low.is) in
    c.requires.low low low_there

pub give_within-requires-clause-entries : goal.give_within-requires-clause-entries
give_within-requires-clause-entries g c =
    let rooms = c.args.rooms.now.items in
    let ks = c.args.list.now.items in
    let back = c.split_at_mut-lower.result.1.now in
    let k = get_or back 0 c.index-rest-0.result in
    let second : back ≡ drop c.args.held.account ks = c.split_at_mut-lower.ensures.back ∙ ap (drop c.args.held.account) c.as_mut_slice.ensures.value in
    let is : k ≡ get_or ks c.args.held.account k = grip_first rooms ks c.args.held.account c.requires.hall c.requires.account back k second (ap (get_or back 0) c.index-rest-0.is) in
    let there = grip_there rooms ks c.args.held.account c.requires.hall c.requires.account k is in
    let same = one_there ks c.args.held.account k c.requires.held.pass there c.requires.held.there in
    subst (λ x. ExtendsUnder x.name x.seen (entries_in c.args.held)) (sym same) c.requires.held.entries

pub give_within-requires-clause-before : goal.give_within-requires-clause-before
give_within-requires-clause-before g c =
    let rooms = c.args.rooms.now.items in
    let ks = c.args.list.now.items in
    let back = c.split_at_mut-lower.result.1.now in
    let k = get_or back 0 c.index-rest-0.result in
    let second : back ≡ drop c.args.held.account ks = c.split_at_mut-lower.ensures.back ∙ ap (drop c.args.held.account) c.as_mut_slice.ensures.value in
    let is : k ≡ get_or ks c.args.held.account k = grip_first rooms ks c.args.held.account c.requires.hall c.requires.account back k second (ap (get_or back 0) c.index-rest-0.is) in
    let there = grip_there rooms ks c.args.held.account c.requires.hall c.requires.account k is in
    let same = one_there ks c.args.held.account k c.requires.held.pass there c.requires.held.there in
    c.requires.held.before ∙ ap (λ x. x.before) (sym same)

pub give_within-requires-clause-opening : goal.give_within-requires-clause-opening
give_within-requires-clause-opening g c =
    let rooms = c.args.rooms.now.items in
    let ks = c.args.list.now.items in
    let back = c.split_at_mut-lower.result.1.now in
    let k = get_or back 0 c.index-rest-0.result in
    let second : back ≡ drop c.args.held.account ks = c.split_at_mut-lower.ensures.back ∙ ap (drop c.args.held.account) c.as_mut_slice.ensures.value in
    let is : k ≡ get_or ks c.args.held.account k = grip_first rooms ks c.args.held.account c.requires.hall c.requires.account back k second (ap (get_or back 0) c.index-rest-0.is) in
    let there = grip_there rooms ks c.args.held.account c.requires.hall c.requires.account k is in
    let same = one_there ks c.args.held.account k c.requires.held.pass there c.requires.held.there in
    c.requires.held.opened ∙ ap (λ x. x.opening) (sym same)

pub returns : goal.returns
returns g c =
    let rooms = c.args.rooms.now.items in
    let ks = c.args.list.now.items in
    let back = c.split_at_mut-lower.result.1.now in
    let k = get_or back 0 c.index-rest-0.result in
    let second : back ≡ drop c.args.held.account ks = c.split_at_mut-lower.ensures.back ∙ ap (drop c.args.held.account) c.as_mut_slice.ensures.value in
    let is : k ≡ get_or ks c.args.held.account k = grip_first rooms ks c.args.held.account c.requires.hall c.requires.account back k second (ap (get_or back 0) c.index-rest-0.is) in
    let front = c.split_at_mut-lower.result.0.now in
    let low = get_or front c.args.low.now.account c.index-lower-low.result in
    let first : front ≡ take c.args.held.account ks = c.split_at_mut-lower.ensures.front ∙ ap (take c.args.held.account) c.as_mut_slice.ensures.value in
    let low_there : slice_get ks c.args.low.now.account ≡ Some low = grip_lower rooms ks c.args.held.account c.requires.hall c.requires.account front c.args.low.now.account low first c.requires.order (ap (get_or front c.args.low.now.account) c.index-lower-low.is) in
    let there = grip_there rooms ks c.args.held.account c.requires.hall c.requires.account k is in
    let turn = turn_at ks c.args.low.now.account in
    set_lent ks front back c.args.held.account c.args.list.now.len c.give_within.new.pass (released k turn (entries_in c.args.held)) first second
    (c.give_within.ensures ∙ ap (λ o. released k o (entries_in c.args.held)) (sym (turn_is ks c.args.low.now.account low low_there)))
    (let ok = c.args.list.now.ok.0 in omega (arith, ok))
    ∙ sym (released_is ks turn c.args.held c.args.held.account k refl there)
