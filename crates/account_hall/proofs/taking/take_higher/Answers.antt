use Rattle.std.proofs.Common.{◌≡◌, Some, drop, get_or, refl, slice_get, sym, take, ap, ◌∙◌, arith}
use Rattle.account_hall.specs.Halls.{entries_of}
use Rattle.account_hall.specs.HeldAccounts.{holding, turn_at}
use Rattle.account_hall.proofs.Grips.{grip_first, grip_lock, grip_lower, grip_there, turn_is}
use Rattle.account_hall.proofs.Places.{set_lent}
use Rattle.account_hall.proofs.taking.take_higher.Goals as goal

pub take_within-book-requires-clause-lock : goal.take_within-book-requires-clause-lock
take_within-book-requires-clause-lock g c =
    let rooms = c.args.rooms.now.items in
    let ks = c.args.list.now.items in
    let back = c.split_at_mut-lower.result.1.now in
    let k = get_or back 0 c.index-higher-0.result in
    let second : back ≡ drop c.args.account ks = c.split_at_mut-lower.ensures.back ∙ ap (drop c.args.account) c.as_mut_slice.ensures.value in
    let is : k ≡ get_or ks c.args.account k = grip_first rooms ks c.args.account c.requires.hall c.requires.account back k second (ap (get_or back 0) c.index-higher-0.is) in
    grip_lock rooms ks c.args.account c.requires.hall c.requires.account c.index-room.result.now k c.index-room.ensures is
    ∙ sym (ap (λ v. v.lock.id) c.room.view_is)

pub take_within-book-requires-clause-free : goal.take_within-book-requires-clause-free
take_within-book-requires-clause-free g c =
    let rooms = c.args.rooms.now.items in
    let ks = c.args.list.now.items in
    let back = c.split_at_mut-lower.result.1.now in
    let k = get_or back 0 c.index-higher-0.result in
    let second : back ≡ drop c.args.account ks = c.split_at_mut-lower.ensures.back ∙ ap (drop c.args.account) c.as_mut_slice.ensures.value in
    let is : k ≡ get_or ks c.args.account k = grip_first rooms ks c.args.account c.requires.hall c.requires.account back k second (ap (get_or back 0) c.index-higher-0.is) in
    c.requires.free k (grip_there rooms ks c.args.account c.requires.hall c.requires.account k is)

pub take_within-book-requires-clause-other : goal.take_within-book-requires-clause-other
take_within-book-requires-clause-other g c =
    let rooms = c.args.rooms.now.items in
    let ks = c.args.list.now.items in
    let back = c.split_at_mut-lower.result.1.now in
    let k = get_or back 0 c.index-higher-0.result in
    let second : back ≡ drop c.args.account ks = c.split_at_mut-lower.ensures.back ∙ ap (drop c.args.account) c.as_mut_slice.ensures.value in
    let is : k ≡ get_or ks c.args.account k = grip_first rooms ks c.args.account c.requires.hall c.requires.account back k second (ap (get_or back 0) c.index-higher-0.is) in
    let front = c.split_at_mut-lower.result.0.now in
    let low = get_or front c.args.held.now.account c.index-lower-held.result in
    let first : front ≡ take c.args.account ks = c.split_at_mut-lower.ensures.front ∙ ap (take c.args.account) c.as_mut_slice.ensures.value in
    let low_there : slice_get ks c.args.held.now.account ≡ Some low = grip_lower rooms ks c.args.account c.requires.hall c.requires.account front c.args.held.now.account low first c.requires.order (ap (get_or front c.args.held.now.account) c.index-lower-held.is) in
    c.requires.held low low_there

pub returns : goal.returns
returns g c =
    let rooms = c.args.rooms.now.items in
    let ks = c.args.list.now.items in
    let back = c.split_at_mut-lower.result.1.now in
    let k = get_or back 0 c.index-higher-0.result in
    let second : back ≡ drop c.args.account ks = c.split_at_mut-lower.ensures.back ∙ ap (drop c.args.account) c.as_mut_slice.ensures.value in
    let is : k ≡ get_or ks c.args.account k = grip_first rooms ks c.args.account c.requires.hall c.requires.account back k second (ap (get_or back 0) c.index-higher-0.is) in
    let front = c.split_at_mut-lower.result.0.now in
    let low = get_or front c.args.held.now.account c.index-lower-held.result in
    let first : front ≡ take c.args.account ks = c.split_at_mut-lower.ensures.front ∙ ap (take c.args.account) c.as_mut_slice.ensures.value in
    let low_there : slice_get ks c.args.held.now.account ≡ Some low = grip_lower rooms ks c.args.account c.requires.hall c.requires.account front c.args.held.now.account low first c.requires.order (ap (get_or front c.args.held.now.account) c.index-lower-held.is) in
    let es = entries_of c.take_within-book.result.value in
    record {
      pass = k;
      there = grip_there rooms ks c.args.account c.requires.hall c.requires.account k is;
      held = record {
        account_is = refl;
        number_is = c.name.ensures ∙ ap (λ x. x.name) c.take_within-book.ensures.pass;
        seen = c.take_within-book.ensures.seen;
        own = c.take_within-book.ensures.own;
        opened = c.take_within-book.ensures.opening;
        before = c.take_within-book.ensures.before;
      };
      list = set_lent ks front back c.args.account c.args.list.now.len c.take_within-book.new.pass (holding k (turn_at ks c.args.held.now.account) es) first second
          (c.take_within-book.ensures.pass ∙ ap (λ o. holding k o es) (sym (turn_is ks c.args.held.now.account low low_there)))
          (let ok = c.args.list.now.ok.0 in omega (arith, ok));
    }
