use Rattle.std.proofs.Common.{◌∙◌, arith}
use Rattle.account_hall.specs.Building.{IsFresh}
use Rattle.account_hall.proofs.Building.{all_front, roots_next, shared_next}
use Rattle.account_hall.proofs.build.share_all.Goals as goal

pub loop-alloc-preserved : goal.loop-alloc-preserved
loop-alloc-preserved g c =
    let l = c.loop-alloc in
    let left = c.take_last-account.new.self.items in
    let rooms = c.push_reserved.new.self.items in
    record {
      fresh = all_front (IsFresh {K = g.row.K.Denot} {R = g.row.R.Denot}) left c.take_last-account.result l.accounts.items c.take_last-account.ensures.items l.invariant.fresh;
      accounts = shared_next c.args.accounts.now.items l.accounts.items left c.take_last-account.result l.rooms.items rooms c.in-Ok.room l.invariant.accounts c.take_last-account.ensures.items c.in-Ok.ensures.room c.push_reserved.ensures.items;
      roots = roots_next l.roots.items c.push_reserved-in-Ok.new.self.items c.in-Ok.root l.rooms.items rooms c.in-Ok.room l.invariant.roots c.push_reserved-in-Ok.ensures.items c.in-Ok.ensures.root c.push_reserved.ensures.items;
      count = omega (arith, c.take_last-account.ensures.len, c.push_reserved.ensures.len, l.invariant.count);
      same = omega (arith, c.push_reserved-in-Ok.ensures.len, c.push_reserved.ensures.len, l.invariant.same);
      capacity = c.take_last-account.ensures.capacity ∙ l.invariant.capacity;
      rooms = omega (arith, c.push_reserved.ensures.capacity, l.invariant.rooms);
      places = omega (arith, c.push_reserved-in-Ok.ensures.capacity, l.invariant.places);
    }
