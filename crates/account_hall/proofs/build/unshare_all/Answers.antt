use Rattle.std.proofs.Common.{◌++◌, arith}
use Rattle.account_hall.proofs.Building.{named_all, roots_last, unshared_next}
use Rattle.account_hall.proofs.build.unshare_all.Goals as goal

pub loop-rooms-preserved : goal.loop-rooms-preserved
loop-rooms-preserved g c =
    let l = c.loop-rooms in
    let rooms = c.take_last-room.new.self.items in
    record {
      accounts = unshared_next (c.args.accounts.now.items ++ named_all c.args.rooms.items) l.accounts.items c.push_reserved.new.self.items c.unshare_one.result l.rooms.items rooms c.take_last-room.result l.invariant.accounts c.take_last-room.ensures.items c.unshare_one.ensures c.push_reserved.ensures.items;
      roots = (roots_last l.roots.items c.take_last-root.new.self.items c.take_last-root.result l.rooms.items rooms c.take_last-room.result l.invariant.roots c.take_last-room.ensures.items c.take_last-root.ensures.items).0;
      same = omega (arith, c.take_last-root.ensures.len, c.take_last-room.ensures.len, l.invariant.same);
      space = omega (arith, c.push_reserved.ensures.len, c.push_reserved.ensures.capacity, c.take_last-room.ensures.len, l.invariant.space);
    }
