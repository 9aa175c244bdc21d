use Rattle.std.proofs.Common.{◌<◌, ◌≤◌, length, sym, ap, ◌∙◌, arith}
use Rattle.account_lock.specs.Passes.{split_off}
use Rattle.account_hall.proofs.Fronts.{of_count, split_all_now, split_off_now}
use Rattle.account_hall.proofs.Splitting.{split_list, split_root, split_roots}
use Rattle.account_hall.proofs.front.split_all.Goals as goal

pub split_one-pass-requires-clause-lock : goal.split_one-pass-requires-clause-lock
split_one-pass-requires-clause-lock g c =
    let low : c.loop-i.i < length c.args.rooms.now.items = omega arith in
    let at = split_root c.loop-i.i c.loop-i.roots.items c.args.roots.now.items c.args.rooms.now.items c.index.result.now c.index_mut.result.now c.loop-i.invariant.roots c.requires.hall low c.index.ensures c.index_mut.ensures.value in
    at.1 ∙ ap (λ v. v.lock.id) (sym c.behind-rooms.view_is)

pub loop-i-preserved : goal.loop-i-preserved
loop-i-preserved g c =
    let low : c.loop-i.i < length c.args.rooms.now.items = omega arith in
    let at = split_root c.loop-i.i c.loop-i.roots.items c.args.roots.now.items c.args.rooms.now.items c.index.result.now c.index_mut.result.now c.loop-i.invariant.roots c.requires.hall low c.index.ensures c.index_mut.ensures.value in
    record {
      roots = split_roots c.loop-i.i c.loop-i.roots.items c.args.roots.now.items c.index_mut.result.now c.split_one-pass.new.root c.loop-i.invariant.roots at.0 c.split_one-pass.ensures.root;
      list = split_list c.loop-i.i c.loop-i.list.items c.push_reserved.new.self.items c.args.roots.now.items c.index_mut.result.now c.split_one-pass.result c.loop-i.invariant.list c.push_reserved.ensures.items at.0 c.split_one-pass.ensures.new;
      count = omega (arith, c.push_reserved.ensures.len, c.loop-i.invariant.count);
      room = omega (arith, c.push_reserved.ensures.capacity, c.loop-i.invariant.room);
    }

pub returns-clause-roots : goal.returns-clause-roots
returns-clause-roots g c =
    let count = of_count c.args.rooms.now.items c.args.roots.now.items c.requires.hall in
    let most : length c.args.roots.now.items ≤ c.loop-i.i = omega (arith, count) in
    c.loop-i.invariant.roots ∙ split_all_now c.loop-i.i c.args.roots.now.items most

pub returns-clause-list : goal.returns-clause-list
returns-clause-list g c =
    let count = of_count c.args.rooms.now.items c.args.roots.now.items c.requires.hall in
    let most : length c.args.roots.now.items ≤ c.loop-i.i = omega (arith, count) in
    c.loop-i.invariant.list ∙ split_off_now split_off c.loop-i.i c.args.roots.now.items most
