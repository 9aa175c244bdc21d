use Rattle.std.proofs.Common.{sym, ap, ◌∙◌}
use Rattle.account_hall.specs.Halls.{IsFrontPass}
use Rattle.account_hall.proofs.Fronts.{all_at, joined_at, joined_next, rest_next}
use Rattle.account_hall.proofs.front.join_all.Goals as goal

pub join-requires-clause-lock : goal.join-requires-clause-lock
join-requires-clause-lock g c =
    let l = c.loop-pass in
    let a = joined_at c.args.inside c.args.admitted l.i l.roots.items c.args.roots.now.items c.args.list.items l.rest.items c.pop_front.new.self.items c.args.rooms.now.items c.index.result.now c.index_mut.result.now c.in-Some.pass
    l.invariant.joined c.requires.hall c.requires.session l.invariant.rest c.in-Some.ensures.items c.index.ensures c.index_mut.ensures.value in
    (a.lock ∙ sym (ap (λ v. v.lock.id) c.behind-rooms.view_is), a.lock' ∙ sym (ap (λ v. v.lock.id) c.behind-rooms.view_is))

pub loop-pass-preserved : goal.loop-pass-preserved
loop-pass-preserved g c =
    let l = c.loop-pass in
    let a = joined_at c.args.inside c.args.admitted l.i l.roots.items c.args.roots.now.items c.args.list.items l.rest.items c.pop_front.new.self.items c.args.rooms.now.items c.index.result.now c.index_mut.result.now c.in-Some.pass
    l.invariant.joined c.requires.hall c.requires.session l.invariant.rest c.in-Some.ensures.items c.index.ensures c.index_mut.ensures.value in
    let front = all_at (IsFrontPass c.args.inside c.args.admitted) c.args.roots.now.items l.i c.index_mut.result.now c.requires.roots a.root in
    record {
      rest = rest_next l.i c.args.list.items l.rest.items c.pop_front.new.self.items c.in-Some.pass l.invariant.rest c.in-Some.ensures.items;
      joined = joined_next c.args.inside c.args.admitted l.i l.roots.items c.args.roots.now.items c.args.list.items c.index_mut.result.now c.in-Some.pass c.join.new.pass
          l.invariant.joined c.requires.roots c.requires.free a.root a.pass c.join.ensures.pass c.join.ensures.seen c.join.ensures.heard (c.join.ensures.count front.root);
    }
