use Rattle.std.proofs.Common.{◌<◌, ◌∙◌, length, map, sym, subst}
use Rattle.account_hall.specs.Halls.{room_view}
use Rattle.account_hall.proofs.Between.{account_from, account_to, begun_if, copied_if, hall_last, hall_taken, release_from, release_to, session_if}
use Rattle.account_hall.proofs.copying.copy_between.Goals as goal

pub give_both-requires-clause-hall : goal.give_both-requires-clause-hall
give_both-requires-clause-hall g c κs within =
    let n = c.copy_held-copied.new in
    let t = c.take_both-from in
    hall_taken g.R.Rules.plan_of g.O.Originals.set_of c.args.copy c.args.moment c.args.list.now.items t.new.list.items c.args.trail.now.items n.trail.items t.result.0 t.result.1 n.from n.to
    c.requires.session c.requires.apart t.ensures c.copy_held-copied.ensures.gained.0 c.copy_held-copied.ensures.gained.1 (map room_view c.args.rooms.now.items) c.requires.hall

pub give_both-requires-clause-account : goal.give_both-requires-clause-account
give_both-requires-clause-account g c κs within =
    let n = c.copy_held-copied.new in
    let t = c.take_both-from in (
      subst (λ i. i < length c.args.rooms.now.items) (sym (account_from g.R.Rules.plan_of g.O.Originals.set_of c.args.copy c.args.moment c.args.list.now.items t.new.list.items c.args.trail.now.items n.trail.items t.result.0 t.result.1 n.from n.to
          c.requires.session c.requires.apart t.ensures c.copy_held-copied.ensures.gained.0 c.copy_held-copied.ensures.gained.1)) c.requires.from,
      subst (λ i. i < length c.args.rooms.now.items) (sym (account_to g.R.Rules.plan_of g.O.Originals.set_of c.args.copy c.args.moment c.args.list.now.items t.new.list.items c.args.trail.now.items n.trail.items t.result.0 t.result.1 n.from n.to
          c.requires.session c.requires.apart t.ensures c.copy_held-copied.ensures.gained.0 c.copy_held-copied.ensures.gained.1)) c.requires.to,
    )

pub give_both-requires-clause-apart : goal.give_both-requires-clause-apart
give_both-requires-clause-apart g c κs within =
    let n = c.copy_held-copied.new in
    let t = c.take_both-from in
    λ same. c.requires.apart (sym (account_from g.R.Rules.plan_of g.O.Originals.set_of c.args.copy c.args.moment c.args.list.now.items t.new.list.items c.args.trail.now.items n.trail.items t.result.0 t.result.1 n.from n.to
    c.requires.session c.requires.apart t.ensures c.copy_held-copied.ensures.gained.0 c.copy_held-copied.ensures.gained.1) ∙ (same ∙ account_to g.R.Rules.plan_of g.O.Originals.set_of c.args.copy c.args.moment c.args.list.now.items t.new.list.items c.args.trail.now.items n.trail.items t.result.0 t.result.1 n.from n.to
    c.requires.session c.requires.apart t.ensures c.copy_held-copied.ensures.gained.0 c.copy_held-copied.ensures.gained.1))

pub give_both-requires-clause-held : goal.give_both-requires-clause-held
give_both-requires-clause-held g c κs within =
    let n = c.copy_held-copied.new in
    let t = c.take_both-from in (
      release_from g.R.Rules.plan_of g.O.Originals.set_of c.args.copy c.args.moment c.args.list.now.items t.new.list.items c.args.trail.now.items n.trail.items t.result.0 t.result.1 n.from n.to
          c.requires.session c.requires.apart t.ensures c.copy_held-copied.ensures.gained.0 c.copy_held-copied.ensures.gained.1,
      release_to g.R.Rules.plan_of g.O.Originals.set_of c.args.copy c.args.moment c.args.list.now.items t.new.list.items c.args.trail.now.items n.trail.items t.result.0 t.result.1 n.from n.to
          c.requires.session c.requires.apart t.ensures c.copy_held-copied.ensures.gained.0 c.copy_held-copied.ensures.gained.1,
    )

pub returns-clause-copied : goal.returns-clause-copied
returns-clause-copied g c =
    let n = c.copy_held-copied.new in
    let t = c.take_both-from in
    copied_if g.R.Rules.plan_of g.O.Originals.set_of c.args.copy c.args.moment c.args.list.now.items t.new.list.items c.args.trail.now.items n.trail.items t.result.0 t.result.1 n.from n.to
    c.requires.session c.requires.apart t.ensures c.copy_held-copied.ensures.gained.0 c.copy_held-copied.ensures.gained.1 c.give_both.new.list.items c.give_both.ensures
    c.copy_held-copied.result c.copy_held-copied.ensures.copied

pub returns-clause-begun : goal.returns-clause-begun
returns-clause-begun g c =
    let n = c.copy_held-copied.new in
    let t = c.take_both-from in
    begun_if g.R.Rules.plan_of g.O.Originals.set_of c.args.copy c.args.moment c.args.list.now.items t.new.list.items c.args.trail.now.items n.trail.items t.result.0 t.result.1 n.from n.to
    c.requires.session c.requires.apart t.ensures c.copy_held-copied.ensures.gained.0 c.copy_held-copied.ensures.gained.1 c.give_both.new.list.items c.give_both.ensures
    c.copy_held-copied.result c.copy_held-copied.ensures.begun

pub returns-clause-session : goal.returns-clause-session
returns-clause-session g c =
    let n = c.copy_held-copied.new in
    let t = c.take_both-from in
    session_if g.R.Rules.plan_of g.O.Originals.set_of c.args.copy c.args.moment c.args.list.now.items t.new.list.items c.args.trail.now.items n.trail.items t.result.0 t.result.1 n.from n.to
    c.requires.session c.requires.apart t.ensures c.copy_held-copied.ensures.gained.0 c.copy_held-copied.ensures.gained.1 c.give_both.new.list.items c.give_both.ensures
    c.copy_held-copied.result c.copy_held-copied.ensures.copied c.copy_held-copied.ensures.begun

pub returns-clause-hall : goal.returns-clause-hall
returns-clause-hall g c =
    let n = c.copy_held-copied.new in
    let t = c.take_both-from in
    hall_last g.R.Rules.plan_of g.O.Originals.set_of c.args.copy c.args.moment c.args.list.now.items t.new.list.items c.args.trail.now.items n.trail.items t.result.0 t.result.1 n.from n.to
    c.requires.session c.requires.apart t.ensures c.copy_held-copied.ensures.gained.0 c.copy_held-copied.ensures.gained.1 c.give_both.new.list.items c.give_both.ensures
    (map room_view c.args.rooms.now.items) c.requires.hall
