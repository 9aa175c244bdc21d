use Rattle.std.proofs.Common.{◌∷◌, [], map, sym, ap, ◌∙◌, subst}
use Rattle.std.proofs.lemmas.List.{map-append}
use Rattle.account_hall.specs.Halls.{AreOf, IsFrontPass, room_view}
use Rattle.account_hall.proofs.Building.{all_front, last_lock}
use Rattle.account_hall.proofs.hall.Hall.part.Goals as goal

pub invariant_of-front : goal.invariant_of-front
invariant_of-front g c = record {
  few = c.front.invariant.few;
  each = all_front (IsFrontPass c.front.inside.inside c.front.inside.admitted) c.take_last-root.new.self.items c.take_last-root.result c.front.inside.roots.items c.take_last-root.ensures.items c.front.invariant.each;
}

pub returns-clause-some : goal.returns-clause-some
returns-clause-some g c = record {
  room = room_view c.take_last-room.result;
  root = c.take_last-root.result;
  rooms = sym c.self.view_is ∙ (ap (map room_view) c.take_last-room.ensures.items ∙ map-append room_view c.take_last-room.new.self.items (c.take_last-room.result ∷ []));
  roots = ap (λ v. v.roots) (sym c.front.view_is) ∙ c.take_last-root.ensures.items;
  name_is = c.close_room-account.ensures.name;
  closed = c.close_room-account.ensures.closed;
}

pub returns-clause-hall : goal.returns-clause-hall
returns-clause-hall g c =
    let of : AreOf (map room_view c.self.inside.rooms.items) c.front.inside.roots.items = subst (λ v. AreOf v c.front.inside.roots.items) (sym c.self.view_is) (subst (λ v. AreOf c.args.self.now v.roots) (sym c.front.view_is) c.requires.hall) in
    let both = last_lock c.self.inside.rooms.items c.take_last-room.new.self.items c.take_last-room.result c.front.inside.roots.items c.take_last-root.new.self.items c.take_last-root.result c.take_last-room.ensures.items c.take_last-root.ensures.items of in
    both.0
