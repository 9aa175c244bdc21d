use Rattle.std.proofs.Common.{None, map, sym, ap, ◌∙◌, subst, arith}
use Rattle.account_hall.specs.Halls.{AreOf, room_view}
use Rattle.account_hall.specs.HeldAccounts.{MayRelease, released_to, turn_at}
use Rattle.account_hall.proofs.Places.{flipped}
use Rattle.account_hall.proofs.Releases.{has_turn, of_released, still_may}
use Rattle.account_hall.proofs.taking.give_both.Goals as goal

pub give_higher-requires-clause-low : goal.give_higher-requires-clause-low
give_higher-requires-clause-low g c κs within = has_turn c.args.list.now.items None c.args.from c.requires.held.0

pub give_back-requires-clause-hall : goal.give_back-requires-clause-hall
give_back-requires-clause-hall g c κs within =
    let ks = c.args.list.now.items in
    subst (AreOf (map room_view c.args.rooms.now.items)) (sym c.give_higher.ensures) (of_released ks (turn_at ks c.args.from.account) c.args.to c.requires.held.1 (map room_view c.args.rooms.now.items) c.requires.hall)

pub give_back-requires-clause-held : goal.give_back-requires-clause-held
give_back-requires-clause-held g c κs within =
    let ks = c.args.list.now.items in
    subst (λ ps. MayRelease ps c.args.from) (sym c.give_higher.ensures)
    (still_may ks (turn_at ks c.args.from.account) c.args.to c.requires.held.1 c.args.from c.requires.held.0 (flipped c.args.from.account c.args.to.account c.requires.apart))

pub returns-then-from-to : goal.returns-then-from-to
returns-then-from-to g c =
    (λ _. c.give_back.ensures ∙ ap (λ ps. released_to ps None c.args.from) c.give_higher.ensures, λ more. absurd (omega (arith, more)))

pub give_higher-requires-2-clause-low : goal.give_higher-requires-2-clause-low
give_higher-requires-2-clause-low g c κs within = has_turn c.args.list.now.items None c.args.to c.requires.held.1

pub give_back-requires-2-clause-hall : goal.give_back-requires-2-clause-hall
give_back-requires-2-clause-hall g c κs within =
    let ks = c.args.list.now.items in
    subst (AreOf (map room_view c.args.rooms.now.items)) (sym c.give_higher-2.ensures) (of_released ks (turn_at ks c.args.to.account) c.args.from c.requires.held.0 (map room_view c.args.rooms.now.items) c.requires.hall)

pub give_back-requires-2-clause-held : goal.give_back-requires-2-clause-held
give_back-requires-2-clause-held g c κs within =
    let ks = c.args.list.now.items in
    subst (λ ps. MayRelease ps c.args.to) (sym c.give_higher-2.ensures)
    (still_may ks (turn_at ks c.args.to.account) c.args.from c.requires.held.0 c.args.to c.requires.held.1 c.requires.apart)

pub returns : goal.returns
returns g c =
    (λ less. absurd (omega (arith, less)), λ _. c.give_back-2.ensures ∙ ap (λ ps. released_to ps None c.args.to) c.give_higher-2.ensures)
