use Rattle.std.proofs.Common.{map, arith}
use Rattle.account_hall.specs.Halls.{room_view}
use Rattle.account_hall.proofs.Grips.{has_turn, of_one, still_free, taken_back, taken_then}
use Rattle.account_hall.proofs.Places.{flipped}
use Rattle.account_hall.proofs.taking.take_both.Goals as goal

pub take_higher-second-requires-clause-hall : goal.take_higher-second-requires-clause-hall
take_higher-second-requires-clause-hall g c κs within =
    of_one c.args.from c.args.to c.args.list.now.items c.take_account-first.new.list.items c.take_account-first.result c.requires.apart c.take_account-first.ensures (map room_view c.args.rooms.now.items) c.requires.hall

pub take_higher-second-requires-clause-free : goal.take_higher-second-requires-clause-free
take_higher-second-requires-clause-free g c κs within =
    still_free c.args.from c.args.to c.args.list.now.items c.take_account-first.new.list.items c.take_account-first.result c.requires.apart c.take_account-first.ensures c.requires.free.1

pub take_higher-second-requires-clause-held : goal.take_higher-second-requires-clause-held
take_higher-second-requires-clause-held g c κs within =
    has_turn c.args.from c.args.to c.args.list.now.items c.take_account-first.new.list.items c.take_account-first.result c.requires.apart c.take_account-first.ensures

pub returns-then-from-to : goal.returns-then-from-to
returns-then-from-to g c =
    taken_then c.args.from c.args.to c.args.list.now.items c.take_account-first.new.list.items c.take_account-first.result c.requires.apart c.take_account-first.ensures (omega arith) c.take_higher-second.new.list.items c.take_higher-second.result c.take_higher-second.ensures

pub take_higher-second-requires-2-clause-hall : goal.take_higher-second-requires-2-clause-hall
take_higher-second-requires-2-clause-hall g c κs within =
    of_one c.args.to c.args.from c.args.list.now.items c.take_account-first-2.new.list.items c.take_account-first-2.result (flipped c.args.from c.args.to c.requires.apart) c.take_account-first-2.ensures (map room_view c.args.rooms.now.items) c.requires.hall

pub take_higher-second-requires-2-clause-free : goal.take_higher-second-requires-2-clause-free
take_higher-second-requires-2-clause-free g c κs within =
    still_free c.args.to c.args.from c.args.list.now.items c.take_account-first-2.new.list.items c.take_account-first-2.result (flipped c.args.from c.args.to c.requires.apart) c.take_account-first-2.ensures c.requires.free.0

pub take_higher-second-requires-2-clause-held : goal.take_higher-second-requires-2-clause-held
take_higher-second-requires-2-clause-held g c κs within =
    has_turn c.args.to c.args.from c.args.list.now.items c.take_account-first-2.new.list.items c.take_account-first-2.result (flipped c.args.from c.args.to c.requires.apart) c.take_account-first-2.ensures

pub returns : goal.returns
returns g c =
    taken_back c.args.to c.args.from c.args.list.now.items c.take_account-first-2.new.list.items c.take_account-first-2.result (flipped c.args.from c.args.to c.requires.apart) c.take_account-first-2.ensures (let apart = c.requires.apart in omega arith) c.take_higher-second-2.new.list.items c.take_higher-second-2.result c.take_higher-second-2.ensures
