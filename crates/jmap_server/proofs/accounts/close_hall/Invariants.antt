use Rattle.std.proofs.Common.{◌≡◌, ◌≤◌, ◌++◌, List, map, length}
use Rattle.account_lock.specs.Views.{PassFacts}
use Rattle.account_hall.specs.Halls.{AreOf, RoomView}
use Rattle.jmap_server.specs.Deeds.{GotKeeper, IsTold}
use Rattle.jmap_server.specs.Openings.{AreTakenOut, Closing, keepers_back}
use Rattle.jmap_server.proofs.accounts.close_hall.Given as goal

abbrev pub invariant-account : goal.invariant-account
invariant-account g l = record {
  told : (rooms : List RoomView) × (roots : List PassFacts) × (closings : List (Closing g.row.W-Keep.Denot))
      × IsTold (g.W.World.told l.fn.world) (g.W.World.told l.world) (map GotKeeper (keepers_back closings))
      × (l.fn.hall ≡ l.hall ++ rooms) × (l.fn.front.roots ≡ l.front.roots ++ roots)
      × AreTakenOut g.W.Keep.Keeper.kept g.W.Keep.Keeper.append_faults rooms roots closings;
  faults : g.W.World.faults l.world ≡ g.W.World.faults l.fn.world;
  later : g.W.World.load_faults l.fn.world ≤ g.W.World.load_faults l.world;
  hall : AreOf l.hall l.front.roots;
  none_in : l.front.inside ≡ 0;
}

abbrev pub decreases-account : goal.decreases-account
decreases-account g l = length l.hall
