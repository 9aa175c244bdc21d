use Rattle.std.proofs.Common.{◌≡◌, ◌≤◌, ◌++◌, List, map, reverse, vec_len}
use Rattle.jmap_server.specs.Deeds.{GotKeeper, IsTold, Lent}
use Rattle.jmap_server.specs.Openings.{keepers_of, openings_of}
use Rattle.jmap_server.proofs.accounts.close_accounts.Given as goal

abbrev pub invariant-account : goal.invariant-account
invariant-account g l = record {
  told : (back : List (Lent g.row.W-Keep.Denot)) × IsTold (g.W.World.told l.fn.world) (g.W.World.told l.world) (map GotKeeper back)
      × (keepers_of (openings_of l.fn.accounts.items) ≡ keepers_of (openings_of l.accounts.items) ++ reverse back);
  faults : g.W.World.faults l.world ≡ g.W.World.faults l.fn.world;
  later : g.W.World.load_faults l.fn.world ≤ g.W.World.load_faults l.world;
}

abbrev pub decreases-account : goal.decreases-account
decreases-account g l = vec_len l.accounts
