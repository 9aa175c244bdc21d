use Rattle.std.proofs.Common.{◌≡◌, ◌≤◌, List, map, take, length, vec_len}
use Rattle.std.specs.List.{AllByRecursion}
use Rattle.std.specs.Prelude.{vec_capacity}
use Rattle.account_hall.specs.Building.{IsFresh}
use Rattle.jmap_server.specs.Deeds.{IsTold, Lent, account_of, gave}
use Rattle.jmap_server.specs.Openings.{AreOpenings, openings_of}
use Rattle.jmap_server.specs.Serving.{names_in}
use Rattle.jmap_server.proofs.accounts.open_each.Given as goal

abbrev pub invariant-id : goal.invariant-id
invariant-id g l = record {
  told : (given : List (Lent g.row.W-Keep.Denot)) × IsTold (g.W.World.told l.fn.world) (g.W.World.told l.world) (map (gave l.folder) given)
      × (length given ≡ l.id-index) × (map account_of given ≡ take l.id-index l.ids)
      × AreOpenings g.W.Keep.Keeper.kept (g.F.Rules.Rules.is_whole (g.F.RulesSource.rules l.source)) given (openings_of l.accounts.items);
  names : names_in l.accounts.items ≡ take l.id-index l.ids;
  count : vec_len l.accounts ≡ l.id-index;
  capacity : vec_capacity l.accounts ≡ vec_capacity l.fn.accounts;
  fresh : AllByRecursion (IsFresh {K = g.row.W-Keep.Denot} {R = g.row.F-Rules.Denot}) l.accounts.items;
  within : l.id-index ≤ length l.ids;
  faults : g.W.World.faults l.fn.world ≤ g.W.World.faults l.world;
  loads : g.W.World.load_faults l.fn.world ≤ g.W.World.load_faults l.world;
}
