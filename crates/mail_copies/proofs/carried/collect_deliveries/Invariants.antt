use Rattle.std.proofs.Common.{◌≡◌, ◌≤◌, ◌++◌, map, drop, option_map}
use Rattle.jm_json.specs.Json.{tree_of}
use Rattle.mail_copies.specs.Carried.{deliveries}
use Rattle.mail_copies.specs.Views.{delivery_of}
use Rattle.mail_copies.proofs.carried.collect_deliveries.Given as goal

abbrev pub invariant-loop-item : goal.invariant-loop-item
invariant-loop-item l = record {
  used : l.used ≤ l.item-index;
  found : map (λ d. option_map delivery_of d) l.found.items ++ deliveries (map tree_of (drop l.item-index l.items)) (drop l.used l.blobs)
      ≡ deliveries (map tree_of l.items) l.blobs;
}
