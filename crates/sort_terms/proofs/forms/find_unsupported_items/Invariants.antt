use Rattle.std.proofs.Common.{◌≡◌, map, drop}
use Rattle.jm_json.specs.Json.{tree_of}
use Rattle.sort_terms.specs.Forms.{unsupported_items}
use Rattle.sort_terms.proofs.forms.find_unsupported_items.Given as goal

abbrev pub invariant-loop-item : goal.invariant-loop-item
invariant-loop-item l = unsupported_items l.kind (map tree_of (drop l.item-index l.items)) ≡ unsupported_items l.kind (map tree_of l.items)
