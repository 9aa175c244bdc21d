use Rattle.std.proofs.Common.{◌≡◌, map, drop}
use Rattle.jm_json.specs.Json.{tree_of}
use Rattle.sort_terms.specs.Forms.{invalid_items}
use Rattle.sort_terms.proofs.forms.find_invalid_items.Given as goal

abbrev pub invariant-loop-item : goal.invariant-loop-item
invariant-loop-item l = invalid_items l.kind (map tree_of (drop l.item-index l.items)) ≡ invalid_items l.kind (map tree_of l.items)
