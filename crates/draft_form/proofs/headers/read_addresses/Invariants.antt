use Rattle.std.proofs.Common.{◌≡◌, ◌++◌, map, drop}
use Rattle.jm_json.specs.Json.{tree_of}
use Rattle.draft_form.specs.Headers.{address_of}
use Rattle.draft_form.proofs.headers.read_addresses.Given as goal

abbrev pub invariant-loop-item : goal.invariant-loop-item
invariant-loop-item l =
    l.addresses ++ map address_of (map tree_of (drop l.item-index l.items)) ≡ map address_of (map tree_of l.items)
