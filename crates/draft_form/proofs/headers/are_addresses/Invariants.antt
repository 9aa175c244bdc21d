use Rattle.std.proofs.Common.{◌≡◌, map, drop}
use Rattle.jm_json.specs.Json.{tree_of}
use Rattle.std.specs.List.{list_all}
use Rattle.draft_form.specs.Members.{is_object}
use Rattle.draft_form.specs.Headers.{has_address}
use Rattle.draft_form.proofs.headers.are_addresses.Given as goal

abbrev pub invariant-loop-item : goal.invariant-loop-item
invariant-loop-item l =
    list_all (is_object has_address) (map tree_of l.items) ≡ list_all (is_object has_address) (map tree_of (drop l.item-index l.items))
