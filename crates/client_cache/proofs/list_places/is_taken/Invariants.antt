use Rattle.std.proofs.Common.{◌≡◌, map, drop}
use Rattle.std.specs.List.{list_any}
use Rattle.jm_json.specs.Json.{tree_of}
use Rattle.client_cache.specs.CacheForms.{is_name_of, name_in}
use Rattle.client_cache.proofs.list_places.is_taken.Given as goal

abbrev pub invariant-loop-list : goal.invariant-loop-list
invariant-loop-list l = list_any (is_name_of l.name) (map (λ j. name_in (tree_of j)) (drop l.list-index l.lists)) ≡ list_any (is_name_of l.name) (map (λ j. name_in (tree_of j)) l.lists)
