use Rattle.std.proofs.Common.{◌≡◌, [], map, drop, take}
use Rattle.jm_json.specs.Json.{tree_of}
use Rattle.jm_json.specs.LeastPlaces.{least_from}
use Rattle.client_cache.specs.CacheForms.{list_items_places, name_in}
use Rattle.client_cache.proofs.list_places.choose_in_items.Given as goal

abbrev pub invariant-loop-index : goal.invariant-loop-index
invariant-loop-index l = least_from l.least (list_items_places l.pointer (map (λ j. name_in (tree_of j)) (take l.index l.items)) (map tree_of (drop l.index l.items))) ≡ least_from l.fn.least (list_items_places l.pointer [] (map tree_of l.items))
