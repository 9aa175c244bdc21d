use Rattle.std.proofs.Common.{◌≡◌, ◌++◌, ℕ, map, length}
use Rattle.jm_json.specs.Json.{tree_of}
use Rattle.client_cache.specs.Views.{list_view}
use Rattle.client_cache.specs.CacheReading.{list_in}
use Rattle.client_cache.proofs.reading.read_lists.Given as goal

abbrev pub invariant-loop-value : goal.invariant-loop-value
invariant-loop-value l = map list_view l.lists ++ map list_in (map tree_of l.rest.items) ≡ map list_in l.fn.items

abbrev pub decreases-loop-value : goal.decreases-loop-value
decreases-loop-value l = length l.rest.items
