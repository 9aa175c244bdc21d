use Rattle.std.proofs.Common.{◌≡◌, map, drop}
use Rattle.jm_json.specs.Json.{member_of}
use Rattle.jm_json.specs.LeastPlaces.{least_from}
use Rattle.client_cache.specs.CacheForms.{entry_places}
use Rattle.client_cache.proofs.cache_places.choose_in_entries.Given as goal

abbrev pub invariant-loop-entry : goal.invariant-loop-entry
invariant-loop-entry l = least_from l.least (entry_places l.kind l.pointer (map member_of (drop l.entry-index l.entries))) ≡ least_from l.fn.least (entry_places l.kind l.pointer (map member_of l.entries))
