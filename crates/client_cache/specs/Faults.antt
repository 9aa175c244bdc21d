-- Why a text is not read as a cache.
use Rattle.std.specs.Prelude.{◌≡◌, ℕ, List, None, Some, ⊤}
use Rattle.jm_json.specs.LeastPlaces.{least_from}
use Rattle.client_cache.specs.declared.fault.CacheFault.{CacheFault}
use Rattle.client_cache.specs.declared.fault.CacheFault.TheVariants.{BadCache, NoMemory}

-- the place is the least of these in byte order; out of memory explains itself
abbrev pub IsFaultOf : CacheFault → List (List ℕ) → Type 0
IsFaultOf (BadCache place) places = least_from None places ≡ Some place
IsFaultOf NoMemory places = ⊤
