-- A value is read if and only if there is no place in it that is not of its form.
use Rattle.std.specs.Prelude.{◌≡◌, ℕ, List, [], true, is_some, ◌↔◌}
use Rattle.jm_base.specs.declared.identifiers.Kind.{Kind}
use Rattle.jm_json.specs.Tree.{Tree}
use Rattle.method_args.specs.Added.{added_in}
use Rattle.method_args.specs.Ids.{ids_in}
use Rattle.method_args.specs.Places.{added_places, ids_places}

-- of a list of identifiers
abbrev pub IdsAreReadWithoutPlaces : Type 0
IdsAreReadWithoutPlaces =
    (kind : Kind) (pointer : List ℕ) (t : Tree)
    → (is_some (ids_in kind t) ≡ true) ↔ (ids_places kind pointer t ≡ [])

-- of a list of records with their indices
abbrev pub AddedAreReadWithoutPlaces : Type 0
AddedAreReadWithoutPlaces =
    (kind : Kind) (pointer : List ℕ) (t : Tree)
    → (is_some (added_in kind t) ≡ true) ↔ (added_places kind pointer t ≡ [])
