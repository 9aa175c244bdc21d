-- The parts of a path.
use Rattle.std.proofs.Common.{◌≡◌, ℕ, Bool, true, false, cond, eqb, List, [], ◌∷◌, None, refl, ap}
use Rattle.jm_json.specs.Pointer.{cut, onto}
use Rattle.email_set.specs.Patches.{property_of}

abbrev HasFirst : List (List ℕ) → Type 0
HasFirst ps = (q : List ℕ) × (qs : List (List ℕ)) × (ps ≡ q ∷ qs)

onto_first : (x : ℕ) (ps : List (List ℕ)) → HasFirst (onto x ps)
onto_first x [] = (x ∷ [], [], refl)
onto_first x (p ∷ ps) = (x ∷ p, ps, refl)

first_step : (b : Bool) (x : ℕ) (ps : List (List ℕ)) → HasFirst (cond b ([] ∷ ps) (onto x ps))
first_step true x ps = ([], ps, refl)
first_step false x ps = onto_first x ps

-- a path has at least one part
first_part : (xs : List ℕ) → HasFirst (cut xs)
first_part [] = ([], [], refl)
first_part (x ∷ xs) = first_step (eqb x 47) x (cut xs)

-- a path of more than one part names no property
pub no_property : (p xs : List ℕ) → property_of (p ∷ cut xs) ≡ None
no_property p xs = let first = first_part xs in ap (λ (ps : List (List ℕ)). property_of (p ∷ ps)) first.2
