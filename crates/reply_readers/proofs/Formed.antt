-- A response in which no place is found is of its form.
use Rattle.std.proofs.Common.{◌≡◌, ℕ, List, [], Option, None, Result, Ok, Err, IfOk, sym, ◌∙◌}
use Rattle.jm_json.specs.LeastPlaces.{least_from}
use Rattle.jm_json.proofs.Least.{none_left}

pub formed : {T E : Type 0} (r : Result T E) (o : Option (List ℕ)) (places : List (List ℕ)) → o ≡ None → o ≡ least_from None places → IfOk r (λ x. places ≡ [])
formed (Ok x) o places none is = none_left places (sym is ∙ none)
formed (Err e) o places none is = tt
