-- What is delivered at an index.
use Rattle.std.proofs.Common.{◌≡◌, ℕ, zero, suc, List, [], ◌∷◌, drop, Option, Some, None, refl, ap, ◌∙◌}
use Rattle.std.specs.List.{slice_get}
use Rattle.mail_copies.specs.Carried.{Delivery}
use Rattle.mail_copies.specs.Copies.{first_delivery}

abbrev flat : Option (Option Delivery) → Option Delivery
flat None = None
flat (Some d) = d

first_is : (ds : List (Option Delivery)) (i : ℕ) → first_delivery (drop i ds) ≡ flat (slice_get ds i)
first_is [] zero = refl
first_is [] (suc i) = refl
first_is (d ∷ ds) zero = refl
first_is (d ∷ ds) (suc i) = first_is ds i

pub first_there : (ds : List (Option Delivery)) (i : ℕ) (d : Option Delivery) → slice_get ds i ≡ Some d → first_delivery (drop i ds) ≡ d
first_there ds i d e = first_is ds i ∙ ap flat e
