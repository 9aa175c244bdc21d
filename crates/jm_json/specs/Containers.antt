-- How many objects and lists a text has, by its tokens.
use Rattle.std.specs.Prelude.{ℕ, suc, List, [], ◌∷◌}
use Rattle.json.specs.Token.{Token, begin_object, end_object, begin_array, end_array, key, string, number, boolean, null, bad}

abbrev pub containers_in : List Token → ℕ
containers_in [] = 0
containers_in (begin_object ∷ ts) = suc (containers_in ts)
containers_in (end_object ∷ ts) = containers_in ts
containers_in (begin_array ∷ ts) = suc (containers_in ts)
containers_in (end_array ∷ ts) = containers_in ts
containers_in (key s ∷ ts) = containers_in ts
containers_in (string s ∷ ts) = containers_in ts
containers_in (number s ∷ ts) = containers_in ts
containers_in (boolean b ∷ ts) = containers_in ts
containers_in (null ∷ ts) = containers_in ts
containers_in (bad ∷ ts) = containers_in ts
