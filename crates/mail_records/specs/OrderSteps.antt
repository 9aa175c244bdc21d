-- What becomes of a list that rises by an order R as items are put in and taken out, and parts of a
-- list of keys.
use Rattle.std.specs.Prelude.{◌≡◌, ℕ, ◌≤◌, Bool, true, false, not, if◌then◌else◌, List, [], ◌∷◌, length, take, drop, filter, Option}
use Rattle.std.specs.List.{AllByRecursion}
use Rattle.std.specs.declared.cmp.Ordering.{Ordering}
use Rattle.std.specs.Ordering.{match_ordering, ordering_then, nat_cmp, int_cmp, is_eq, is_lt}
use Rattle.std.specs.Option.{option_cmp}
use Rattle.std.specs.Cmp.Lexicographic.{slice_cmp}
use Rattle.mail_records.specs.Tables.{without}
use Rattle.mail_records.specs.Orders.{Key, key_cmp}

-- with this item at its index, if none is equal to it
abbrev pub put_in : {K : Type 0} → (K → K → Ordering) → K → List K → List K
put_in R k [] = k ∷ []
put_in R k (x ∷ xs) = match_ordering (R x k) (x ∷ put_in R k xs) (x ∷ xs) (k ∷ x ∷ xs)

-- with these items at their indices
abbrev pub put_all_in : {K : Type 0} → (K → K → Ordering) → List K → List K → List K
put_all_in R [] xs = xs
put_all_in R (k ∷ ks) xs = put_all_in R ks (put_in R k xs)

-- without what is equal to this item
abbrev pub take_out : {K : Type 0} → (K → K → Ordering) → K → List K → List K
take_out R k xs = filter (λ x. not (is_eq (R x k))) xs

-- without what is equal to one of these items
abbrev pub take_all_out : {K : Type 0} → (K → K → Ordering) → List K → List K → List K
take_all_out R [] xs = xs
take_all_out R (k ∷ ks) xs = take_all_out R ks (take_out R k xs)

-- i is the index of the first entry whose key is not below k
pub record IsPlaceBy {E K : Type 0} (R : K → K → Ordering) (f : E → K) (k : K) (es : List E) (i : ℕ)
    : Type 0 where
  pub within : i ≤ length es
  pub before : AllByRecursion (λ e. is_lt (R (f e) k) ≡ true) (take i es)
  pub from : AllByRecursion (λ e. is_lt (R (f e) k) ≡ false) (drop i es)

-- the order of two entries by their keys
abbrev pub compare_by : {E : Type 0} → (E → Key) → E → E → Ordering
compare_by f a b = key_cmp (f a) (f b)

-- the records without that of this number, if it moves
abbrev pub rows_besides : {R : Type 0} → Bool → (R → ℕ) → ℕ → List R → List R
rows_besides moved number n rows = if moved then without number n rows else rows

-- the order of a key's group and text to these
abbrev pub prefix_cmp : Option ℕ → List ℕ → Key → Ordering
prefix_cmp group text k =
    ordering_then (option_cmp nat_cmp k.group group) (slice_cmp nat_cmp k.text text)

-- the order of what keys have after group and text
abbrev pub rest_cmp : Key → Key → Ordering
rest_cmp a b =
    ordering_then (int_cmp a.received b.received)
    (ordering_then (nat_cmp a.number b.number) (nat_cmp a.place b.place))
