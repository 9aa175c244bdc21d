-- A search by halves in sorted numbers, and what it says of the list.
use Rattle.std.proofs.Common.{◌≡◌, ◌⊎◌, ℕ, ◌<◌, ◌≤◌, inl, inr, true, false, eqb, List, length, get_or, Result, Ok, Err, is_ok, sym, subst, nat_cmp, Ordering, Less, Equal, Greater, arith, eq-eqb, ne_eqb}
use Rattle.std.specs.List.Sorted.{IsSorted, IsBinarySearchResult, IsPartitionPoint, IsSearchInRange}
use Rattle.std.specs.Ordering.{MatchOrdering}
use Rattle.std.proofs.lemmas.List.Folds.{list_any_at, list_any_none}
use Rattle.std.specs.Cmp.{ranks}
use Rattle.std.proofs.lemmas.Bool.{cases_lt}
use Rattle.std.proofs.lemmas.Cmp.{nat_cmp_total}
use Rattle.std.proofs.slice.Searches.{sorted_rises}
use Rattle.jm_base.specs.Splices.{has}

-- what an answer says of two numbers
means : (y x : ℕ) (o : Ordering) → nat_cmp y x ≡ o → MatchOrdering o (y < x) (y ≡ x) (x < y)
means y x o is = subst (λ (r : Ordering). MatchOrdering r (y < x) (y ≡ x) (x < y)) is (ranks y x)

is_less : (y x : ℕ) → nat_cmp y x ≡ Less → eqb y x ≡ false
is_less y x is = let l : y < x = means y x Less is in ne_eqb y x (λ e. omega arith)

is_greater : (y x : ℕ) → nat_cmp y x ≡ Greater → eqb y x ≡ false
is_greater y x is = let l : x < y = means y x Greater is in ne_eqb y x (λ e. omega arith)

is_equal : (y x : ℕ) → nat_cmp y x ≡ Equal → eqb y x ≡ true
is_equal y x is = eq-eqb y x (means y x Equal is)

-- the answer of a search by halves in sorted numbers
pub search_is : (xs : List ℕ) (x : ℕ) (r : Result ℕ ℕ) → IsSorted nat_cmp xs → IsSearchInRange r (length xs) → IsBinarySearchResult (λ y. nat_cmp y x) xs r → is_ok r ≡ has xs x
search_is xs x (Ok i) sorted range found = sym (list_any_at (λ y. eqb y x) xs i 0 range (is_equal (get_or xs i 0) x (found 0)))
search_is xs x (Err i) sorted range found =
    let p = found (sorted_rises nat_cmp_total (λ y. y) xs x sorted) in
    sym (list_any_none (λ y. eqb y x) xs (λ k d l. apart p k d l (cases_lt k i)))
  where
    apart : IsPartitionPoint (λ y. nat_cmp y x ≡ Less) (λ y. nat_cmp y x ≡ Greater) xs i → (k d : ℕ) → k < length xs → (k < i) ⊎ (i ≤ k) → eqb (get_or xs k d) x ≡ false
    apart p k d l (inr h) = is_greater (get_or xs k d) x (p.1 k d h l)
    apart p k d l (inl h) = is_less (get_or xs k d) x (p.0 k d (omega arith) h)
