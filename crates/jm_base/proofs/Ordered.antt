-- What a sort and a `dedup` keep of numbers.
use Rattle.std.proofs.Common.{◌≡◌, ℕ, Bool, true, false, ◌||◌, eqb, List, [], ◌∷◌, refl, sym, ap₂, ◌∙◌, arith, IsPermutation, Contains, eqb-true}
use Rattle.std.specs.List.{list_any, dedup}
use Rattle.std.proofs.lemmas.Cmp.{nat_eq_equiv}
use Rattle.std.proofs.lemmas.List.Sorted.{list_any-IsPermutation}
use Rattle.std.proofs.lemmas.List.Kept.{Contains-dedup_nat, Contains-from_dedup}
use Rattle.std.proofs.lemmas.Map.Views.{list_any-from_Contains, Contains-from_any}

eqb_turns : (x y : ℕ) → eqb x y ≡ eqb y x
eqb_turns x y = grind arith

turned : (xs : List ℕ) (n : ℕ) → list_any (λ x. eqb x n) xs ≡ list_any (eqb n) xs
turned [] n = refl
turned (x ∷ xs) n = ap₂ (λ a b. a || b) (eqb_turns x n) (turned xs n)

Contains-any : (xs : List ℕ) (n : ℕ) → list_any (λ x. eqb x n) xs ≡ true → Contains xs n
Contains-any xs n h = Contains-from_any {eq = eqb} (λ x y k. eqb-true x y k) n xs (sym (turned xs n) ∙ h)

any-Contains : (xs : List ℕ) (n : ℕ) → Contains xs n → list_any (λ x. eqb x n) xs ≡ true
any-Contains xs n h = turned xs n ∙ list_any-from_Contains nat_eq_equiv n xs h

both : (a b : Bool) → (a ≡ true → b ≡ true) → (b ≡ true → a ≡ true) → a ≡ b
both true b f g = sym (f refl)
both false true f g = g refl
both false false f g = refl

pub any-dedup : (xs sorted : List ℕ) → IsPermutation xs sorted → (n : ℕ) → list_any (λ x. eqb x n) (dedup eqb sorted) ≡ list_any (λ x. eqb x n) xs
any-dedup xs sorted moved n =
    both (list_any (λ x. eqb x n) (dedup eqb sorted)) (list_any (λ x. eqb x n) sorted)
    (λ h. any-Contains sorted n (Contains-from_dedup eqb sorted n (Contains-any (dedup eqb sorted) n h)))
    (λ h. any-Contains (dedup eqb sorted) n (Contains-dedup_nat sorted n (Contains-any sorted n h)))
    ∙ sym (list_any-IsPermutation (λ x. eqb x n) xs sorted moved)
