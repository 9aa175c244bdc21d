-- Orders that are made by one sort: the keys of all records, sorted, each key once.
use Rattle.std.proofs.Common.{◌≡◌, ℕ, ◌<◌, Bool, true, false, ◌||◌, eqb, List, [], ◌∷◌, ◌++◌, map, None, refl, sym, ap, ◌∙◌, subst, arith, ⊎_elim, eqb-true}
use Rattle.std.specs.List.{AllByRecursion, list_any, flat_map, dedup, dedup_from}
use Rattle.std.specs.List.Sorted.{IsStrictlySortedBy, IsPermutation}
use Rattle.std.specs.declared.cmp.Ordering.{Ordering}
use Rattle.std.specs.declared.cmp.Ordering.TheVariants.{Less, Equal, Greater}
use Rattle.std.specs.Ordering.{is_eq}
use Rattle.std.specs.Cmp.{IsTotalOrder}
use Rattle.std.proofs.lemmas.Bool.{cases_Bool, ne_eqb, true≢false}
use Rattle.std.proofs.lemmas.List.Folds.{list_any-append}
use Rattle.std.proofs.lemmas.List.Sorted.{list_any-IsPermutation}
use Rattle.mail_records.specs.Tables.{IsTable, lookup}
use Rattle.mail_records.specs.Orders.{Key, KeysRise, has_in, has_key, key_cmp}
use Rattle.mail_records.specs.OrderSteps.{compare_by}
use Rattle.mail_records.proofs.KeyTables.{has_none}

eq_Equal : (r : Ordering) → is_eq r ≡ true → r ≡ Equal
eq_Equal Less e = absurd (true≢false (sym e))
eq_Equal Equal e = refl
eq_Equal Greater e = absurd (true≢false (sym e))

or_none : (b : Bool) → (b || false) ≡ b
or_none true = refl
or_none false = refl

or_again : (a c : Bool) → (a || (a || c)) ≡ (a || c)
or_again true c = refl
or_again false c = refl

-- ---- entries e with keys f e

module _ {E : Type 0} (f : E → Key) where
  has_mapped : (k : Key) (es : List E) → has_key k (map f es) ≡ list_any (λ e. is_eq (key_cmp (f e) k)) es
  has_mapped k [] = refl
  has_mapped k (e ∷ es) = ap (λ b. is_eq (key_cmp (f e) k) || b) (has_mapped k es)

  -- a permutation has the same keys
  pub has-permutation : (k : Key) (es other : List E) → IsPermutation es other → has_key k (map f other) ≡ has_key k (map f es)
  has-permutation k es other moved =
      has_mapped k other ∙ (sym (list_any-IsPermutation (λ e. is_eq (key_cmp (f e) k)) es other moved) ∙ sym (has_mapped k es))

  all_mapped : (P : Key → Type 0) (es : List E) → AllByRecursion (λ e. P (f e)) es → AllByRecursion P (map f es)
  all_mapped P [] all = tt
  all_mapped P (e ∷ es) all = (all.0, all_mapped P es all.1)

  -- the keys rise where the entries rise by them
  pub keys_rise : (es : List E) → IsStrictlySortedBy (compare_by f) es → KeysRise (map f es)
  unfolding IsStrictlySortedBy
  keys_rise [] rise = tt
  keys_rise (e ∷ es) rise = (all_mapped (λ k. key_cmp (f e) k ≡ Less) es rise.0, keys_rise es rise.1)

  -- entries with the key of the last one that stays can go
  module _ (o : IsTotalOrder key_cmp) where
    abbrev alike : E → E → Bool
    alike x y = is_eq (compare_by f x y)

    has_from : (k : Key) (x : E) (es : List E) → has_key k (map f (dedup_from alike x es)) ≡ has_key k (map f (x ∷ es))
    has_from k x [] = refl
    has_from k x (y ∷ ys) =
        ⊎_elim
        (λ (t : alike y x ≡ true).
        let same : is_eq (key_cmp (f y) k) ≡ is_eq (key_cmp (f x) k) = ap is_eq (o.congr (f y) (f x) k (eq_Equal (key_cmp (f y) (f x)) t)) in
        rw t
        (has_from k x ys
        ∙ (sym (or_again (is_eq (key_cmp (f x) k)) (has_key k (map f ys))) ∙ ap (λ b. is_eq (key_cmp (f x) k) || (b || has_key k (map f ys))) (sym same))))
        (λ (t : alike y x ≡ false). rw t (ap (λ b. is_eq (key_cmp (f x) k) || b) (has_from k y ys)))
        (cases_Bool (alike y x))

    pub has-dedup : (k : Key) (es : List E) → has_key k (map f (dedup alike es)) ≡ has_key k (map f es)
    has-dedup k [] = refl
    has-dedup k (e ∷ es) = has_from k e es

-- ---- the keys of all records

none_past : {R : Type 0} (number : R → ℕ) (n : ℕ) (rows : List R) → AllByRecursion (λ x. n < number x) rows → lookup number n rows ≡ None
none_past number n [] all = refl
none_past number n (r ∷ rs) all =
    let lt : n < number r = all.0 in
    let other : eqb (number r) n ≡ false = ne_eqb (number r) n (λ e. let no : ⊥ = omega (arith, lt, e) in no) in
    rw other (none_past number n rs all.1)

pub has_rows : {R : Type 0} (number : R → ℕ) (keys : R → List Key) → ((r : R) → AllByRecursion (λ k. k.number ≡ number r) (keys r))
    → (k : Key) (rows : List R) → IsTable number rows → has_key k (flat_map keys rows) ≡ has_in keys k (lookup number k.number rows)
has_rows number keys named k [] table = refl
has_rows number keys named k (r ∷ rs) table =
    let parts : has_key k (keys r ++ flat_map keys rs) ≡ (has_key k (keys r) || has_key k (flat_map keys rs)) = list_any-append (λ x. is_eq (key_cmp x k)) (keys r) (flat_map keys rs) in
    let rest = has_rows number keys named k rs table.1 in
    ⊎_elim
    (λ (t : eqb (number r) k.number ≡ true).
    let is : number r ≡ k.number = eqb-true (number r) k.number t in
    let none : lookup number k.number rs ≡ None = none_past number k.number rs (subst (λ n. AllByRecursion (λ x. n < number x) rs) is table.0) in
    rw t (parts ∙ (ap (λ b. has_key k (keys r) || b) (rest ∙ ap (has_in keys k) none) ∙ or_none (has_key k (keys r)))))
    (λ (t : eqb (number r) k.number ≡ false).
    rw t (parts ∙ (ap (λ b. b || has_key k (flat_map keys rs)) (has_none (number r) k t (keys r) (named r)) ∙ rest)))
    (cases_Bool (eqb (number r) k.number))
