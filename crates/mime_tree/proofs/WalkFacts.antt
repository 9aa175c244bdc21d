-- A tree in walk order, with a limit and with numbers.
use Rattle.std.proofs.Common.{◌≡◌, ℕ, zero, suc, ◌+◌, ◌-◌, Bool, true, false, not, cond, List, [], ◌∷◌, ◌++◌, length, take, None, Some, refl, ap, sym, ◌∙◌, arith, length-append}
use Rattle.std.specs.Prelude.{is_some, filter, if◌then◌else◌}
use Rattle.std.specs.List.{filter_map, cons_option}
use Rattle.mime_type.specs.PartTrees.{Node, PartTrees, none, part}
use Rattle.mime_tree.specs.PartLimit.{walked, kept, numbered, number_of, next_number}
use Rattle.mime_tree.specs.Numbers.{is_leaf, leaf_count, numbers_in, counted_from}

take_none : (n : ℕ) → let none' : List Node = [] in take n none' ≡ none'
take_none zero = refl
take_none (suc n) = refl

nil_before : {X : Type 0} (n : ℕ) (ys : List X) → take n [] ++ ys ≡ ys
nil_before zero ys = refl
nil_before (suc n) ys = refl

take_both : {X : Type 0} (n : ℕ) (xs ys : List X) → take n (xs ++ ys) ≡ take n xs ++ take (n - length xs) ys
take_both n [] ys = let e : n - 0 ≡ n = omega arith in rw e (sym (nil_before n (take n ys)))
take_both zero (x ∷ xs) ys = let e : 0 - suc (length xs) ≡ 0 = omega arith in rw e refl
take_both (suc n) (x ∷ xs) ys = let e : suc n - suc (length xs) ≡ n - length xs = omega arith in rw e (ap (λ t. x ∷ t) (take_both n xs ys))

kept_left : (f : PartTrees) (n : ℕ) → (kept f n).count ≡ n - length (walked f)
kept_left none n = omega arith
kept_left (part x a b) zero = omega arith
kept_left (part x a b) (suc n) = omega (arith, kept_left a n, kept_left b (kept a n).count, length-append (walked a) (walked b))

-- the first parts in walk order are kept
pub walked-kept : (f : PartTrees) (n : ℕ) → walked (kept f n).parts ≡ take n (walked f)
walked-kept none n = sym (take_none n)
walked-kept (part x a b) zero = refl
walked-kept (part x a b) (suc n) = ap (λ t. x ∷ t) (
    ap (λ t. t ++ walked (kept b (kept a n).count).parts) (walked-kept a n)
    ∙ ap (λ t. take n (walked a) ++ t) (walked-kept b (kept a n).count ∙ ap (λ k. take k (walked b)) (kept_left a n))
    ∙ sym (take_both n (walked a) (walked b)))

filter_both : {X : Type 0} (p : X → Bool) → (xs ys : List X) → length (filter p (xs ++ ys)) ≡ length (filter p xs) + length (filter p ys)
filter_both p [] ys = omega arith
filter_both p (x ∷ xs) ys = elim (p x) as (λ v. length (cond v (x ∷ filter p (xs ++ ys)) (filter p (xs ++ ys))) ≡ length (cond v (x ∷ filter p xs) (filter p xs)) + length (filter p ys)) [
  | true ↦ omega (arith, filter_both p xs ys)
  | false ↦ filter_both p xs ys
]

numbers_both : (xs ys : List Node) → filter_map (λ (x : Node). x.number) (xs ++ ys) ≡ filter_map (λ (x : Node). x.number) xs ++ filter_map (λ (x : Node). x.number) ys
numbers_both [] ys = refl
numbers_both (x ∷ xs) ys = elim x.number as (λ o. cons_option o (filter_map (λ (x : Node). x.number) (xs ++ ys)) ≡ cons_option o (filter_map (λ (x : Node). x.number) xs) ++ filter_map (λ (x : Node). x.number) ys) [
  | None ↦ numbers_both xs ys
  | Some k ↦ ap (λ t. k ∷ t) (numbers_both xs ys)
]

counted_both : (n k j : ℕ) → counted_from n (k + j) ≡ counted_from n k ++ counted_from (n + k) j
counted_both n zero j =
    let none_more : 0 + j ≡ j = omega arith in
    let same : n ≡ n + 0 = omega arith in
    ap (counted_from n) none_more ∙ ap (λ i. counted_from i j) same
counted_both n (suc k) j =
    let one_more : suc k + j ≡ suc (k + j) = omega arith in
    let same : n + 1 + k ≡ n + suc k = omega arith in
    ap (counted_from n) one_more ∙ ap (λ t. n ∷ t) (counted_both (n + 1) k j ∙ ap (λ i. counted_from (n + 1) k ++ counted_from i j) same)

-- 1 for a leaf
abbrev ones : Node → ℕ
ones x = if is_some x.boundary then 0 else 1

next_ones : (x : Node) (n : ℕ) → next_number x n ≡ n + ones x
next_ones x n = elim (is_some x.boundary) as (λ v. cond v n (n + 1) ≡ n + cond v 0 1) [ true ↦ omega arith | false ↦ refl ]

leaf_count_part : (x : Node) (a b : PartTrees) → leaf_count (part x a b) ≡ ones x + (leaf_count a + leaf_count b)
leaf_count_part x a b =
    let inner = filter is_leaf (walked a ++ walked b) in
    let both : length inner ≡ leaf_count a + leaf_count b = filter_both is_leaf (walked a) (walked b) in
    elim (is_some x.boundary) as (λ v. length (cond (not v) (x ∷ inner) inner) ≡ cond v 0 1 + (leaf_count a + leaf_count b)) [
      | true ↦ omega arith
      | false ↦ omega arith
    ]

next_after : (f : PartTrees) (n : ℕ) → (numbered f n).count ≡ n + leaf_count f
next_after none n = omega arith
next_after (part x a b) n =
    let inner = numbered a (next_number x n) in
    omega (arith, next_after b inner.count, next_after a (next_number x n), next_ones x n, leaf_count_part x a b)

onto_counted : (x : Node) (n k : ℕ) → cons_option (number_of x n) (counted_from (next_number x n) k) ≡ counted_from n (ones x + k)
onto_counted x n k =
    let none_more : k ≡ 0 + k = omega arith in
    let one_more : suc k ≡ 1 + k = omega arith in
    elim (is_some x.boundary) as (λ v. cons_option (cond v None (Some n)) (counted_from (cond v n (n + 1)) k) ≡ counted_from n (cond v 0 1 + k)) [
      | true ↦ ap (counted_from n) none_more
      | false ↦ ap (counted_from n) one_more
    ]

-- leaves are numbered one after the other
pub numbers-numbered : (f : PartTrees) (n : ℕ) → numbers_in (numbered f n).parts ≡ counted_from n (leaf_count f)
numbers-numbered none n = refl
numbers-numbered (part x a b) n =
    let first = next_number x n in
    let inner = numbered a first in
    let later = numbered b inner.count in
    ap (cons_option (number_of x n)) (
    numbers_both (walked inner.parts) (walked later.parts)
    ∙ ap (λ t. t ++ numbers_in later.parts) (numbers-numbered a first)
    ∙ ap (λ t. counted_from first (leaf_count a) ++ t) (numbers-numbered b inner.count ∙ ap (λ i. counted_from i (leaf_count b)) (next_after a first))
    ∙ sym (counted_both first (leaf_count a) (leaf_count b)))
    ∙ onto_counted x n (leaf_count a + leaf_count b)
    ∙ ap (counted_from n) (sym (leaf_count_part x a b))
