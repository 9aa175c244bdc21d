-- Identifiers put in one after the other.
use Rattle.std.proofs.Common.{◌≡◌, ℕ, zero, suc, ◌+◌, ◌<◌, true, false, List, [], ◌∷◌, ◌++◌, length, filter, take, drop, get_or, Less, Equal, Greater, refl, sym, ap, ◌∙◌, append_assoc, add-one, arith}
use Rattle.std.proofs.Math.Seq.{take-suc}
use Rattle.std.specs.Prelude.{if◌then◌else◌}
use Rattle.std.specs.Ordering.{nat_cmp}
use Rattle.std.specs.Cmp.Lexicographic.{slice_cmp}
use Rattle.mail_summary.specs.Links.{gathered, is_short, put, put_by, put_if_few}

drop_at : (xs : List (List ℕ)) (i : ℕ) (x : List ℕ) → i < length xs → x ≡ get_or xs i x → drop i xs ≡ x ∷ drop (suc i) xs
drop_at [] i x h is = absurd (omega arith)
drop_at (y ∷ ys) zero x h is = ap (λ z. z ∷ ys) (sym is)
drop_at (y ∷ ys) (suc i) x h is = drop_at ys i x (omega arith) is

pub gathered_append : (kept xs ys : List (List ℕ)) → gathered kept (xs ++ ys) ≡ gathered (gathered kept xs) ys
gathered_append kept [] ys = refl
gathered_append kept (x ∷ xs) ys = gathered_append (put_if_few x kept) xs ys

pub short_append : (xs ys : List (List ℕ)) → filter is_short (xs ++ ys) ≡ filter is_short xs ++ filter is_short ys
short_append [] ys = refl
short_append (x ∷ xs) ys = elim (is_short x) as (λ b. (if b then x ∷ filter is_short (xs ++ ys) else filter is_short (xs ++ ys)) ≡ (if b then x ∷ filter is_short xs else filter is_short xs) ++ filter is_short ys) [
  | true ↦ ap (λ zs. x ∷ zs) (short_append xs ys)
  | false ↦ short_append xs ys
]

-- those of two lists, one after the other
pub gathered_both : (kept xs ys : List (List ℕ)) → gathered kept (filter is_short (xs ++ ys)) ≡ gathered (gathered kept (filter is_short xs)) (filter is_short ys)
gathered_both kept xs ys = ap (gathered kept) (short_append xs ys) ∙ gathered_append kept (filter is_short xs) (filter is_short ys)

-- the text at an index, if all before it are below
pub put_less : (id : List ℕ) (xs : List (List ℕ)) (i : ℕ) (x : List ℕ) → i < length xs → x ≡ get_or xs i x → slice_cmp nat_cmp id x ≡ Less → put id (drop i xs) ≡ id ∷ drop i xs
put_less id xs i x h is less = ap (put id) (drop_at xs i x h is) ∙ ap (λ o. put_by o id x (drop (suc i) xs) (put id (drop (suc i) xs))) less ∙ ap (λ ys. id ∷ ys) (sym (drop_at xs i x h is))

pub put_equal : (id : List ℕ) (xs : List (List ℕ)) (i : ℕ) (x : List ℕ) → i < length xs → x ≡ get_or xs i x → slice_cmp nat_cmp id x ≡ Equal → put id (drop i xs) ≡ drop i xs
put_equal id xs i x h is same = ap (put id) (drop_at xs i x h is) ∙ ap (λ o. put_by o id x (drop (suc i) xs) (put id (drop (suc i) xs))) same ∙ sym (drop_at xs i x h is)

pub put_greater : (id : List ℕ) (xs : List (List ℕ)) (i : ℕ) (x : List ℕ) → i < length xs → x ≡ get_or xs i x → slice_cmp nat_cmp id x ≡ Greater → take i xs ++ put id (drop i xs) ≡ take (i + 1) xs ++ put id (drop (i + 1) xs)
put_greater id xs i x h is more =
    ap (λ ys. take i xs ++ ys) (ap (put id) (drop_at xs i x h is) ∙ ap (λ o. put_by o id x (drop (suc i) xs) (put id (drop (suc i) xs))) more)
    ∙ sym (append_assoc (take i xs) (x ∷ []) (put id (drop (suc i) xs)))
    ∙ ap (λ ys. ys ++ put id (drop (suc i) xs)) (ap (λ y. take i xs ++ y ∷ []) is ∙ sym (take-suc xs i x h))
    ∙ ap (λ k. take k xs ++ put id (drop k xs)) (sym (add-one i))

-- those of three lists
pub three : (first a b c k1 k2 k3 : List (List ℕ)) → first ≡ [] → k1 ≡ gathered first (filter is_short a) → k2 ≡ gathered k1 (filter is_short b) → k3 ≡ gathered k2 (filter is_short c) → k3 ≡ gathered [] (filter is_short (a ++ (b ++ c)))
three first a b c k1 k2 k3 none one two all =
    all
    ∙ ap (λ k. gathered k (filter is_short c)) (two ∙ ap (λ k. gathered k (filter is_short b)) (one ∙ ap (λ k. gathered k (filter is_short a)) none))
    ∙ sym (gathered_both (gathered [] (filter is_short a)) b c)
    ∙ sym (gathered_both [] a (b ++ c))
