-- The records that are left without some, and that two lists of the same numbers leave the same.
use Rattle.std.proofs.Common.{◌≡◌, ℕ, ◌+◌, ◌≤◌, Bool, true, false, not, cond, List, [], ◌∷◌, ◌++◌, filter, length, Option, Some, None, Less, Equal, Greater, Ordering, refl, ap, ◌∙◌, arith, ⊎_elim}
use Rattle.std.specs.Ordering.{nat_cmp, match_ordering}
use Rattle.std.specs.Cmp.Lexicographic.{slice_cmp}
use Rattle.std.specs.List.Sorted.{IsStrictlySortedBy}
use Rattle.std.proofs.lemmas.Bool.{cases_Bool}
use Rattle.jm_base.specs.Splices.{has}
use Rattle.jm_base.specs.declared.identifiers.Kind.{Kind}
use Rattle.jm_json.specs.Tree.{Tree}
use Rattle.jm_json.specs.LeastPlaces.{least_from, lesser}
use Rattle.jm_json.specs.Order.{KeysRise, put, put_all}
use Rattle.jm_json.specs.KeyIndices.{AllAbove}
use Rattle.method_args.specs.Arguments.{passes}
use Rattle.method_args.specs.Ids.{id_number}
use Rattle.client_cache.specs.Records.{is_among, records_but}

abbrev Pairs : Type 0
Pairs = List (List ℕ × Tree)

above_kept : (p : List ℕ × Tree → Bool) (k : List ℕ) (ms : Pairs) → AllAbove k ms → AllAbove k (filter p ms)
above_kept p k [] all = tt
above_kept p k (m ∷ ms) all =
    ⊎_elim
    (λ (t : p m ≡ true). rw t (all.0, above_kept p k ms all.1))
    (λ (f : p m ≡ false). rw f (above_kept p k ms all.1))
    (cases_Bool (p m))

pub rises_kept : (p : List ℕ × Tree → Bool) (ms : Pairs) → KeysRise ms → KeysRise (filter p ms)
unfolding IsStrictlySortedBy
rises_kept p [] rise = tt
rises_kept p (m ∷ ms) rise =
    ⊎_elim
    (λ (t : p m ≡ true). rw t (above_kept p m.0 ms rise.0, rises_kept p ms rise.1))
    (λ (f : p m ≡ false). rw f (rises_kept p ms rise.1))
    (cases_Bool (p m))

pub kept_shorter : {X : Type 0} (p : X → Bool) (xs : List X) → length (filter p xs) ≤ length xs
kept_shorter p [] = omega arith
kept_shorter p (x ∷ xs) =
    ⊎_elim
    (λ (t : p x ≡ true). rw t (omega (arith, kept_shorter p xs)))
    (λ (f : p x ≡ false). rw f (omega (arith, kept_shorter p xs)))
    (cases_Bool (p x))

one_of : {X : Type 0} (P : X → Type 0) (o : Ordering) (x y z : X) → P x → P y → P z → P (match_ordering o x y z)
one_of P Less x y z p q r = p
one_of P Equal x y z p q r = q
one_of P Greater x y z p q r = r

pub put_longer : (k : List ℕ) (t : Tree) (ms : Pairs) → length (put k t ms) ≤ length ms + 1
put_longer k t [] = omega arith
put_longer k t (m ∷ ms) =
    one_of (λ (xs : Pairs). length xs ≤ length (m ∷ ms) + 1) (slice_cmp nat_cmp k m.0) ((k, t) ∷ m ∷ ms) ((k, t) ∷ ms) (m ∷ put k t ms)
    (omega arith) (omega arith) (omega (arith, put_longer k t ms))

pub puts_longer : (ns ms : Pairs) → length (put_all ns ms) ≤ length ms + length ns
puts_longer [] ms = omega arith
puts_longer (n ∷ ns) ms = omega (arith, puts_longer ns (put n.0 n.1 ms), put_longer n.0 n.1 ms)

passes_same : (xs ys : List ℕ) → ((n : ℕ) → has xs n ≡ has ys n) → (o : Option ℕ) → passes (has xs) o ≡ passes (has ys) o
passes_same xs ys same None = refl
passes_same xs ys same (Some n) = same n

among_same : (xs ys : List ℕ) → ((n : ℕ) → has xs n ≡ has ys n) → (kind : Kind) (m : List ℕ × Tree) → is_among kind xs m ≡ is_among kind ys m
among_same xs ys same kind m = passes_same xs ys same (id_number kind m.0)

pub same_but : (kind : Kind) (xs ys : List ℕ) → ((n : ℕ) → has xs n ≡ has ys n) → (ms : Pairs) → records_but kind xs ms ≡ records_but kind ys ms
same_but kind xs ys same [] = refl
same_but kind xs ys same (m ∷ ms) =
    let e : is_among kind xs m ≡ is_among kind ys m = among_same xs ys same kind m in
    ap (λ b. cond (not b) (m ∷ records_but kind xs ms) (records_but kind xs ms)) e
    ∙ ap (λ rs. cond (not (is_among kind ys m)) (m ∷ rs) rs) (same_but kind xs ys same ms)

-- the least of places one after the other
pub least_append : (o : Option (List ℕ)) (xs ys : List (List ℕ)) → least_from o (xs ++ ys) ≡ least_from (least_from o xs) ys
least_append o [] ys = refl
least_append o (x ∷ xs) ys = least_append (lesser o x) xs ys
