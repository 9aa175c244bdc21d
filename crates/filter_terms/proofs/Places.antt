-- A text contains a needle if and only if the needle is at some place of it, both in lower case.
use Rattle.std.proofs.Common.{◌≡◌, ℕ, zero, suc, ◌+◌, ◌<◌, ◌≤◌, ⊎_elim, Bool, true, false, eqb, List, [], ◌∷◌, ◌&&◌, ◌||◌, get_or, length, refl, sym, ap, ◌∙◌, arith, eq-eqb}
use Rattle.std.proofs.lemmas.Bool.{and_parts, eqb-true, or_cases, true≢false}
use Rattle.std.specs.Char.{to_ascii_lowercase}
use Rattle.std.specs.Str.{str_to_ascii_lowercase}
use Rattle.memchr.specs.Find.{OccursAt}
use Rattle.text_column.specs.Columns.{IsIn}
use Rattle.filter_terms.specs.Contains.{begins_with, contains}

abbrev lower : List ℕ → List ℕ
lower text = str_to_ascii_lowercase text

at_next : (x : ℕ) (xs : List ℕ) (a b : ℕ) → a ≡ suc b → get_or (x ∷ xs) a 0 ≡ get_or xs b 0
at_next x xs a b e = ap (λ i. get_or (x ∷ xs) i 0) e

-- ---- a needle at the beginning

at_start : (needle text : List ℕ) → begins_with needle text ≡ true → OccursAt (lower text) (lower needle) 0
at_start [] text h = record { fits = omega arith; reads = λ j lt. absurd (omega (arith, lt)) }
at_start (n ∷ ns) [] h = absurd (true≢false (sym h))
at_start (n ∷ ns) (x ∷ xs) h =
    let both = and_parts (eqb (to_ascii_lowercase x) (to_ascii_lowercase n)) (begins_with ns xs) h in
    let rest = at_start ns xs both.1 in
    let first = eqb-true (to_ascii_lowercase x) (to_ascii_lowercase n) both.0 in
    record {
      fits = omega (arith, rest.fits);
      reads = λ j lt. each first rest j lt;
    }
  where
    each : to_ascii_lowercase x ≡ to_ascii_lowercase n → OccursAt (lower xs) (lower ns) 0 → (j : ℕ) → j < length (lower (n ∷ ns)) → get_or (lower (x ∷ xs)) (0 + j) 0 ≡ get_or (lower (n ∷ ns)) j 0
    each first rest zero lt = first
    each first rest (suc j) lt = at_next (to_ascii_lowercase x) (lower xs) (0 + suc j) (0 + j) (omega arith) ∙ rest.reads j (omega (arith, lt))

from_start : (needle text : List ℕ) → OccursAt (lower text) (lower needle) 0 → begins_with needle text ≡ true
from_start [] text o = refl
from_start (n ∷ ns) [] o = absurd (omega (arith, o.fits))
from_start (n ∷ ns) (x ∷ xs) o =
    both_true (eqb (to_ascii_lowercase x) (to_ascii_lowercase n)) (begins_with ns xs)
    (eq-eqb (to_ascii_lowercase x) (to_ascii_lowercase n) (o.reads 0 (omega arith)))
    (from_start ns xs (record { fits = omega (arith, o.fits); reads = λ j lt. sym (at_next (to_ascii_lowercase x) (lower xs) (0 + suc j) (0 + j) (omega arith)) ∙ o.reads (suc j) (omega (arith, lt)) }))
  where
    both_true : (a b : Bool) → a ≡ true → b ≡ true → (a && b) ≡ true
    both_true true b ea eb = eb
    both_true false b ea eb = absurd (true≢false (sym ea))

-- ---- a needle one byte further on

one_on : (x : ℕ) (xs needle : List ℕ) (k : ℕ) → OccursAt xs needle k → OccursAt (x ∷ xs) needle (suc k)
one_on x xs needle k o = record { fits = omega (arith, o.fits); reads = λ j lt. at_next x xs (suc k + j) (k + j) (omega arith) ∙ o.reads j lt }

one_back : (x : ℕ) (xs needle : List ℕ) (k : ℕ) → OccursAt (x ∷ xs) needle (suc k) → OccursAt xs needle k
one_back x xs needle k o = record { fits = omega (arith, o.fits); reads = λ j lt. sym (at_next x xs (suc k + j) (k + j) (omega arith)) ∙ o.reads j lt }

or_left : (a b : Bool) → a ≡ true → (a || b) ≡ true
or_left true b e = refl
or_left false b e = absurd (true≢false (sym e))

or_right : (a b : Bool) → b ≡ true → (a || b) ≡ true
or_right true b e = refl
or_right false b e = e

pub place_in : (needle text : List ℕ) → contains needle text ≡ true → IsIn (lower needle) (lower text)
place_in needle [] h = (0, at_start needle [] h)
place_in needle (x ∷ xs) h =
    ⊎_elim
    (λ (e : begins_with needle (x ∷ xs) ≡ true). (0, at_start needle (x ∷ xs) e))
    (λ (e : contains needle xs ≡ true).
    let rest = place_in needle xs e in (suc rest.0, one_on (to_ascii_lowercase x) (lower xs) (lower needle) rest.0 rest.1))
    (or_cases (begins_with needle (x ∷ xs)) (contains needle xs) h)

at_place : (needle text : List ℕ) (k : ℕ) → OccursAt (lower text) (lower needle) k → contains needle text ≡ true
at_place needle [] zero o = from_start needle [] o
at_place needle (x ∷ xs) zero o = or_left (begins_with needle (x ∷ xs)) (contains needle xs) (from_start needle (x ∷ xs) o)
at_place needle [] (suc k) o = absurd (omega (arith, o.fits))
at_place needle (x ∷ xs) (suc k) o =
    or_right (begins_with needle (x ∷ xs)) (contains needle xs) (at_place needle xs k (one_back (to_ascii_lowercase x) (lower xs) (lower needle) k o))

pub contained_at : (needle text : List ℕ) → IsIn (lower needle) (lower text) → contains needle text ≡ true
contained_at needle text place = at_place needle text place.0 place.1
