-- Where a needle is in a part of the bytes.
use Rattle.std.proofs.Common.{◌≡◌, ℕ, ◌+◌, ◌-◌, ◌<◌, ◌≤◌, List, length, get_or, drop, ap, sym, subst, ◌∙◌, arith}
use Rattle.std.proofs.lemmas.List.{get_or-take, get_or-drop, length-take-le, length-drop}
use Rattle.std.specs.List.{slice_range}
use Rattle.memchr.specs.Find.{Nowhere, OccursAt}
use Rattle.text_column.specs.Columns.{IsIn}

-- how long a part is
pub part_size : (bytes : List ℕ) (a b : ℕ) → a ≤ b → b ≤ length bytes → length (slice_range bytes a b) ≡ b - a
part_size bytes a b rises high =
    let left : length (drop a bytes) ≡ length bytes - a = length-drop a bytes in
    length-take-le (b - a) (drop a bytes) (omega (arith, left))

-- the bytes of a part
part_reads : (bytes : List ℕ) (a b i : ℕ) → i < b - a → get_or (slice_range bytes a b) i 0 ≡ get_or bytes (a + i) 0
part_reads bytes a b i low = get_or-take (b - a) (drop a bytes) i 0 low ∙ get_or-drop a bytes i 0

-- a place in a part is a place in the bytes
pub out_of_part : (bytes needle : List ℕ) (a b k : ℕ) → a ≤ b → b ≤ length bytes → 1 ≤ length needle
    → OccursAt (slice_range bytes a b) needle k → OccursAt bytes needle (a + k) × (a + k + length needle ≤ b)
out_of_part bytes needle a b k rises high some h =
    let size : length (slice_range bytes a b) ≡ b - a = part_size bytes a b rises high in
    let fits : k + length needle ≤ b - a = omega (arith, size, h.fits) in (
      record {
        fits = omega (arith, fits);
        reads = λ j low.
            let same : a + k + j ≡ a + (k + j) = omega arith in
            ap (λ n. get_or bytes n 0) same ∙ sym (part_reads bytes a b (k + j) (omega (arith, fits))) ∙ h.reads j low;
      },
      omega (arith, fits),
    )

-- and a place in the bytes is one in each part that holds it
pub into_part : (bytes needle : List ℕ) (a b p : ℕ) → b ≤ length bytes → a ≤ p → p + length needle ≤ b
    → OccursAt bytes needle p → OccursAt (slice_range bytes a b) needle (p - a)
into_part bytes needle a b p high low holds h =
    let size : length (slice_range bytes a b) ≡ b - a = part_size bytes a b (omega arith) high in
    record {
      fits = omega (arith, size, holds, low);
      reads = λ j small.
          let same : a + (p - a + j) ≡ p + j = omega (arith, low) in
          part_reads bytes a b (p - a + j) (omega (arith, holds, low, small)) ∙ ap (λ n. get_or bytes n 0) same ∙ h.reads j small;
    }

-- the same of the bytes from a place on
pub out_of_rest : (bytes needle : List ℕ) (a k : ℕ) → a ≤ length bytes → OccursAt (drop a bytes) needle k → OccursAt bytes needle (a + k)
out_of_rest bytes needle a k within h =
    let left : length (drop a bytes) ≡ length bytes - a = length-drop a bytes in
    record {
      fits = omega (arith, left, h.fits, within);
      reads = λ j low.
          let same : a + k + j ≡ a + (k + j) = omega arith in
          ap (λ n. get_or bytes n 0) same ∙ sym (get_or-drop a bytes (k + j) 0) ∙ h.reads j low;
    }

into_rest : (bytes needle : List ℕ) (a k : ℕ) → OccursAt bytes needle (a + k) → a ≤ length bytes → OccursAt (drop a bytes) needle k
into_rest bytes needle a k h within =
    let left : length (drop a bytes) ≡ length bytes - a = length-drop a bytes in
    record {
      fits = omega (arith, left, h.fits, within);
      reads = λ j low.
          let same : a + (k + j) ≡ a + k + j = omega arith in
          get_or-drop a bytes (k + j) 0 ∙ ap (λ n. get_or bytes n 0) same ∙ h.reads j low;
    }

-- that there is none in the rest, said of the bytes
pub none_in_rest : (bytes needle : List ℕ) (a n : ℕ) → a ≤ length bytes → Nowhere (OccursAt (drop a bytes) needle) 0 n
    → Nowhere (OccursAt bytes needle) a (a + n)
none_in_rest bytes needle a n within none k low high h =
    let same : k ≡ a + (k - a) = omega (arith, low) in
    let there : OccursAt bytes needle (a + (k - a)) = subst (OccursAt bytes needle) same h in
    none (k - a) (omega arith) (omega (arith, low, high)) (into_rest bytes needle a (k - a) there within)

-- a part in which no place begins has none
pub none_in_part : (bytes needle : List ℕ) (from to a b : ℕ) → 1 ≤ length needle → a ≤ b → b ≤ length bytes → from ≤ a
    → b < to + length needle → Nowhere (OccursAt bytes needle) from to → ¬ (IsIn needle (slice_range bytes a b))
none_in_part bytes needle from to a b some rises high low before none is =
    let place = out_of_part bytes needle a b is.0 rises high some is.1 in
    none (a + is.0) (omega (arith, low)) (omega (arith, place.1, before)) place.0
