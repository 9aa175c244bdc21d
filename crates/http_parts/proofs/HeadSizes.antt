-- How many bytes a head has, and how many are before and after it.
use Rattle.std.proofs.Common.{◌≡◌, ◌<◌, ◌≤◌, ◌+◌, ◌-◌, ℕ, Bool, true, false, ◌||◌, cond, ltb, leb, List, [], ◌∷◌, length, take, drop, Option, None, Some, option_map, refl, ap, arith, length-drop, length-take}
use Rattle.std.specs.Option.{is_some}
use Rattle.mime_lines.specs.Lines.{lines, is_line_end}
use Rattle.mime_lines.proofs.SpanFacts.{size_lines}
use Rattle.http_parts.specs.Heads.{HeadTooLong, Unfinished, Head, beginning_of, beginning_by, empty_bytes, after_empty, head_size, one_line_more, begun_bytes}
use Rattle.http_parts.specs.declared.heads.HeadSize.{HeadSize}
use Rattle.http_parts.specs.declared.limits.TheConstants.{MAX_HEAD_BYTES, MAX_HEAD_FIELDS}
use Rattle.http_parts.proofs.HeadStays.{bytes_of, head_within}

end_some : (l : List ℕ) → is_line_end l ≡ true → 0 < length l
end_some [] h = absurd (cc h)
end_some (b ∷ l) h = omega arith

some_by : (v : Bool) (l : List ℕ) (o : Option HeadSize) → is_line_end l ≡ v → (is_some o ≡ true → 0 < bytes_of o)
    → is_some (cond v (Some (record { bytes = length l; lines = 0 })) (option_map (one_line_more (length l)) o)) ≡ true
    → 0 < bytes_of (cond v (Some (record { bytes = length l; lines = 0 })) (option_map (one_line_more (length l)) o))
some_by true l o e next h = end_some l e
some_by false l None e next h = absurd (cc h)
some_by false l (Some s) e next h = let p : 0 < s.bytes = next refl in omega (arith, p)

size_some : (ls : List (List ℕ)) → is_some (head_size ls) ≡ true → 0 < bytes_of (head_size ls)
size_some [] h = absurd (cc h)
size_some (l ∷ ls) h = some_by (is_line_end l) l (head_size ls) refl (λ k. size_some ls k) h

sizes_by : (xs : List ℕ) (empty : ℕ) (o : Option HeadSize) (head rest : List ℕ) → empty + bytes_of o ≤ length xs → (is_some o ≡ true → 0 < bytes_of o) → beginning_by xs empty o ≡ Head head rest
    → (empty + (length head + length rest) ≡ length xs) × (0 < length head)
sizes_by xs empty None head rest low some h = absurd (none (leb MAX_HEAD_BYTES (length xs)) h)
  where
    none : (w : Bool) → cond w HeadTooLong Unfinished ≡ Head head rest → ⊥
    none true e = cc e
    none false e = cc e
sizes_by xs empty (Some s) head rest low some h =
    by (ltb MAX_HEAD_BYTES (empty + s.bytes) || ltb (1 + MAX_HEAD_FIELDS) s.lines) (some refl) h
  where
    by : (w : Bool) → 0 < s.bytes → cond w HeadTooLong (Head (take s.bytes (drop empty xs)) (drop (empty + s.bytes) xs)) ≡ Head head rest
        → (empty + (length head + length rest) ≡ length xs) × (0 < length head)
    by true pos e = absurd (cc e)
    by false pos e =
        let p : take s.bytes (drop empty xs) ≡ head = cc e in
        let q : drop (empty + s.bytes) xs ≡ rest = cc e in
        let hp : length head ≡ s.bytes = omega (arith, ap length p, low, length-take {A = ℕ}, length-drop {A = ℕ}) in
        let hq : length rest ≡ length xs - (empty + s.bytes) = omega (arith, ap length q, length-drop {A = ℕ}) in
        (omega (arith, hp, hq, low), omega (arith, hp, pos))

-- the bytes of the head and those after it are all that there is after the empty lines
pub begun_is : (xs head rest : List ℕ) → beginning_of xs ≡ Head head rest → (begun_bytes xs ≡ length head + length rest) × (0 < length head)
begun_is xs head rest h =
    let low : empty_bytes (lines xs) + bytes_of (head_size (after_empty (lines xs))) ≤ length xs = omega (arith, head_within (lines xs), size_lines xs) in
    let k = sizes_by xs (empty_bytes (lines xs)) (head_size (after_empty (lines xs))) head rest low (λ e. size_some (after_empty (lines xs)) e) h in
    (omega (arith, k.0), k.1)
