-- The search for the end of a head, line by line and piece by piece.
use Rattle.std.proofs.Common.{◌≡◌, ◌≤◌, ◌<◌, ◌+◌, ◌-◌, ℕ, zero, suc, Bool, true, false, eqb, ltb, ◌&&◌, List, [], ◌∷◌, ◌++◌, length, get_or, take, drop, Option, None, Some, option_map, refl, sym, ap, ap₂, ◌∙◌, subst, arith, append_assoc, append-nil, length-append}
use Rattle.std.proofs.lemmas.Bool.{ltb-true, ltb-false}
use Rattle.std.proofs.lemmas.List.{length-drop, get_or-drop, get_or_append_left, take-append-le, drop-append-le, drop-drop, length-take-le}
use Rattle.mime_lines.specs.Lines.{lines, is_line_end}
use Rattle.mime_lines.proofs.LineFacts.{line_at, line_whole, not_true}
use Rattle.memchr.specs.Find.{IsFirstByte, is_byte}
use Rattle.http_parts.specs.Heads.{empty_bytes, after_empty, head_size}
use Rattle.http_parts.specs.Searches.{after, GoesOn, IsSearched, IsFound, search_after, search_passed}
use Rattle.http_parts.specs.declared.heads.HeadSearch.{HeadSearch}
use Rattle.http_parts.specs.declared.heads.HeadSize.{HeadSize}
use Rattle.http_parts.proofs.Sizes.{passes, ends}

-- ---- at the beginning, and with more bytes

pub searched_first : (bytes : List ℕ) → IsSearched bytes (record { start = 0; line = 0; seen = 0; lines = 0 })
searched_first bytes = record {
  begun = omega arith;
  passed = omega arith;
  within = omega arith;
  few = omega arith;
  unended = λ k low high. absurd (omega arith);
  goes = λ more. (refl, omega arith, refl);
}

pub searched_on : (bytes piece new : List ℕ) (s : HeadSearch) → IsSearched bytes s → new ≡ bytes ++ piece → IsSearched new s
searched_on bytes piece new s h is =
    subst (λ b. IsSearched b s) (sym is) (record {
      begun = h.begun;
      passed = h.passed;
      within = omega (arith, h.within, length-append bytes piece);
      few = h.few;
      unended = λ k low high. ap (λ b. eqb b 10) (get_or_append_left bytes piece 0 k (omega (arith, h.within, high))) ∙ h.unended k low high;
      goes = λ more.
          let inside : s.line ≤ length bytes = omega (arith, h.passed, h.within) in
          let rest : drop s.line (bytes ++ piece) ++ more ≡ drop s.line bytes ++ (piece ++ more) = ap (λ b. b ++ more) (drop-append-le s.line bytes piece inside) ∙ append_assoc (drop s.line bytes) piece more in
          subst (λ r. GoesOn s.lines s ((bytes ++ piece) ++ more) r) (sym rest) (subst (λ b. GoesOn s.lines s b (drop s.line bytes ++ (piece ++ more))) (sym (append_assoc bytes piece more)) (h.goes (piece ++ more)));
    })

-- ---- where a line ends

-- the first line from a place on, where an LF is found
line_there : (bytes more : List ℕ) (line end : ℕ) → line ≤ end → end < length bytes → ((k : ℕ) → line ≤ k → k < end → eqb (get_or bytes k 0) 10 ≡ false) → eqb (get_or bytes end 0) 10 ≡ true
    → lines (drop line bytes ++ more) ≡ take (suc (end - line)) (drop line bytes) ∷ lines (drop (suc end) bytes ++ more)
line_there bytes more line end low inside before here =
    let rest = drop line bytes in
    let n = end - line in
    let size : n < length rest = omega (arith, length-drop line bytes, low, inside) in
    let byte : (k : ℕ) → k < length rest → get_or (rest ++ more) k 0 ≡ get_or bytes (line + k) 0 = λ k lower. get_or_append_left rest more 0 k lower ∙ get_or-drop line bytes k 0 in
    let at : line + n ≡ end = omega arith in
    let sum : line + suc n ≡ suc end = omega arith in
    line_at (rest ++ more) n (omega (arith, length-append rest more)) (λ k lower. ap (λ b. eqb b 10) (byte k (omega arith)) ∙ before (line + k) (omega arith) (omega arith))
    (ap (λ b. eqb b 10) (byte n size ∙ ap (λ i. get_or bytes i 0) at) ∙ here)
    ∙ ap (λ l. l ∷ lines (drop (suc n) (rest ++ more))) (take-append-le (suc n) rest more (omega arith))
    ∙ ap (λ r. take (suc n) rest ∷ lines r) (drop-append-le (suc n) rest more (omega arith) ∙ ap (λ r. r ++ more) (drop-drop (suc n) line bytes ∙ ap (λ i. drop i bytes) sum))

-- a line ends here, whatever bytes follow, and the next one begins
pub record Ends (bytes : List ℕ) (s : HeadSearch) (line : List ℕ) (end : ℕ) : Type 0 where
  pub low : s.line < end
  pub inside : end ≤ length bytes
  pub size : s.line + length line ≡ end
  pub first : (more : List ℕ) → lines (drop s.line bytes ++ more) ≡ line ∷ lines (drop end bytes ++ more)

pub line_found : (bytes : List ℕ) (s : HeadSearch) (count : ℕ) → IsSearched bytes s → IsFirstByte (is_byte 10) (drop s.seen bytes) (Some count)
    → Ends bytes s (take (s.seen + count + 1 - s.line) (drop s.line bytes)) (s.seen + count + 1)
line_found bytes s count h found =
    let at : ℕ = s.seen + count in
    let size : length (drop s.seen bytes) ≡ length bytes - s.seen = length-drop s.seen bytes in
    let inside : at < length bytes = omega (arith, size, found.0.high, h.within) in
    let before : (k : ℕ) → s.line ≤ k → k < at → eqb (get_or bytes k 0) 10 ≡ false = λ k low high.
    elim (ltb k s.seen) as (λ b. ltb k s.seen ≡ b → eqb (get_or bytes k 0) 10 ≡ false) [
      | true ↦ λ e. h.unended k low (ltb-true k s.seen e)
      | false ↦ λ e.
          let later : s.seen ≤ k = ltb-false k s.seen e in
          let back : s.seen + (k - s.seen) ≡ k = omega arith in
          ap (λ b. eqb b 10) (sym (get_or-drop s.seen bytes (k - s.seen) 0 ∙ ap (λ i. get_or bytes i 0) back)) ∙ not_true _ (found.0.before (k - s.seen) (omega arith) (omega arith))
    ] refl in
    let here : eqb (get_or bytes at 0) 10 ≡ true = ap (λ b. eqb b 10) (sym (get_or-drop s.seen bytes count 0)) ∙ found.1 in
    let past : suc at ≡ at + 1 = omega arith in
    let long : suc (at - s.line) ≡ at + 1 - s.line = omega (arith, h.passed) in
    let low : s.line ≤ at = omega (arith, h.passed) in
    record {
      low = omega arith;
      inside = omega arith;
      size = ap (λ n. s.line + n) (length-take-le (at + 1 - s.line) (drop s.line bytes) (omega (arith, length-drop s.line bytes, low, inside))) ∙ omega (arith, low);
      first = λ more. line_there bytes more s.line at low inside before here
          ∙ ap (λ n. take n (drop s.line bytes) ∷ lines (drop (suc at) bytes ++ more)) long ∙ ap (λ n. take (at + 1 - s.line) (drop s.line bytes) ∷ lines (drop n bytes ++ more)) past;
    }

-- ---- after a line

after_as : (a b c d : ℕ) (o : Option HeadSize) → a ≡ b → c ≡ d → option_map (after a c) o ≡ option_map (after b d) o
after_as a b c d o e f = ap₂ (λ x y. option_map (after x y) o) e f

-- a line that is not empty is passed
line_on : (n : ℕ) (s next : HeadSearch) (bytes rest rest' line : List ℕ) → GoesOn n s bytes rest → lines rest ≡ line ∷ lines rest' → is_line_end line ≡ false → s.start ≤ s.line
    → next.start ≡ s.start → s.line + length line ≡ next.line → GoesOn (suc n) next bytes rest'
line_on zero s next bytes rest rest' line g first full low same size =
    let none : empty_bytes (line ∷ lines rest') ≡ 0 = rw full refl in
    let left : after_empty (line ∷ lines rest') ≡ line ∷ lines rest' = rw full refl in
    let step : head_size (line ∷ lines rest') ≡ option_map (after (length line) 1) (head_size (lines rest')) = rw full refl in
    let empties : empty_bytes (lines rest) ≡ 0 = ap empty_bytes first ∙ none in (
      g.1 ∙ omega (arith, empties, same),
      ap head_size (g.2 ∙ ap after_empty first ∙ left) ∙ step ∙ after_as (length line) (next.line - next.start) 1 1 (head_size (lines rest')) (omega (arith, g.0, same, size)) refl,
    )
line_on (suc n) s next bytes rest rest' line g first full low same size = (
  g.0 ∙ sym same,
  g.1 ∙ ap (λ l. option_map (after (s.line - s.start) (suc n)) (head_size l)) first ∙ passes line (lines rest') (s.line - s.start) (suc n) full
      ∙ after_as (s.line - s.start + length line) (next.line - next.start) (suc n + 1) (suc (suc n)) (head_size (lines rest')) (omega (arith, low, same, size)) (omega arith),
)

-- an empty line before the head is passed
empty_on : (s next : HeadSearch) (bytes rest rest' line : List ℕ) → GoesOn zero s bytes rest → lines rest ≡ line ∷ lines rest' → is_line_end line ≡ true → s.line + length line ≡ next.line
    → next.line ≡ next.start → GoesOn zero next bytes rest'
empty_on s next bytes rest rest' line g first full size same =
    let some : empty_bytes (line ∷ lines rest') ≡ length line + empty_bytes (lines rest') = rw full refl in
    let left : after_empty (line ∷ lines rest') ≡ after_empty (lines rest') = rw full refl in
    let empties : empty_bytes (lines rest) ≡ length line + empty_bytes (lines rest') = ap empty_bytes first ∙ some in
    (same, g.1 ∙ omega (arith, empties, g.0, size, same), g.2 ∙ ap after_empty first ∙ left)

searched_at : (n : ℕ) (bytes : List ℕ) (s next : HeadSearch) (line : List ℕ) (end : ℕ) → IsSearched bytes s → Ends bytes s line end → s.lines ≡ n → is_line_end line ≡ true → search_passed n s end ≡ Some next
    → IsSearched bytes next
searched_at zero bytes s next line end h e none empty is =
    let n : record { start = end; line = end; seen = end; lines = 0 } ≡ next = cc in
    subst (IsSearched bytes) n (record {
      begun = omega arith;
      passed = omega arith;
      within = e.inside;
      few = omega arith;
      unended = λ k low high. absurd (omega (arith, low, high));
      goes = λ more. empty_on s (record { start = end; line = end; seen = end; lines = 0 }) (bytes ++ more) (drop s.line bytes ++ more) (drop end bytes ++ more) line
          (subst (λ m. GoesOn m s (bytes ++ more) (drop s.line bytes ++ more)) none (h.goes more)) (e.first more) empty e.size refl;
    })
searched_at (suc n) bytes s next line end h e none empty is = absurd (cc)

pub searched_past : (bytes : List ℕ) (s next : HeadSearch) (line : List ℕ) (end : ℕ) (empty : Bool) → IsSearched bytes s → Ends bytes s line end → empty ≡ is_line_end line → Some next ≡ search_after s empty end
    → IsSearched bytes next
searched_past bytes s next line end true h e empty is = searched_at s.lines bytes s next line end h e refl (sym empty) (sym is)
searched_past bytes s next line end false h e empty is =
    let n : record { start = s.start; line = end; seen = end; lines = s.lines + 1 } ≡ next = cc in
    let more_lines : suc s.lines ≡ s.lines + 1 = omega arith in
    subst (IsSearched bytes) n (record {
      begun = omega (arith, h.begun, e.low);
      passed = omega arith;
      within = e.inside;
      few = omega (arith, h.few, e.low);
      unended = λ k low high. absurd (omega (arith, low, high));
      goes = λ more. subst (λ m. GoesOn m (record { start = s.start; line = end; seen = end; lines = s.lines + 1 }) (bytes ++ more) (drop end bytes ++ more)) more_lines
          (line_on s.lines s (record { start = s.start; line = end; seen = end; lines = s.lines + 1 }) (bytes ++ more) (drop s.line bytes ++ more) (drop end bytes ++ more) line (h.goes more) (e.first more) (sym empty) h.begun refl e.size);
    })

-- ---- at the end

-- the head goes on from the bytes as they are
here : (bytes : List ℕ) (s : HeadSearch) → IsSearched bytes s → GoesOn s.lines s bytes (drop s.line bytes)
here bytes s h = subst (λ b. GoesOn s.lines s b (drop s.line bytes)) (append-nil bytes) (subst (λ r. GoesOn s.lines s (bytes ++ []) r) (append-nil (drop s.line bytes)) (h.goes []))

found_at : (n : ℕ) (bytes : List ℕ) (s : HeadSearch) (line : List ℕ) (end : ℕ) → IsSearched bytes s → Ends bytes s line end → GoesOn n s bytes (drop s.line bytes) → s.lines ≡ n → is_line_end line ≡ true
    → search_passed n s end ≡ None → IsFound bytes (record { start = s.start; size = record { bytes = end - s.start; lines = s.lines } })
found_at zero bytes s line end h e g is empty none = absurd (cc)
found_at (suc n) bytes s line end h e g is empty none =
    let first : lines (drop s.line bytes) ≡ line ∷ lines (drop end bytes ++ []) = ap lines (sym (append-nil (drop s.line bytes))) ∙ e.first [] in
    let bytes_are : s.line - s.start + length line ≡ end - s.start = omega (arith, h.begun, e.size) in
    record {
      empty = g.0;
      size = g.1 ∙ ap (λ l. option_map (after (s.line - s.start) (suc n)) (head_size l)) first ∙ ends line (lines (drop end bytes ++ [])) (s.line - s.start) (suc n) empty
          ∙ ap₂ (λ x y. Some (record { bytes = x; lines = y })) bytes_are (sym is);
      within = omega (arith, h.begun, e.low, e.inside);
    }

pub head_found : (bytes : List ℕ) (s : HeadSearch) (line : List ℕ) (end : ℕ) (empty : Bool) → IsSearched bytes s → Ends bytes s line end → empty ≡ is_line_end line → None ≡ search_after s empty end
    → IsFound bytes (record { start = s.start; size = record { bytes = end - s.start; lines = s.lines } })
head_found bytes s line end true h e empty none = found_at s.lines bytes s line end h e (here bytes s h) refl (sym empty) (sym none)
head_found bytes s line end false h e empty none = absurd (cc)

-- no LF is in the bytes from the line on
pub all_unended : (bytes : List ℕ) (s : HeadSearch) → IsSearched bytes s → IsFirstByte (is_byte 10) (drop s.seen bytes) None → (k : ℕ) → s.line ≤ k → k < length bytes → eqb (get_or bytes k 0) 10 ≡ false
all_unended bytes s h none k low high =
    elim (ltb k s.seen) as (λ b. ltb k s.seen ≡ b → eqb (get_or bytes k 0) 10 ≡ false) [
      | true ↦ λ e. h.unended k low (ltb-true k s.seen e)
      | false ↦ λ e.
          let later : s.seen ≤ k = ltb-false k s.seen e in
          let back : s.seen + (k - s.seen) ≡ k = omega arith in
          ap (λ b. eqb b 10) (sym (get_or-drop s.seen bytes (k - s.seen) 0 ∙ ap (λ i. get_or bytes i 0) back)) ∙ not_true _ (none (k - s.seen) (omega arith) (omega (arith, length-drop s.seen bytes)))
    ] refl

pub searched_all : (bytes : List ℕ) (s : HeadSearch) → IsSearched bytes s → IsFirstByte (is_byte 10) (drop s.seen bytes) None → IsSearched bytes (record { start = s.start; line = s.line; seen = length bytes; lines = s.lines })
searched_all bytes s h none = record {
  begun = h.begun;
  passed = omega (arith, h.passed, h.within);
  within = omega arith;
  few = h.few;
  unended = all_unended bytes s h none;
  goes = λ more. again s.lines more (h.goes more);
}
  where
    again : (n : ℕ) (more : List ℕ) → GoesOn n s (bytes ++ more) (drop s.line bytes ++ more) → GoesOn n (record { start = s.start; line = s.line; seen = length bytes; lines = s.lines }) (bytes ++ more) (drop s.line bytes ++ more)
    again zero more g = g
    again (suc n) more g = g

and_false : (p q : Bool) → q ≡ false → (p && q) ≡ false
and_false true q h = h
and_false false q h = refl

-- bytes without an LF are no line end, and no head ends in them
no_end : (line : List ℕ) → ((k : ℕ) → k < length line → eqb (get_or line k 0) 10 ≡ false) → is_line_end line ≡ false
no_end [] none = refl
no_end (b ∷ []) none = none 0 (omega arith)
no_end (b ∷ c ∷ []) none = and_false (eqb b 13) (eqb c 10) (none 1 (omega arith))
no_end (b ∷ c ∷ d ∷ bs) none = refl

open_line : (rest : List ℕ) → ((k : ℕ) → k < length rest → eqb (get_or rest k 0) 10 ≡ false) → (head_size (lines rest) ≡ None) × (head_size (after_empty (lines rest)) ≡ None)
open_line [] none = (refl, refl)
open_line (b ∷ bs) none =
    let whole : lines (b ∷ bs) ≡ (b ∷ bs) ∷ [] = line_whole b bs none in
    let full : is_line_end (b ∷ bs) ≡ false = no_end (b ∷ bs) none in
    let left : after_empty ((b ∷ bs) ∷ []) ≡ (b ∷ bs) ∷ [] = rw full refl in
    let one : head_size ((b ∷ bs) ∷ []) ≡ None = rw full refl in
    (ap head_size whole ∙ one, ap (λ l. head_size (after_empty l)) whole ∙ ap head_size left ∙ one)

none_at : (n : ℕ) (bytes : List ℕ) (s : HeadSearch) (rest : List ℕ) → GoesOn n s bytes rest → (head_size (lines rest) ≡ None) × (head_size (after_empty (lines rest)) ≡ None) → head_size (after_empty (lines bytes)) ≡ None
none_at zero bytes s rest g none = ap head_size g.2 ∙ none.1
none_at (suc n) bytes s rest g none = g.1 ∙ ap (option_map (after (s.line - s.start) (suc n))) none.0

pub none_found : (bytes : List ℕ) (s : HeadSearch) → IsSearched bytes s → IsFirstByte (is_byte 10) (drop s.seen bytes) None → head_size (after_empty (lines bytes)) ≡ None
none_found bytes s h none =
    none_at s.lines bytes s (drop s.line bytes) (here bytes s h)
    (open_line (drop s.line bytes) (λ k low. ap (λ b. eqb b 10) (get_or-drop s.line bytes k 0) ∙ all_unended bytes s h none (s.line + k) (omega arith) (omega (arith, length-drop s.line bytes, low))))
