-- What one step of a pass over the lines leaves.
use Rattle.std.proofs.Common.{◌≡◌, ℕ, ◌+◌, true, false, cond, List, [], ◌∷◌, ◌++◌, length, take, drop, refl, ap, sym, ◌∙◌, arith, append_assoc, length-append}
use Rattle.std.proofs.Common.{eqb, ◌&&◌, inl, inr, add-zero}
use Rattle.std.proofs.lemmas.Bool.{cases_eq, ne_eqb, true≢false}
use Rattle.std.proofs.lemmas.List.{take-append-drop, length-take-le, take_at, drop_at, drop-drop, append-nil}
use Rattle.mime_lines.specs.Lines.{is_line_end}
use Rattle.mime_lines.specs.Fields.{goes_on, onto_next, header, body_at, joined, is_field, span_of, spans}
use Rattle.mime_lines.specs.Scan.{followers, others}

-- a prefix that takes in a line
pub front_more : (rest left line more : List ℕ) (n : ℕ) → n + length left ≡ length rest → left ≡ drop n rest → left ≡ line ++ more
    → (take (n + length line) rest ≡ take n rest ++ line) × (more ≡ drop (n + length line) rest)
front_more rest left line more n size is whole =
    let parts : rest ≡ (take n rest ++ line) ++ more =
    sym (take-append-drop n rest) ∙ ap (λ t. take n rest ++ t) (sym is ∙ whole) ∙ sym (append_assoc (take n rest) line more) in
    let count : length (take n rest ++ line) ≡ n + length line =
    length-append (take n rest) line ∙ ap (λ k. k + length line) (length-take-le n rest (omega arith)) in (
      ap (take (n + length line)) parts ∙ take_at (take n rest ++ line) more (n + length line) count,
      sym (drop_at (take n rest ++ line) more (n + length line) count) ∙ sym (ap (drop (n + length line)) parts),
    )

pub followers_more : (ls ms : List (List ℕ)) (l : List ℕ) → ls ≡ l ∷ ms → goes_on l ≡ true → (followers ls ≡ l ++ followers ms) × (others ls ≡ others ms)
followers_more ls ms l e h = (ap followers e ∙ rw h refl, ap others e ∙ rw h refl)

pub followers_none : (ls ms : List (List ℕ)) (l : List ℕ) → ls ≡ l ∷ ms → goes_on l ≡ false → (followers ls ≡ []) × (others ls ≡ ls)
followers_none ls ms l e h = (ap followers e ∙ rw h refl, ap others e ∙ rw h (sym e))

pub drop_past : (rest line after : List ℕ) (k : ℕ) → rest ≡ line ++ after → drop (length line + k) rest ≡ drop k after
drop_past rest line after k e = sym (drop-drop k (length line) rest) ∙ ap (drop k) (ap (drop (length line)) e ∙ drop_at line after (length line) refl)

-- a line with its followers is the first that `joined` gives
joined_first : (l : List ℕ) (ls : List (List ℕ)) → joined (l ∷ ls) ≡ (l ++ followers ls) ∷ joined (others ls)
joined_first l [] = ap (λ t. t ∷ []) (sym (append-nil l))
joined_first l (m ∷ ms) = elim (goes_on m) as (λ b. goes_on m ≡ b → joined (l ∷ m ∷ ms) ≡ (l ++ followers (m ∷ ms)) ∷ joined (others (m ∷ ms))) [
  | true ↦ λ h. rw h (ap (onto_next l) (joined_first m ms))
  | false ↦ λ h. rw h (ap (λ t. t ∷ joined (m ∷ ms)) (sym (append-nil l)))
] refl

-- where a line isn't empty, the header and the body continue after its field
not_folded_empty : (l : List ℕ) → goes_on l ≡ true → is_line_end l ≡ false
not_folded_empty [] h = refl
not_folded_empty (b ∷ []) h = elim (cases_eq b 10) as (λ _. eqb b 10 ≡ false) [
  | inl e ↦ absurd (true≢false (sym h ∙ rw e refl))
  | inr n ↦ ne_eqb b 10 n
]
not_folded_empty (b ∷ c ∷ []) h = elim (cases_eq b 13) as (λ _. (eqb b 13 && eqb c 10) ≡ false) [
  | inl e ↦ absurd (true≢false (sym h ∙ rw e refl))
  | inr n ↦ rw (ne_eqb b 13 n) refl
]
not_folded_empty (b ∷ c ∷ d ∷ ds) h = refl

followers_header : (ls : List (List ℕ)) → (followers (header ls) ≡ followers ls) × (others (header ls) ≡ header (others ls))
followers_header [] = (refl, refl)
followers_header (l ∷ ls) = elim (goes_on l) as (λ b. goes_on l ≡ b → (followers (header (l ∷ ls)) ≡ followers (l ∷ ls)) × (others (header (l ∷ ls)) ≡ header (others (l ∷ ls)))) [
  | true ↦ λ h. let e : is_line_end l ≡ false = not_folded_empty l h in
      rw (e, h) (ap (λ t. l ++ t) (followers_header ls).0, (followers_header ls).1)
  | false ↦ λ h. elim (is_line_end l) as (λ b. is_line_end l ≡ b → (followers (header (l ∷ ls)) ≡ followers (l ∷ ls)) × (others (header (l ∷ ls)) ≡ header (others (l ∷ ls)))) [
    | true ↦ λ e. (simp (e, h), simp (e, h))
    | false ↦ λ e. (simp (e, h), simp (e, h))
  ] refl
] refl

body_followers : (at : ℕ) (ls : List (List ℕ)) → body_at at ls ≡ body_at (at + length (followers ls)) (others ls)
body_followers at [] = sym (add-zero at)
body_followers at (l ∷ ls) = elim (goes_on l) as (λ b. goes_on l ≡ b → body_at at (l ∷ ls) ≡ body_at (at + length (followers (l ∷ ls))) (others (l ∷ ls))) [
  | true ↦ λ h.
      let e : is_line_end l ≡ false = not_folded_empty l h in
      let sizes : at + length l + length (followers ls) ≡ at + length (l ++ followers ls) = omega (arith, length-append l (followers ls)) in
      rw (e, h) (body_followers (at + length l) ls ∙ ap (λ n. body_at n (others ls)) sizes)
  | false ↦ λ h. let none : at + 0 ≡ at = add-zero at in simp (h, none)
] refl

pub header_step : (ls ms : List (List ℕ)) (l : List ℕ) → ls ≡ l ∷ ms → is_line_end l ≡ false
    → joined (header ls) ≡ (l ++ followers ms) ∷ joined (header (others ms))
header_step ls ms l is h =
    let both = followers_header ms in
    rw is (rw h (joined_first l (header ms) ∙ ap (λ t. (l ++ t) ∷ joined (others (header ms))) both.0 ∙ ap (λ t. (l ++ followers ms) ∷ joined t) both.1))

pub body_step : (at : ℕ) (ls ms : List (List ℕ)) (l : List ℕ) → ls ≡ l ∷ ms → is_line_end l ≡ false
    → body_at at ls ≡ body_at (at + length (l ++ followers ms)) (others ms)
body_step at ls ms l is h =
    let sizes : at + length l + length (followers ms) ≡ at + length (l ++ followers ms) = omega (arith, length-append l (followers ms)) in
    rw is (rw h (body_followers (at + length l) ms ∙ ap (λ n. body_at n (others ms)) sizes))

pub spans_split : (at : ℕ) (g : List ℕ) (gs : List (List ℕ)) → spans at (g ∷ gs) ≡ spans at (g ∷ []) ++ spans (at + length g) gs
spans_split at g gs = elim (is_field g) as (λ b. cond b (span_of at g ∷ spans (at + length g) gs) (spans (at + length g) gs) ≡ cond b (span_of at g ∷ []) [] ++ spans (at + length g) gs) [ true ↦ refl | false ↦ refl ]
