-- Lines that are delimiter lines only of multiparts of other numbers.
use Rattle.std.proofs.Common.{◌≡◌, ◌≢◌, ℕ, ◌+◌, ◌<◌, ◌≤◌, ◌^◌, ◌%◌, Bool, true, false, cond, eqb, List, [], ◌∷◌, ◌++◌, length, drop, Option, Some, None, ◌⊎◌, inl, inr, refl, sym, ap, subst, ◌∙◌, append_assoc, eq-eqb, arith}
use Rattle.std.specs.Prelude.{option_map}
use Rattle.std.specs.List.{AllByRecursion, list_all}
use Rattle.std.specs.Fmt.{decimal}
use Rattle.std.proofs.lemmas.Bool.{eqb-true, le-leb, ne_eqb, true≢false}
use Rattle.std.proofs.lemmas.Option.{none-some}
use Rattle.std.proofs.lemmas.List.{take-append-drop}
use Rattle.std.proofs.lemmas.List.Folds.{list_all-append}
use Rattle.std.proofs.lemmas.Fmt.{decimal_by_steps, decimal_injective}
use Rattle.mime_lines.specs.Lines.{lines, text}
use Rattle.mime_lines.specs.Written.{crlf}
use Rattle.mime_lines.proofs.ReadFacts.{text_front}
use Rattle.mime_lines.proofs.Unfolds.{both_true}
use Rattle.mime_codec.specs.Quoted.{is_between}
use Rattle.mime_cut.specs.declared.line_kind.LineKind.TheVariants.{Other}
use Rattle.mime_cut.specs.DelimiterLines.{after_prefix, dashes, kind_by_rest, line_kind}
use Rattle.mime_cut.specs.WrittenPieces.{HasNoDelimiter}
use Rattle.mime_cut.proofs.LineKindFacts.{after_both, line_kind_none, line_kind_some, not_after_both}
use Rattle.mime_tree.specs.Boundaries.{boundary_start, boundary_text}

-- ---- numbers

abbrev pub is_digit : ℕ → Bool
is_digit b = is_between 48 57 b

abbrev pub AreDigits : List ℕ → Type 0
AreDigits ds = list_all is_digit ds ≡ true

digit_is : (d : ℕ) → d < 10 → is_digit (48 + d) ≡ true
digit_is d h = rw (le-leb 48 (48 + d) (omega arith), le-leb (48 + d) 57 (omega arith)) refl

pub decimal_digits : (n : ℕ) → n < 2 ^ 64 → AreDigits (decimal n)
decimal_digits n h =
    decimal_by_steps (λ m ds. AreDigits ds) (λ m low. rw (digit_is m low) refl)
    (λ m ds low before. list_all-append is_digit ds ((48 + m % 10) ∷ []) ∙ rw (before, digit_is (m % 10) (omega arith)) refl) n h

pub digit_no : (b c : ℕ) → is_digit b ≡ true → is_digit c ≡ false → eqb b c ≡ false
digit_no b c h k = elim (eqb b c) as (λ v. eqb b c ≡ v → v ≡ false) [
  | true ↦ λ e. absurd (true≢false (sym h ∙ ap is_digit (eqb-true b c e) ∙ k))
  | false ↦ λ _. refl
] refl

-- what follows the boundary of another multipart is no delimiter
abbrev IsOther : Option (List ℕ) → Type 0
IsOther None = Unit {0}
IsOther (Some rest) = kind_by_rest rest ≡ Other

digit_other : (c : ℕ) (cs : List ℕ) → is_digit c ≡ true → kind_by_rest (c ∷ cs) ≡ Other
digit_other c cs h = rw (digit_no c 32 h refl, digit_no c 9 h refl, digit_no c 45 h refl) refl

-- what may follow a number: nothing, or what closes
abbrev IsTail : List ℕ → Type 0
IsTail tail = (tail ≡ []) ⊎ (tail ≡ dashes)

tail_no : (x : ℕ) (xs tail : List ℕ) → is_digit x ≡ true → IsTail tail → after_prefix (x ∷ xs) tail ≡ None
tail_no x xs tail h (inl e) = ap (after_prefix (x ∷ xs)) e
tail_no x xs tail h (inr e) = ap (after_prefix (x ∷ xs)) e ∙ rw (swapped x h) refl
  where
    swapped : (x : ℕ) → is_digit x ≡ true → eqb 45 x ≡ false
    swapped x h = ne_eqb 45 x (λ e. true≢false (sym h ∙ ap is_digit (sym e)))

numbers_apart : (d e tail : List ℕ) → AreDigits d → AreDigits e → d ≢ e → IsTail tail → IsOther (after_prefix d (e ++ tail))
numbers_apart [] [] tail p q n t = absurd (n refl)
numbers_apart [] (c ∷ cs) tail p q n t = digit_other c (cs ++ tail) (both_true (is_digit c) (list_all is_digit cs) q).0
numbers_apart (x ∷ xs) [] tail p q n t =
    subst IsOther (sym (tail_no x xs tail (both_true (is_digit x) (list_all is_digit xs) p).0 t)) tt
numbers_apart (x ∷ xs) (y ∷ ys) tail p q n t = elim (eqb y x) as (λ v. eqb y x ≡ v → IsOther (cond v (after_prefix xs (ys ++ tail)) None)) [
  | true ↦ λ e.
      let same : y ≡ x = eqb-true y x e in
      numbers_apart xs ys tail (both_true (is_digit x) (list_all is_digit xs) p).1 (both_true (is_digit y) (list_all is_digit ys) q).1 (λ s. n (ap (λ z. z ∷ xs) (sym same) ∙ ap (λ zs. y ∷ zs) s)) t
  | false ↦ λ _. tt
] refl

-- ---- lines

abbrev pub start : ℕ → List ℕ
start n = dashes ++ boundary_start n

-- a delimiter line of the multipart of this number, or its close-delimiter
abbrev pub Marks : ℕ → ℕ → List ℕ → Type 0
Marks n j l = (tail : List ℕ) × IsTail tail × (text l ≡ dashes ++ (boundary_text n j ++ tail))

-- a line that no such number begins, or one of a multipart whose number is from `low` up to `high`
abbrev IsKnown : ℕ → ℕ → ℕ → List ℕ → Type 0
IsKnown n low high l = (after_prefix (start n) l ≡ None) ⊎ ((j : ℕ) × (low ≤ j) × (j < high) × Marks n j l)

abbrev pub AreKnown : ℕ → ℕ → ℕ → List (List ℕ) → Type 0
AreKnown n low high ls = AllByRecursion (IsKnown n low high) ls

abbrev pub IsMild : ℕ → ℕ → ℕ → List ℕ → Type 0
IsMild n low high t = AreKnown n low high (lines (t ++ crlf))

start_is : (n k : ℕ) → dashes ++ boundary_text n k ≡ start n ++ decimal k
start_is n k = sym (append_assoc dashes (boundary_start n) (decimal k))

prefix_more : (prefix xs ys rest : List ℕ) → after_prefix prefix xs ≡ Some rest → after_prefix prefix (xs ++ ys) ≡ Some (rest ++ ys)
prefix_more [] xs ys rest h = ap (λ o. option_map (λ t. t ++ ys) o) h
prefix_more (f ∷ fs) [] ys rest h = absurd (none-some rest h)
prefix_more (f ∷ fs) (x ∷ xs) ys rest h = elim (eqb x f) as (λ v. cond v (after_prefix fs xs) None ≡ Some rest → cond v (after_prefix fs (xs ++ ys)) None ≡ Some (rest ++ ys)) [
  | true ↦ λ k. prefix_more fs xs ys rest k
  | false ↦ λ k. absurd (none-some rest k)
] h

text_none : (prefix l : List ℕ) → after_prefix prefix l ≡ None → after_prefix prefix (text l) ≡ None
text_none prefix l h = elim (after_prefix prefix (text l)) as (λ o. after_prefix prefix (text l) ≡ o → o ≡ None) [
  | None ↦ λ _. refl
  | Some rest ↦ λ e.
      let n = length (text l) in
      let whole : text l ++ drop n l ≡ l = ap (λ t. t ++ drop n l) (sym (text_front l)) ∙ take-append-drop n l in
      absurd (none-some (rest ++ drop n l) (sym h ∙ ap (after_prefix prefix) (sym whole) ∙ prefix_more prefix (text l) (drop n l) rest e))
] refl

none_more : (a b xs : List ℕ) → after_prefix a xs ≡ None → after_prefix (a ++ b) xs ≡ None
none_more a b xs h = not_after_both a b xs h

after_all : (prefix rest : List ℕ) → after_prefix prefix (prefix ++ rest) ≡ Some rest
after_all [] rest = refl
after_all (f ∷ fs) rest = rw (eq-eqb f f refl) (after_all fs rest)

by_other : (b l : List ℕ) → IsOther (after_prefix (dashes ++ b) (text l)) → line_kind b l ≡ Other
by_other b l h = elim (after_prefix (dashes ++ b) (text l)) as (λ o. after_prefix (dashes ++ b) (text l) ≡ o → IsOther o → line_kind b l ≡ Other) [
  | None ↦ λ e _. line_kind_none b l e
  | Some rest ↦ λ e k. line_kind_some b l rest e ∙ k
] refl h

-- a known line is no delimiter of a multipart of another number
known_other : (n low high k : ℕ) (l : List ℕ) → high ≤ 2 ^ 64 → k < 2 ^ 64 → (k < low) ⊎ (high ≤ k) → IsKnown n low high l → line_kind (boundary_text n k) l ≡ Other
known_other n low high k l top small out (inl quiet) =
    line_kind_none (boundary_text n k) l (ap (λ p. after_prefix p (text l)) (start_is n k) ∙ none_more (start n) (decimal k) (text l) (text_none (start n) l quiet))
known_other n low high k l top small out (inr m) =
    let j = m.0 in
    let tail = m.3.0 in
    let below : j < 2 ^ 64 = let a = m.2 in omega arith in
    let differs : decimal k ≢ decimal j = λ e. apart_is j (decimal_injective k j small below e) m.1 m.2 out in
    let said : after_prefix (dashes ++ boundary_text n k) (text l) ≡ after_prefix (decimal k) (decimal j ++ tail) =
    ap (λ p. after_prefix p (text l)) (start_is n k)
    ∙ after_both (start n) (decimal k) (text l) (decimal j ++ tail)
    (ap (after_prefix (start n)) (m.3.2 ∙ sym (append_assoc dashes (boundary_text n j) tail) ∙ ap (λ t. t ++ tail) (start_is n j) ∙ append_assoc (start n) (decimal j) tail)
    ∙ after_all (start n) (decimal j ++ tail)) in
    by_other (boundary_text n k) l (subst IsOther (sym said) (numbers_apart (decimal k) (decimal j) tail (decimal_digits k small) (decimal_digits j below) differs m.3.1))
  where
    apart_is : (j : ℕ) → k ≡ j → low ≤ j → j < high → (k < low) ⊎ (high ≤ k) → ⊥
    apart_is j e a b (inl c) = omega arith
    apart_is j e a b (inr c) = omega arith

pub mild_apart : (n low high k : ℕ) (t : List ℕ) → high ≤ 2 ^ 64 → k < 2 ^ 64 → (k < low) ⊎ (high ≤ k) → IsMild n low high t → HasNoDelimiter (boundary_text n k) t
mild_apart n low high k t top small out m = all (lines (t ++ crlf)) m
  where
    all : (ls : List (List ℕ)) → AreKnown n low high ls → AllByRecursion (λ l. line_kind (boundary_text n k) l ≡ Other) ls
    all [] h = tt
    all (l ∷ ls) h = (known_other n low high k l top small out h.0, all ls h.1)

-- fewer numbers are among more
pub known_wider : (n low high low' high' : ℕ) (ls : List (List ℕ)) → low' ≤ low → high ≤ high' → AreKnown n low high ls → AreKnown n low' high' ls
known_wider n low high low' high' [] a b h = tt
known_wider n low high low' high' (l ∷ ls) a b h = (one h.0, known_wider n low high low' high' ls a b h.1)
  where
    one : IsKnown n low high l → IsKnown n low' high' l
    one (inl q) = inl q
    one (inr m) = inr (m.0, (let p = m.1 in omega arith), (let q = m.2 in omega arith), m.3)
