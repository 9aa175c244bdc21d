-- What of a line encodes nothing, and the escapes of a line.
use Rattle.std.proofs.Common.{◌≡◌, ℕ, zero, suc, ◌+◌, ◌-◌, ◌*◌, ◌<◌, ◌≤◌, Bool, true, false, eqb, cond, ◌&&◌, ◌||◌, ◌⊎◌, inl, inr, List, [], ◌∷◌, ◌++◌, length, get_or, take, drop, reverse, refl, ap, sym, subst, ◌∙◌, add-zero, append-nil, append_assoc, length-append, arith}
use Rattle.std.specs.List.{onto_first, suffix_len}
use Rattle.std.proofs.lemmas.Bool.{cases_lt, eqb-true, false≢true}
use Rattle.std.proofs.lemmas.List.{take-append-drop, length-take-le, length-drop, get_or-take, get_or-drop, get_or-reverse, take-take}
use Rattle.std.proofs.lemmas.List.Sums.{prefix_len_passes, suffix_len-le-length}
use Rattle.mime_lines.specs.Lines.{lines, text, is_blank, is_line_end}
use Rattle.mime_codec.specs.Quoted.{unescaped, without_end_blanks, is_soft, text_with_end, quoted_line}
use Rattle.mime_codec.specs.Escapes.{escapes}
use Rattle.mime_codec.proofs.Escapes.{size_of_unescaped, escapes_apart, is_quiet, past_quiet, quiet_end}

-- white space and line ends are quiet
blank_is_quiet : (b : ℕ) → is_blank b ≡ true → (v : Bool) → eqb b 32 ≡ v → is_quiet b ≡ true
blank_is_quiet b h true e = ap is_quiet (eqb-true b 32 e)
blank_is_quiet b h false e = ap is_quiet (eqb-true b 9 (ap (λ v. v || eqb b 9) (sym e) ∙ h))

both_true : (p q : Bool) → (p && q) ≡ true → (p ≡ true) × (q ≡ true)
both_true true q h = (refl, h)
both_true false q h = absurd (false≢true h)

end_byte : (bs : List ℕ) (k : ℕ) → is_line_end bs ≡ true → k < length bs → is_quiet (get_or bs k 0) ≡ true
end_byte [] k h low = absurd (omega arith)
end_byte (b ∷ []) zero h low = ap is_quiet (eqb-true b 10 h)
end_byte (b ∷ []) (suc k) h low = absurd (omega arith)
end_byte (b ∷ c ∷ []) zero h low = ap is_quiet (eqb-true b 13 (both_true (eqb b 13) (eqb c 10) h).0)
end_byte (b ∷ c ∷ []) (suc zero) h low = ap is_quiet (eqb-true c 10 (both_true (eqb b 13) (eqb c 10) h).1)
end_byte (b ∷ c ∷ []) (suc (suc k)) h low = absurd (omega arith)
end_byte (b ∷ c ∷ d ∷ ds) k h low = absurd (false≢true h)

after_text : (line : List ℕ) (k : ℕ) → length (text line) ≤ k → k < length line → is_quiet (get_or line k 0) ≡ true
after_text [] k past low = absurd (omega arith)
after_text (b ∷ bs) zero past low =
    elim (is_line_end (b ∷ bs)) as (λ v. is_line_end (b ∷ bs) ≡ v → length (cond v [] (b ∷ text bs)) ≤ 0 → is_quiet b ≡ true) [
      | true ↦ λ e at. end_byte (b ∷ bs) 0 e low
      | false ↦ λ e at. absurd (omega (arith, at))
    ] refl past
after_text (b ∷ bs) (suc k) past low =
    elim (is_line_end (b ∷ bs)) as (λ v. is_line_end (b ∷ bs) ≡ v → length (cond v [] (b ∷ text bs)) ≤ suc k → is_quiet (get_or bs k 0) ≡ true) [
      | true ↦ λ e at. end_byte (b ∷ bs) (suc k) e low
      | false ↦ λ e at. after_text bs k (omega (arith, at)) (omega (arith, low))
    ] refl past

after_blanks : (xs : List ℕ) (k : ℕ) → length (without_end_blanks xs) ≤ k → k < length xs → is_blank (get_or xs k 0) ≡ true
after_blanks xs k past low =
    let m = length xs - suffix_len is_blank xs in
    let size : length (take m xs) ≡ m = length-take-le m xs (omega arith) in
    let i = length xs - 1 - k in
    let back : length xs - 1 - i ≡ k = omega (arith, low) in
    let within : i < suffix_len is_blank xs = omega (arith, low, past, size, suffix_len-le-length is_blank xs) in
    ap is_blank (sym (get_or-reverse xs i 0 (omega (arith, low)) ∙ ap (λ n. get_or xs n 0) back)) ∙ prefix_len_passes is_blank (reverse xs) i 0 within

text_begins : (line : List ℕ) → take (length (text line)) line ≡ text line
text_begins [] = refl
text_begins (b ∷ bs) =
    elim (is_line_end (b ∷ bs))
    as (λ v. take (length (cond v [] (b ∷ text bs))) (b ∷ bs) ≡ cond v [] (b ∷ text bs)) [
      | true ↦ refl
      | false ↦ ap (λ t. b ∷ t) (text_begins bs)
    ]

text_within : (line : List ℕ) → length (text line) ≤ length line
text_within [] = omega arith
text_within (b ∷ bs) = elim (is_line_end (b ∷ bs)) as (λ v. length (cond v [] (b ∷ text bs)) ≤ suc (length bs)) [
  | true ↦ omega arith
  | false ↦ omega (arith, text_within bs)
]

-- the text without its white space has all escapes of the line
trimmed_size : (xs : List ℕ) → length (without_end_blanks xs) ≤ length xs
trimmed_size xs = omega (arith, length-take-le (length xs - suffix_len is_blank xs) xs (omega arith))

trimmed_begins : (xs : List ℕ) → take (length (without_end_blanks xs)) xs ≡ without_end_blanks xs
trimmed_begins xs =
    let m = length xs - suffix_len is_blank xs in
    ap (λ n. take n xs) (length-take-le m xs (omega arith))

after_trimmed : (line : List ℕ) (k : ℕ) → length (without_end_blanks (text line)) ≤ k → k < length line → is_quiet (get_or line k 0) ≡ true
after_trimmed line k past low = elim (cases_lt k (length (text line))) as (λ _. is_quiet (get_or line k 0) ≡ true) [
  | inl h ↦
      let blank = after_blanks (text line) k past h in
      let same : get_or (text line) k 0 ≡ get_or line k 0 = ap (λ t. get_or t k 0) (sym (text_begins line)) ∙ get_or-take (length (text line)) line k 0 h in
      blank_is_quiet (get_or line k 0) (ap is_blank (sym same) ∙ blank) _ refl
  | inr h ↦ after_text line k h low
]

abbrev trimmed : List ℕ → List ℕ
trimmed line = without_end_blanks (text line)

line_front : (line : List ℕ) → trimmed line ++ drop (length (trimmed line)) line ≡ line
line_front line =
    let t = trimmed line in
    let n = length t in
    let low : n ≤ length (text line) = trimmed_size (text line) in
    let front : take n line ≡ t =
    sym (take-take n (length (text line)) line low) ∙ ap (take n) (text_begins line) ∙ trimmed_begins (text line) in
    ap (λ s. s ++ drop n line) (sym front) ∙ take-append-drop n line

escapes_of_line : (line : List ℕ) → escapes line ≡ escapes (trimmed line)
escapes_of_line line =
    let n = length (trimmed line) in
    ap escapes (sym (line_front line))
    ∙ quiet_end (trimmed line) (drop n line)
    (λ k low. ap is_quiet (get_or-drop n line k 0) ∙ after_trimmed line (n + k) (omega arith) (omega (arith, low, length-drop n line)))

-- the last byte of a text
last_split : (xs : List ℕ) → 0 < length xs → xs ≡ take (length xs - 1) xs ++ (get_or xs (length xs - 1) 0 ∷ [])
last_split [] h = absurd (omega arith)
last_split (b ∷ []) h = refl
last_split (b ∷ c ∷ cs) h =
    let one : suc (suc (length cs)) - 1 ≡ suc (length cs) = omega arith in
    let two : suc (length cs) - 1 ≡ length cs = omega arith in
    rw one (ap (λ t. b ∷ t) (subst (λ n. c ∷ cs ≡ take n (c ∷ cs) ++ (get_or (c ∷ cs) n 0 ∷ [])) two (last_split (c ∷ cs) (omega arith))))

pub soft_has_some : (t : List ℕ) → is_soft t ≡ true → 0 < length t
soft_has_some [] h = absurd (false≢true h)
soft_has_some (b ∷ bs) h = omega arith

cut_soft_some : (line t : List ℕ) → t ≡ trimmed line → 0 < length t → is_soft t ≡ true
    → length (quoted_line line) + 2 * escapes line + (length line - (length t - 1)) ≡ length line
cut_soft_some line t is some soft =
    let front = take (length t - 1) t in
    let size : length front ≡ length t - 1 = length-take-le (length t - 1) t (omega arith) in
    let end = drop (length (text line)) line in
    let encodes : quoted_line line ≡ unescaped front =
    ap (λ s. text_with_end s end) (sym is) ∙ ap (λ v. cond v (unescaped front) (unescaped t ++ end)) soft in
    let last : escapes t ≡ escapes front =
    ap escapes (last_split t some ∙ ap (λ b. front ++ (b ∷ [])) (eqb-true (get_or t (length t - 1) 0) 61 soft)) ∙ escapes_apart front [] 61 refl ∙ add-zero (escapes front) in
    let inside : length t ≤ length line = omega (arith, ap length is, trimmed_size (text line), text_within line) in
    omega (arith, ap length encodes, size, last, inside, some, escapes_of_line line, ap escapes is, size_of_unescaped front)

pub cut_soft : (line t : List ℕ) → t ≡ trimmed line → is_soft t ≡ true → length (quoted_line line) + 2 * escapes line + (length line - (length t - 1)) ≡ length line
cut_soft line t is soft = cut_soft_some line t is (soft_has_some t soft) soft

pub cut_plain : (line t : List ℕ) → t ≡ trimmed line → is_soft t ≡ false → length (quoted_line line) + 2 * escapes line + (length (text line) - length t) ≡ length line
cut_plain line t is plain =
    let end = drop (length (text line)) line in
    let encodes : quoted_line line ≡ unescaped t ++ end =
    ap (λ s. text_with_end s end) (sym is) ∙ ap (λ v. cond v (unescaped (take (length t - 1) t)) (unescaped t ++ end)) plain in
    let inside : length t ≤ length (text line) = omega (arith, ap length is, trimmed_size (text line)) in
    omega (arith, ap length encodes, length-append (unescaped t) end, length-drop (length (text line)) line, inside, text_within line, escapes_of_line line, ap escapes is, size_of_unescaped t)

-- a line ends with an LF, or it is the last
abbrev IsEnded : List ℕ → List ℕ → Type 0
IsEnded line after = (after ≡ []) ⊎ ((front : List ℕ) × (line ≡ front ++ (10 ∷ [])))

heads : {A : Type 0} (d : A) (x y : A) (xs ys : List A) → x ∷ xs ≡ y ∷ ys → (x ≡ y) × (xs ≡ ys)
heads d x y xs ys e = (ap (λ t. get_or t 0 d) e, ap (drop 1) e)

some_lines : (b : ℕ) (v : Bool) (ls : List (List ℕ)) → cond v ((b ∷ []) ∷ ls) (onto_first b ls) ≡ [] → ⊥
some_lines b true ls e = absurd (omega (arith, ap length e))
some_lines b false [] e = absurd (omega (arith, ap length e))
some_lines b false (l ∷ ls) e = absurd (omega (arith, ap length e))

no_lines : (xs : List ℕ) → lines xs ≡ [] → xs ≡ []
no_lines [] e = refl
no_lines (b ∷ bs) e = absurd (some_lines b (eqb b 10) (lines bs) e)

onto_longer : (b : ℕ) (line after : List ℕ) → IsEnded line after → IsEnded (b ∷ line) after
onto_longer b line after (inl e) = inl e
onto_longer b line after (inr (front, e)) = inr (b ∷ front, ap (λ t. b ∷ t) e)

is_ended : (rest line after : List ℕ) → lines rest ≡ line ∷ lines after → rest ≡ line ++ after → IsEnded line after
is_ended [] line after first whole = absurd (omega (arith, ap length first))
is_ended (b ∷ bs) line after first whole =
    elim (eqb b 10) as (λ v. eqb b 10 ≡ v → cond v ((b ∷ []) ∷ lines bs) (onto_first b (lines bs)) ≡ line ∷ lines after → IsEnded line after) [
      | true ↦ λ e at. inr ([], sym (heads [] (b ∷ []) line (lines bs) (lines after) at).0 ∙ ap (λ c. c ∷ []) (eqb-true b 10 e))
      | false ↦ λ e at.
          elim (lines bs) as (λ ls. lines bs ≡ ls → onto_first b ls ≡ line ∷ lines after → IsEnded line after) [
            | [] ↦ λ none same. inl (no_lines after (sym (heads [] (b ∷ []) line [] (lines after) same).1))
            | l ∷ ls ↦ λ some same.
                let parts = heads [] (b ∷ l) line ls (lines after) same in
                let rest : bs ≡ l ++ after = ap (drop 1) (whole ∙ ap (λ t. t ++ after) (sym parts.0)) in
                subst (λ t. IsEnded t after) parts.0 (onto_longer b l after (is_ended bs l after (some ∙ ap (λ t. l ∷ t) parts.1) rest))
          ] refl at
    ] refl first

ended_apart : (line after : List ℕ) → IsEnded line after → escapes (line ++ after) ≡ escapes line + escapes after
ended_apart line after (inl e) = ap (λ t. escapes (line ++ t)) e ∙ ap escapes (append-nil line) ∙ sym (ap (λ t. escapes line + escapes t) e ∙ add-zero (escapes line))
ended_apart line after (inr (front, e)) =
    let parted : escapes (line ++ after) ≡ escapes front + escapes after =
    ap (λ t. escapes (t ++ after)) e ∙ ap escapes (append_assoc front (10 ∷ []) after) ∙ past_quiet front after 10 refl in
    let alone : escapes line ≡ escapes front = ap escapes e ∙ past_quiet front [] 10 refl ∙ add-zero (escapes front) in
    omega (arith, parted, alone)

pub escapes_of_lines : (rest line after : List ℕ) → lines rest ≡ line ∷ lines after → rest ≡ line ++ after → escapes rest ≡ escapes line + escapes after
escapes_of_lines rest line after first whole = ap escapes whole ∙ ended_apart line after (is_ended rest line after first whole)
