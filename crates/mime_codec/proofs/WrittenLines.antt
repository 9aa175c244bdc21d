-- The lines of quoted-printable, one at a time.
use Rattle.std.proofs.Common.{◌≡◌, ℕ, zero, suc, ◌+◌, ◌-◌, ◌<◌, Bool, true, false, cond, eqb, ◌&&◌, not, List, [], ◌∷◌, ◌++◌, length, get_or, take, drop, refl, sym, ap, ◌∙◌, append_assoc, length-append, arith}
use Rattle.std.specs.List.{flat_map, list_all, onto_first, suffix_len}
use Rattle.std.proofs.lemmas.Bool.{true≢false}
use Rattle.std.proofs.lemmas.List.{append-nil, drop_at, take_all, drop_all, take_at, get_or-append-add}
use Rattle.std.proofs.lemmas.List.Sums.{suffix_len_is}
use Rattle.mime_lines.specs.Lines.{lines, text, is_blank}
use Rattle.mime_lines.specs.Written.{crlf, is_inline}
use Rattle.mime_lines.proofs.Unfolds.{IsInline, both_true, not_true, line_before, last_line, text_before, text_alone}
use Rattle.mime_codec.specs.Quoted.{unescaped, without_end_blanks, is_soft, text_with_end, quoted_line, quoted_printable}
use Rattle.mime_codec.specs.QuotedText.{is_lf, soft_break}

-- the last byte is neither white space nor an equals sign
abbrev pub last_of : List ℕ → ℕ
last_of t = get_or t (length t - 1) 0

abbrev pub is_firm : ℕ → Bool
is_firm b = not (is_blank b) && not (eqb b 61)

abbrev pub EndsFirm : List ℕ → Type 0
EndsFirm t = 0 < length t → is_firm (last_of t) ≡ true

blanks_stay : (t : List ℕ) → (0 < length t → is_blank (last_of t) ≡ false) → without_end_blanks t ≡ t
blanks_stay t h =
    let none : suffix_len is_blank t ≡ length t - length t =
    suffix_len_is is_blank t (length t) 0 (omega arith) (λ k low high. absurd (omega (arith, low, high))) h in
    let all : length t - suffix_len is_blank t ≡ length t = omega (arith, none) in
    ap (λ n. take n t) all ∙ take_all (length t) t (omega arith)

firm_blank : (t : List ℕ) → EndsFirm t → 0 < length t → is_blank (last_of t) ≡ false
firm_blank t h some = not_true (is_blank (last_of t)) (both_true (not (is_blank (last_of t))) (not (eqb (last_of t) 61)) (h some)).0

firm_soft : (t : List ℕ) → EndsFirm t → is_soft t ≡ false
firm_soft [] h = refl
firm_soft (b ∷ bs) h =
    let t = b ∷ bs in
    not_true (eqb (last_of t) 61) (both_true (not (is_blank (last_of t))) (not (eqb (last_of t) 61)) (h (omega arith))).1

firm_text : (t end : List ℕ) → EndsFirm t → text_with_end (without_end_blanks t) end ≡ unescaped t ++ end
firm_text t end h =
    ap (λ u. text_with_end u end) (blanks_stay t (firm_blank t h))
    ∙ ap (λ v. cond v (unescaped (take (length t - 1) t)) (unescaped t ++ end)) (firm_soft t h)

abbrev quoted_by : List ℕ → List ℕ → List ℕ
quoted_by line t = text_with_end (without_end_blanks t) (drop (length t) line)

line_with_end : (t : List ℕ) → quoted_line (t ++ crlf) ≡ text_with_end (without_end_blanks t) crlf
line_with_end t = ap (quoted_by (t ++ crlf)) (text_before t) ∙ ap (text_with_end (without_end_blanks t)) (drop_at t crlf (length t) refl)

-- a line that ends
pub hard_line : (t rest : List ℕ) → IsInline t → EndsFirm t → quoted_printable (t ++ 13 ∷ 10 ∷ rest) ≡ unescaped t ++ 13 ∷ 10 ∷ quoted_printable rest
hard_line t rest h firm =
    let all : List (List ℕ) → List ℕ = flat_map quoted_line in
    ap all (line_before t rest h)
    ∙ ap (λ u. u ++ quoted_printable rest) (line_with_end t ∙ firm_text t crlf firm)
    ∙ append_assoc (unescaped t) crlf (quoted_printable rest)

-- the last line
pub end_line : (t : List ℕ) → IsInline t → EndsFirm t → quoted_printable t ≡ unescaped t
end_line [] h firm = refl
end_line (b ∷ bs) h firm =
    let t = b ∷ bs in
    let all : List (List ℕ) → List ℕ = flat_map quoted_line in
    ap all (last_line b bs h)
    ∙ append-nil (quoted_line t)
    ∙ ap (quoted_by t) (text_alone t h)
    ∙ ap (text_with_end (without_end_blanks t)) (drop_all (length t) t (omega arith))
    ∙ firm_text t [] firm ∙ append-nil (unescaped t)

-- a line that is continued
soft_last : (t : List ℕ) → last_of (t ++ 61 ∷ []) ≡ 61
soft_last t =
    let size : length (t ++ 61 ∷ []) - 1 ≡ length t + 0 = omega (arith, length-append t (61 ∷ [])) in
    ap (λ n. get_or (t ++ 61 ∷ []) n 0) size ∙ get_or-append-add t (61 ∷ []) 0 0

soft_text : (t end : List ℕ) → text_with_end (without_end_blanks (t ++ 61 ∷ [])) end ≡ unescaped t
soft_text t end =
    let u = t ++ 61 ∷ [] in
    let size : length u - 1 ≡ length t = omega (arith, length-append t (61 ∷ [])) in
    ap (λ u. text_with_end u end) (blanks_stay u (λ _. ap is_blank (soft_last t)))
    ∙ ap (λ v. cond v (unescaped (take (length u - 1) u)) (unescaped u ++ end)) (ap (λ b. eqb b 61) (soft_last t))
    ∙ ap unescaped (take_at t (61 ∷ []) (length u - 1) (sym size))

all_and : (t : List ℕ) → IsInline t → IsInline (t ++ 61 ∷ [])
all_and [] h = refl
all_and (b ∷ bs) h =
    let parts = both_true (is_inline b) (list_all is_inline bs) h in
    rw parts.0 (all_and bs parts.1)

pub soft_line : (t rest : List ℕ) → IsInline t → quoted_printable (t ++ (soft_break ++ rest)) ≡ unescaped t ++ quoted_printable rest
soft_line t rest h =
    let all : List (List ℕ) → List ℕ = flat_map quoted_line in
    let u = t ++ 61 ∷ [] in
    ap quoted_printable (sym (append_assoc t (61 ∷ []) (13 ∷ 10 ∷ rest)))
    ∙ ap all (line_before u rest (all_and t h))
    ∙ ap (λ v. v ++ quoted_printable rest) (line_with_end u ∙ soft_text t crlf)
