-- A text that is folded over lines, on one line.
use Rattle.std.proofs.Common.{◌≡◌, ℕ, Bool, true, false, eqb, ◌&&◌, not, List, [], ◌∷◌, ◌++◌, refl, sym, ap, ◌∙◌, append_assoc}
use Rattle.std.specs.List.{AllByRecursion, flat_map, list_all, onto_first}
use Rattle.std.proofs.lemmas.Bool.{true≢false}
use Rattle.std.proofs.lemmas.List.{append-nil}
use Rattle.std.proofs.lemmas.List.Folds.{list_all-append}
use Rattle.mime_lines.specs.Lines.{lines, text, unfolded}
use Rattle.mime_lines.specs.Written.{crlf, fold, is_inline, parted_by}

pub both_true : (p q : Bool) → (p && q) ≡ true → (p ≡ true) × (q ≡ true)
both_true true q h = (refl, h)
both_true false q h = absurd (true≢false (sym h))

pub not_true : (p : Bool) → not p ≡ true → p ≡ false
not_true true h = absurd (true≢false (sym h))
not_true false h = refl

-- no LF is in a text
abbrev pub IsInline : List ℕ → Type 0
IsInline t = list_all is_inline t ≡ true

pub line_before : (t rest : List ℕ) → IsInline t → lines (t ++ 13 ∷ 10 ∷ rest) ≡ (t ++ crlf) ∷ lines rest
line_before [] rest h = refl
line_before (b ∷ bs) rest h =
    let parts = both_true (is_inline b) (list_all is_inline bs) h in
    rw (not_true (eqb b 10) parts.0) (ap (onto_first b) (line_before bs rest parts.1))

pub last_line : (b : ℕ) (bs : List ℕ) → IsInline (b ∷ bs) → lines (b ∷ bs) ≡ (b ∷ bs) ∷ []
last_line b [] h = rw (not_true (eqb b 10) (both_true (is_inline b) true h).0) refl
last_line b (c ∷ cs) h =
    let parts = both_true (is_inline b) (list_all is_inline (c ∷ cs)) h in
    rw (not_true (eqb b 10) parts.0) (ap (onto_first b) (last_line c cs parts.1))

pub text_before : (t : List ℕ) → text (t ++ crlf) ≡ t
text_before [] = refl
text_before (b ∷ []) = refl
text_before (b ∷ c ∷ []) = refl
text_before (b ∷ c ∷ d ∷ ds) = ap (λ t. b ∷ t) (text_before (c ∷ d ∷ ds))

pub text_alone : (t : List ℕ) → IsInline t → text t ≡ t
text_alone [] h = refl
text_alone (b ∷ []) h = rw (not_true (eqb b 10) (both_true (is_inline b) true h).0) refl
text_alone (b ∷ c ∷ []) h =
    let parts = both_true (is_inline b) (list_all is_inline (c ∷ [])) h in
    let no : eqb c 10 ≡ false = not_true (eqb c 10) (both_true (is_inline c) true parts.1).0 in
    let none : (eqb b 13 && eqb c 10) ≡ false = elim (eqb b 13) as (λ v. (v && eqb c 10) ≡ false) [ true ↦ no | false ↦ refl ] in
    rw (none, no) refl
text_alone (b ∷ c ∷ d ∷ ds) h =
    ap (λ t. b ∷ t) (text_alone (c ∷ d ∷ ds) (both_true (is_inline b) (list_all is_inline (c ∷ d ∷ ds)) h).1)

pub unfolded_before : (t rest : List ℕ) → IsInline t → unfolded (t ++ 13 ∷ 10 ∷ rest) ≡ t ++ unfolded rest
unfolded_before t rest h = ap (flat_map text) (line_before t rest h) ∙ ap (λ u. u ++ unfolded rest) (text_before t)

pub unfolded_alone : (t : List ℕ) → IsInline t → unfolded t ≡ t
unfolded_alone [] h = refl
unfolded_alone (b ∷ bs) h = ap (flat_map text) (last_line b bs h) ∙ append-nil (text (b ∷ bs)) ∙ text_alone (b ∷ bs) h

pub inline_both : (a b : List ℕ) → IsInline a → IsInline b → IsInline (a ++ b)
inline_both a b h k = list_all-append is_inline a b ∙ rw (h, k) refl

-- each text is on one line
abbrev pub AreInline : List (List ℕ) → Type 0
AreInline ts = AllByRecursion IsInline ts

-- the first line may have something before
pub unfolded_after : (front between : List ℕ) (ts : List (List ℕ)) → IsInline front → IsInline between → AreInline ts
    → unfolded (front ++ parted_by (between ++ fold) ts) ≡ front ++ parted_by (between ++ 32 ∷ []) ts
unfolded_after front between [] f b h = ap unfolded (append-nil front) ∙ unfolded_alone front f ∙ sym (append-nil front)
unfolded_after front between (t ∷ []) f b h = unfolded_alone (front ++ t) (inline_both front t f h.0)
unfolded_after front between (t ∷ u ∷ ts) f b h =
    let rest = parted_by (between ++ fold) (u ∷ ts) in
    let later = parted_by (between ++ 32 ∷ []) (u ∷ ts) in
    let line = front ++ (t ++ between) in
    let clean : IsInline line = inline_both front (t ++ between) f (inline_both t between h.0 b) in
    let cut : front ++ (t ++ ((between ++ fold) ++ rest)) ≡ line ++ 13 ∷ 10 ∷ 32 ∷ rest =
    ap (λ x. front ++ (t ++ x)) (append_assoc between fold rest) ∙ ap (λ x. front ++ x) (sym (append_assoc t between (fold ++ rest)))
    ∙ sym (append_assoc front (t ++ between) (fold ++ rest)) in
    ap unfolded cut
    ∙ unfolded_before line (32 ∷ rest) clean
    ∙ ap (λ x. line ++ x) (unfolded_after (32 ∷ []) between (u ∷ ts) refl b h.1)
    ∙ append_assoc front (t ++ between) (32 ∷ later)
    ∙ ap (λ x. front ++ x) (append_assoc t between (32 ∷ later) ∙ ap (λ x. t ++ x) (sym (append_assoc between (32 ∷ []) later)))

pub folds_back : (between : List ℕ) (ts : List (List ℕ)) → IsInline between → AreInline ts
    → unfolded (parted_by (between ++ fold) ts) ≡ parted_by (between ++ 32 ∷ []) ts
folds_back between ts b h = unfolded_after [] between ts refl b h
