-- Lines of a folded value, one at a time, and the spaces at its beginning.
use Rattle.std.proofs.Common.{◌≡◌, ◌≢◌, ℕ, suc, Bool, true, false, eqb, ◌&&◌, List, [], ◌∷◌, ◌++◌, refl, ap, ◌∙◌, arith}
use Rattle.std.specs.List.{onto_first, flat_map}
use Rattle.std.proofs.lemmas.Bool.{ne_eqb}
use Rattle.std.proofs.lemmas.List.{append-nil}
use Rattle.mime_lines.specs.Lines.{lines, text, unfolded}
use Rattle.header_forms.specs.Texts.{without_spaces}
use Rattle.header_forms.proofs.Angled.{Lacks}

lines_first : (line rest : List ℕ) → Lacks 10 line → lines (line ++ 10 ∷ rest) ≡ (line ++ 10 ∷ []) ∷ lines rest
lines_first [] rest none = refl
lines_first (b ∷ bs) rest none =
    rw (ne_eqb b 10 (none 0 (omega arith))) (ap (onto_first b) (lines_first bs rest (λ k low. none (suc k) (omega arith))))

pub first_unfolded : (line rest : List ℕ) → Lacks 10 line → unfolded (line ++ 10 ∷ rest) ≡ text (line ++ 10 ∷ []) ++ unfolded rest
first_unfolded line rest none = ap (flat_map text) (lines_first line rest none)

lines_last : (b : ℕ) (bs : List ℕ) → Lacks 10 (b ∷ bs) → lines (b ∷ bs) ≡ (b ∷ bs) ∷ []
lines_last b [] none = rw (ne_eqb b 10 (none 0 (omega arith))) refl
lines_last b (c ∷ cs) none =
    rw (ne_eqb b 10 (none 0 (omega arith))) (ap (onto_first b) (lines_last c cs (λ k low. none (suc k) (omega arith))))

and_false : (p q : Bool) → q ≡ false → (p && q) ≡ false
and_false true q h = h
and_false false q h = refl

text_plain : (xs : List ℕ) → Lacks 10 xs → text xs ≡ xs
text_plain [] none = refl
text_plain (b ∷ []) none = rw (ne_eqb b 10 (none 0 (omega arith))) refl
text_plain (b ∷ c ∷ []) none =
    let c_no = ne_eqb c 10 (none 1 (omega arith)) in
    rw (and_false (eqb b 13) (eqb c 10) c_no, c_no) refl
text_plain (b ∷ c ∷ d ∷ ds) none = ap (λ t. b ∷ t) (text_plain (c ∷ d ∷ ds) (λ k low. none (suc k) (omega arith)))

pub last_unfolded : (line : List ℕ) → Lacks 10 line → unfolded line ≡ line
last_unfolded [] none = refl
last_unfolded (b ∷ bs) none = ap (flat_map text) (lines_last b bs none) ∙ append-nil (text (b ∷ bs)) ∙ text_plain (b ∷ bs) none

pub text_crlf : (front : List ℕ) → text ((front ++ 13 ∷ []) ++ 10 ∷ []) ≡ front
text_crlf [] = refl
text_crlf (b ∷ []) = refl
text_crlf (b ∷ c ∷ []) = refl
text_crlf (b ∷ c ∷ d ∷ ds) = ap (λ t. b ∷ t) (text_crlf (c ∷ d ∷ ds))

pub text_lf : (line : List ℕ) → ((front : List ℕ) → line ≢ front ++ 13 ∷ []) → text (line ++ 10 ∷ []) ≡ line
text_lf [] other = refl
text_lf (b ∷ []) other = rw (ne_eqb b 13 (λ e. other [] (ap (λ z. z ∷ []) e))) refl
text_lf (b ∷ c ∷ []) other = ap (λ t. b ∷ t) (text_lf (c ∷ []) (λ front e. other (b ∷ front) (ap (λ t. b ∷ t) e)))
text_lf (b ∷ c ∷ d ∷ ds) other = ap (λ t. b ∷ t) (text_lf (c ∷ d ∷ ds) (λ front e. other (b ∷ front) (ap (λ t. b ∷ t) e)))

pub no_space : (text : List ℕ) → ((rest : List ℕ) → text ≢ 32 ∷ rest) → without_spaces text ≡ text
no_space [] other = refl
no_space (b ∷ bs) other = rw (ne_eqb b 32 (λ e. other bs (ap (λ z. z ∷ bs) e))) refl
