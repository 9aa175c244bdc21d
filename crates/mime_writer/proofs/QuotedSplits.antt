-- Cutting bytes at their first LF.
use Rattle.std.proofs.Common.{◌≡◌, ℕ, zero, suc, ◌<◌, false, cond, eqb, List, [], ◌∷◌, length, take, drop, refl, ap, ◌∙◌, arith}
use Rattle.std.specs.List.{onto_first, slice_split}
use Rattle.std.proofs.lemmas.Bool.{false_from_ne_true}
use Rattle.memchr.specs.Find.{Nowhere, Passes, is_byte}
use Rattle.mime_codec.specs.QuotedText.{is_lf}

inner_nowhere : (b : ℕ) (bs : List ℕ) (n : ℕ) → Nowhere (Passes (is_byte 10) (b ∷ bs)) 0 (suc n) → Nowhere (Passes (is_byte 10) bs) 0 n
inner_nowhere b bs n h = λ k low high e. h (suc k) (omega arith) (omega (arith, high)) e

no_lf : (b : ℕ) (bs : List ℕ) (n : ℕ) → 0 < n → Nowhere (Passes (is_byte 10) (b ∷ bs)) 0 n → eqb b 10 ≡ false
no_lf b bs n some h = false_from_ne_true (eqb b 10) (λ e. h 0 (omega arith) some e)

pub split_here : (n : ℕ) (bs : List ℕ) → n < length bs → Nowhere (Passes (is_byte 10) bs) 0 n → Passes (is_byte 10) bs n
    → slice_split is_lf bs ≡ take n bs ∷ slice_split is_lf (drop (suc n) bs)
split_here n [] some h e = absurd (omega (arith, some))
split_here zero (b ∷ bs) some h e = ap (λ v. cond v ([] ∷ slice_split is_lf bs) (onto_first b (slice_split is_lf bs))) e
split_here (suc n) (b ∷ bs) some h e =
    ap (λ v. cond v ([] ∷ slice_split is_lf bs) (onto_first b (slice_split is_lf bs))) (no_lf b bs (suc n) (omega arith) h)
    ∙ ap (onto_first b) (split_here n bs (omega (arith, some)) (inner_nowhere b bs n h) e)

pub split_nowhere : (bs : List ℕ) → Nowhere (Passes (is_byte 10) bs) 0 (length bs) → slice_split is_lf bs ≡ bs ∷ []
split_nowhere [] h = refl
split_nowhere (b ∷ bs) h =
    ap (λ v. cond v ([] ∷ slice_split is_lf bs) (onto_first b (slice_split is_lf bs))) (no_lf b bs (suc (length bs)) (omega arith) h)
    ∙ ap (onto_first b) (split_nowhere bs (inner_nowhere b bs (length bs) h))
