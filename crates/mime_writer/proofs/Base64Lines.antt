-- What base64 has on each of its lines.
use Rattle.std.proofs.Common.{◌≡◌, ℕ, zero, suc, ◌+◌, ◌*◌, ◌/◌, ◌%◌, ◌≤◌, ◌<◌, List, [], ◌∷◌, ◌++◌, length, refl, sym, ap, ◌∙◌, arith, take, drop, append_assoc, length-append}
use Rattle.std.proofs.lemmas.List.{length-take-le, take-append-drop}
use Rattle.std.specs.Prelude.{slice_index}
use Rattle.mime_codec.specs.Base64Text.{base64_text, encoded, sign, wrapped}

wrapped_short : (n : ℕ) (t : List ℕ) → length t ≤ n → wrapped n t ≡ t
wrapped_short zero [] h = refl
wrapped_short (suc n) [] h = refl
wrapped_short zero (b ∷ bs) h = absurd (omega (arith, h))
wrapped_short (suc n) (b ∷ bs) h = ap (λ t. b ∷ t) (wrapped_short n bs (omega arith))

wrapped_both : (n : ℕ) (s t : List ℕ) → length s ≡ n → 0 < length t → wrapped n (s ++ t) ≡ s ++ 13 ∷ 10 ∷ wrapped 76 t
wrapped_both zero [] [] e some = absurd (omega (arith, some))
wrapped_both zero [] (b ∷ bs) e some = refl
wrapped_both (suc n) [] t e some = absurd (omega (arith, e))
wrapped_both zero (a ∷ s) t e some = absurd (omega (arith, e))
wrapped_both (suc n) (a ∷ s) t e some = ap (λ u. a ∷ u) (wrapped_both n s t (omega (arith, e)) some)

-- whole groups of three bytes
encoded_both : (k : ℕ) (s t : List ℕ) → length s ≡ 3 * k → encoded (s ++ t) ≡ encoded s ++ encoded t
encoded_both zero [] t e = refl
encoded_both (suc k) [] t e = absurd (omega (arith, e))
encoded_both zero (a ∷ s) t e = absurd (omega (arith, e))
encoded_both (suc k) (a ∷ []) t e = absurd (omega (arith, e))
encoded_both (suc k) (a ∷ b ∷ []) t e = absurd (omega (arith, e))
encoded_both (suc k) (a ∷ b ∷ c ∷ s) t e =
    ap (λ u. sign (a / 4) ∷ sign (a % 4 * 16 + b / 16) ∷ sign (b % 16 * 4 + c / 64) ∷ sign (c % 64) ∷ u) (encoded_both k s t (omega (arith, e)))

encoded_size : (k : ℕ) (s : List ℕ) → length s ≡ 3 * k → length (encoded s) ≡ 4 * k
encoded_size zero [] e = refl
encoded_size (suc k) [] e = absurd (omega (arith, e))
encoded_size zero (a ∷ s) e = absurd (omega (arith, e))
encoded_size (suc k) (a ∷ []) e = absurd (omega (arith, e))
encoded_size (suc k) (a ∷ b ∷ []) e = absurd (omega (arith, e))
encoded_size (suc k) (a ∷ b ∷ c ∷ s) e = omega (arith, encoded_size k s (omega (arith, e)))

encoded_most : (k : ℕ) (s : List ℕ) → length s ≤ 3 * k → length (encoded s) ≤ 4 * k
encoded_most k [] h = omega arith
encoded_most zero (a ∷ s) h = absurd (omega (arith, h))
encoded_most (suc k) (a ∷ []) h = omega arith
encoded_most (suc k) (a ∷ b ∷ []) h = omega arith
encoded_most (suc k) (a ∷ b ∷ c ∷ s) h = omega (arith, encoded_most k s (omega (arith, h)))

encoded_some : (s : List ℕ) → 0 < length s → 0 < length (encoded s)
encoded_some [] h = absurd (omega (arith, h))
encoded_some (a ∷ []) h = omega arith
encoded_some (a ∷ b ∷ []) h = omega arith
encoded_some (a ∷ b ∷ c ∷ s) h = omega arith

pub line_more : (s t : List ℕ) → length s ≡ 57 → 0 < length t → base64_text (s ++ t) ≡ encoded s ++ 13 ∷ 10 ∷ base64_text t
line_more s t e some =
    ap (wrapped 76) (encoded_both 19 s t e)
    ∙ wrapped_both 76 (encoded s) (encoded t) (encoded_size 19 s e) (encoded_some t some)

pub line_last : (s : List ℕ) → length s ≤ 57 → base64_text s ≡ encoded s
line_last s h = wrapped_short 76 (encoded s) (encoded_most 19 s h)

-- the first three bytes
pub group_more : (t : List ℕ) → 2 < length t → encoded t ≡ encoded (slice_index t 0 ∷ slice_index t 1 ∷ slice_index t 2 ∷ []) ++ encoded (drop 3 t)
group_more [] h = absurd (omega (arith, h))
group_more (a ∷ []) h = absurd (omega (arith, h))
group_more (a ∷ b ∷ []) h = absurd (omega (arith, h))
group_more (a ∷ b ∷ c ∷ t) h = refl

pub line_step : (old a b d line more rest : List ℕ) → b ≡ a ++ encoded line → d ≡ b ++ 13 ∷ 10 ∷ [] → line ≡ take 57 rest → more ≡ drop 57 rest → 57 < length rest
    → a ++ base64_text rest ≡ old → d ++ base64_text more ≡ old
line_step old a b d line more rest e f g h some held =
    let whole : line ++ more ≡ rest = ap (λ t. t ++ more) g ∙ ap (λ t. take 57 rest ++ t) h ∙ take-append-drop 57 rest in
    let size : length line ≡ 57 = ap length g ∙ length-take-le 57 rest (omega (arith, some)) in
    let left : 0 < length more = omega (arith, ap length whole, length-append line more, size, some) in
    let text : base64_text rest ≡ encoded line ++ 13 ∷ 10 ∷ base64_text more = ap base64_text (sym whole) ∙ line_more line more size left in
    ap (λ t. t ++ base64_text more) f ∙ append_assoc b (13 ∷ 10 ∷ []) (base64_text more) ∙ ap (λ t. t ++ 13 ∷ 10 ∷ base64_text more) e
    ∙ append_assoc a (encoded line) (13 ∷ 10 ∷ base64_text more) ∙ ap (λ t. a ++ t) (sym text) ∙ held
