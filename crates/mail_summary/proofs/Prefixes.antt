-- The prefix of a text.
use Rattle.std.proofs.Common.{◌≡◌, ℕ, zero, suc, Bool, true, false, List, [], ◌∷◌, ◌++◌, take, drop, length, ◌≤◌, refl, sym, ap, ◌∙◌, arith, rules}
use Rattle.std.specs.Prelude.{if◌then◌else◌, ◌==◌}
use Rattle.std.specs.Str.{chars}
use Rattle.std.proofs.lemmas.Str.{chars-nil}
use Rattle.mail_summary.specs.Texts.{with_gap_if, spaced, without_space}

abbrev first : List ℕ → ℕ
first [] = 0
first (x ∷ xs) = x

pub take_front : (n : ℕ) (xs ys : List ℕ) → n ≤ length xs → take n xs ≡ take n (xs ++ ys)
take_front zero xs ys h = refl
take_front (suc n) [] ys h = absurd (omega arith)
take_front (suc n) (x ∷ xs) ys h = ap (λ zs. x ∷ zs) (take_front n xs ys (omega arith))

nothing_after : (gap : Bool) (xs : List ℕ) → xs ≡ xs ++ with_gap_if gap []
nothing_after true xs = search rules
nothing_after false xs = search rules

-- nothing is added where nothing is left
pub at_end : (n : ℕ) (gap : Bool) (out rest whole : List ℕ) → length rest ≡ 0 → out ++ with_gap_if gap (spaced (chars rest)) ≡ whole → take n out ≡ take n whole
at_end n gap out [] whole none same = ap (take n) (nothing_after gap out ∙ ap (λ cs. out ++ with_gap_if gap (spaced cs)) (sym chars-nil) ∙ same)
at_end n gap out (c ∷ cs) whole none same = absurd (omega (arith, none))

shorter : (n : ℕ) (xs ys : List ℕ) → take (suc n) xs ≡ take (suc n) ys → take n xs ≡ take n ys
shorter zero xs ys e = refl
shorter (suc n) [] [] e = refl
shorter (suc n) [] (y ∷ ys) e = absurd (omega (arith, ap length e))
shorter (suc n) (x ∷ xs) [] e = absurd (omega (arith, ap length e))
shorter (suc n) (x ∷ xs) (y ∷ ys) e = λ i. first (e i) ∷ shorter n xs ys (ap (drop 1) e) i

first_space : (n c : ℕ) (gap : Bool) (xs ys : List ℕ) → take n xs ≡ take n ys → take n (c ∷ xs) ≡ take n (c ∷ ys) → take n (if gap then xs else c ∷ xs) ≡ take n (if gap then ys else c ∷ ys)
first_space n c true xs ys after whole = after
first_space n c false xs ys after whole = whole

-- a space at the beginning is one character less
pub front_without_space : (n : ℕ) (xs ys : List ℕ) → take (suc n) xs ≡ take (suc n) ys → take n (without_space xs) ≡ take n (without_space ys)
front_without_space n [] [] e = refl
front_without_space n [] (y ∷ ys) e = absurd (omega (arith, ap length e))
front_without_space n (x ∷ xs) [] e = absurd (omega (arith, ap length e))
front_without_space n (x ∷ xs) (y ∷ ys) e = let same : x ≡ y = ap first e in
    first_space n x (x == 32) xs ys (ap (drop 1) e) (shorter n (x ∷ xs) (x ∷ ys) (e ∙ ap (λ c. c ∷ take n ys) (sym same)))
    ∙ ap (λ c. take n (without_space (c ∷ ys))) same
