-- The prefix of a text, and what follows its prefixes.
use Rattle.std.proofs.Common.{◌≡◌, ℕ, zero, suc, ◌-◌, ◌<◌, ◌≤◌, false, List, [], ◌∷◌, length, take, drop, refl, sym, ap, ◌∙◌, arith}
use Rattle.std.specs.Prelude.{if◌then◌else◌, ◌==◌}
use Rattle.std.proofs.lemmas.Bool.{ne_eqb}
use Rattle.std.specs.Char.{is_ascii_whitespace}
use Rattle.mail_summary.specs.Subjects.{prefix_size, without_prefixes}

pub front_size : (n : ℕ) (xs : List ℕ) → n < length xs → n ≡ length (take n xs)
front_size n [] h = absurd (omega arith)
front_size zero (x ∷ xs) h = refl
front_size (suc n) (x ∷ xs) h = ap suc (front_size n xs (omega arith))

pub front_all : (n : ℕ) (xs : List ℕ) → length xs ≤ n → xs ≡ take n xs
front_all zero [] h = refl
front_all (suc n) [] h = refl
front_all zero (x ∷ xs) h = absurd (omega arith)
front_all (suc n) (x ∷ xs) h = ap (λ ys. x ∷ ys) (front_all n xs (omega arith))

-- the rest of a prefix is passed over
passed : (xs : List ℕ) (k : ℕ) → without_prefixes xs k ≡ without_prefixes (drop k xs) 0
passed [] zero = refl
passed [] (suc k) = refl
passed (x ∷ xs) zero = refl
passed (x ∷ xs) (suc k) = passed xs k

after_one_prefix : (c : ℕ) (cs : List ℕ) → is_ascii_whitespace c ≡ false → (prefix_size (c ∷ cs) == 0) ≡ false → without_prefixes (c ∷ cs) 0 ≡ without_prefixes (drop (prefix_size (c ∷ cs) - 1) cs) 0
after_one_prefix c cs white none =
    ap (λ b. if b then without_prefixes cs 0 else (if prefix_size (c ∷ cs) == 0 then c ∷ cs else without_prefixes cs (prefix_size (c ∷ cs) - 1))) white
    ∙ ap (λ b. if b then c ∷ cs else without_prefixes cs (prefix_size (c ∷ cs) - 1)) none
    ∙ passed cs (prefix_size (c ∷ cs) - 1)

pub nothing_after : (n : ℕ) (xs : List ℕ) → length xs ≤ n → drop n xs ≡ []
nothing_after zero [] h = refl
nothing_after (suc n) [] h = refl
nothing_after zero (x ∷ xs) h = absurd (omega arith)
nothing_after (suc n) (x ∷ xs) h = nothing_after n xs (omega arith)

pub after_sized : (text : List ℕ) (c : ℕ) (after rest : List ℕ) (size : ℕ) → text ≡ c ∷ after → is_ascii_whitespace c ≡ false → size ≡ prefix_size text → (size ≡ 0 → ⊥) → rest ≡ drop (size - 1) after → without_prefixes text 0 ≡ without_prefixes rest 0
after_sized text c after rest size at white sized some is =
    let same : size ≡ prefix_size (c ∷ after) = sized ∙ ap prefix_size at in
    let none : (prefix_size (c ∷ after) == 0) ≡ false = ne_eqb (prefix_size (c ∷ after)) 0 (λ e. some (same ∙ e)) in
    ap (λ xs. without_prefixes xs 0) at
    ∙ after_one_prefix c after white none
    ∙ ap (λ n. without_prefixes (drop (n - 1) after) 0) (sym same)
    ∙ ap (λ xs. without_prefixes xs 0) (sym is)
