-- Going over parameters, turn after turn, with an eye on something of what is found.
use Rattle.std.proofs.Common.{◌≡◌, ℕ, zero, suc, ◌≤◌, ◌<◌, true, false, List, [], length, refl, sym, ap, ◌∙◌, arith}
use Rattle.mime_type.specs.Grammar.{Pair, Params, Turn, ends, breaks, skips, gives, turn_at, by_turn, onto_params, params_in, params_of}

-- what is seen of the parameters of the rest is what is seen of all
abbrev pub Sees : {A : Type 0} → (Params → A) → A → List ℕ → Type 0
Sees see total rest = (n : ℕ) × (length rest < n) × (see (params_in n rest) ≡ total)

pub begun : {A : Type 0} (see : Params → A) (text : List ℕ) → Sees see (see (params_of text)) text
begun see text = (suc (length text), omega arith, refl)

turned : {A : Type 0} (see : Params → A) (total : A) (rest : List ℕ) (t : Turn) → Sees see total rest → turn_at rest ≡ t
    → (n : ℕ) × (length rest ≤ n) × (see (by_turn t (params_in n)) ≡ total)
unfolding params_in
turned see total rest t (zero, h, e) is = absurd (omega (arith, h))
turned see total rest t (suc n, h, e) is = (n, omega (arith, h), sym (ap (λ u. see (by_turn u (params_in n))) is) ∙ e)

pub ended : {A : Type 0} (see : Params → A) (total : A) (rest : List ℕ) → Sees see total rest → turn_at rest ≡ ends
    → see (record { found = []; whole = true }) ≡ total
ended see total rest s is = (turned see total rest ends s is).2

pub broke : {A : Type 0} (see : Params → A) (total : A) (rest : List ℕ) → Sees see total rest → turn_at rest ≡ breaks
    → see (record { found = []; whole = false }) ≡ total
broke see total rest s is = (turned see total rest breaks s is).2

pub skipped : {A : Type 0} (see : Params → A) (total : A) (rest after : List ℕ) → Sees see total rest → turn_at rest ≡ skips after
    → suc (length after) ≤ length rest → Sees see total after
skipped see total rest after s is less =
    let t = turned see total rest (skips after) s is in
    (t.0, omega (arith, t.1, less), t.2)

-- what a parameter shows, where the rest begins with it
pub gave : {A : Type 0} (see : Params → A) (total : A) (rest after : List ℕ) (p : Pair) → Sees see total rest → turn_at rest ≡ gives p after
    → (n : ℕ) × (length rest ≤ n) × (see (onto_params p (params_in n after)) ≡ total)
gave see total rest after p s is = turned see total rest (gives p after) s is

-- where it shows nothing
pub passed : {A : Type 0} (see : Params → A) (total : A) (rest after : List ℕ) (p : Pair) → Sees see total rest → turn_at rest ≡ gives p after
    → suc (length after) ≤ length rest → ((later : Params) → see (onto_params p later) ≡ see later) → Sees see total after
passed see total rest after p s is less same =
    let t = gave see total rest after p s is in
    (t.0, omega (arith, t.1, less), sym (same (params_in t.0 after)) ∙ t.2)
