-- The texts between angle brackets, one at a time.
use Rattle.std.proofs.Common.{◌≡◌, ◌≢◌, ℕ, suc, ◌<◌, List, [], ◌∷◌, ◌++◌, length, get_or, Some, None, refl, ap, ◌∙◌, arith}
use Rattle.std.proofs.lemmas.Bool.{ne_eqb}
use Rattle.header_forms.specs.Angles.{read, opened, onto}

-- a sign isn't in a text
abbrev pub Lacks : ℕ → List ℕ → Type 0
Lacks sign text = (k : ℕ) → k < length text → get_or text k 0 ≢ sign

opens : (front inner : List ℕ) → Lacks 60 front → (read (front ++ 60 ∷ inner)).outside ≡ opened (read inner).inside
opens [] inner none = refl
opens (b ∷ bs) inner none = rw (ne_eqb b 60 (none 0 (omega arith))) (opens bs inner (λ k low. none (suc k) (omega arith)))

closes : (front rest : List ℕ) → Lacks 62 front → (read (front ++ 62 ∷ rest)).inside ≡ Some (front, (read rest).outside)
closes [] rest none = refl
closes (b ∷ bs) rest none = rw (ne_eqb b 62 (none 0 (omega arith))) (ap (onto b) (closes bs rest (λ k low. none (suc k) (omega arith))))

none_closes : (text : List ℕ) → Lacks 62 text → (read text).inside ≡ None
none_closes [] none = refl
none_closes (b ∷ bs) none = rw (ne_eqb b 62 (none 0 (omega arith))) (ap (onto b) (none_closes bs (λ k low. none (suc k) (omega arith))))

pub no_bracket : (text : List ℕ) → Lacks 60 text → (read text).outside ≡ []
no_bracket [] none = refl
no_bracket (b ∷ bs) none = rw (ne_eqb b 60 (none 0 (omega arith))) (no_bracket bs (λ k low. none (suc k) (omega arith)))

pub not_closed : (front inner : List ℕ) → Lacks 60 front → Lacks 62 inner → (read (front ++ 60 ∷ inner)).outside ≡ []
not_closed front inner none open' = opens front inner none ∙ ap opened (none_closes inner open')

pub first_angle : (front inner rest : List ℕ) → Lacks 60 front → Lacks 62 inner → (read (front ++ 60 ∷ (inner ++ 62 ∷ rest))).outside ≡ inner ∷ (read rest).outside
first_angle front inner rest none within = opens front (inner ++ 62 ∷ rest) none ∙ ap opened (closes inner rest within)
