-- Taking a character from the start of a text.
use Rattle.std.proofs.Common.{◌≡◌, ◌≢◌, ℕ, cond, List, [], ◌∷◌, Option, Some, None, refl, sym, ap, ◌∙◌}
use Rattle.std.specs.Prelude.{MatchOption, option_map}
use Rattle.std.proofs.lemmas.Bool.{ne_eqb, eq-eqb}
use denote.Ref.{Bor}
use Rattle.mime_words.specs.Words.{after_sign}

pub stripped : (sign : ℕ) (text : List ℕ) (r : Option (Bor (List ℕ))) → MatchOption r ((rest : List ℕ) → text ≢ sign ∷ rest) (λ x. text ≡ sign ∷ x.now)
    → option_map (λ (x : Bor (List ℕ)). x.now) r ≡ after_sign sign text
stripped sign text (Some x) is = sym (ap (after_sign sign) is ∙ ap (λ v. cond v (Some x.now) None) (eq-eqb sign sign refl))
stripped sign [] None other = refl
stripped sign (b ∷ bs) None other = sym (ap (λ v. cond v (Some bs) None) (ne_eqb b sign (λ e. other bs (ap (λ z. z ∷ bs) e))))
