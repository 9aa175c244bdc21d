-- What is written between quote marks is read again.
use Rattle.std.proofs.Common.{◌≡◌, ℕ, true, false, eqb, List, [], ◌∷◌, ◌++◌, Some, refl, ap}
use Rattle.mime_type.specs.Grammar.{quoted_from, quoted_text, onto_value}

pub quoted_back : (text rest : List ℕ) → quoted_from false (quoted_text text ++ 34 ∷ rest) ≡ Some (text, rest)
quoted_back [] rest = refl
quoted_back (b ∷ bs) rest =
    elim (eqb b 34) as (λ t. eqb b 34 ≡ t → quoted_from false (quoted_text (b ∷ bs) ++ 34 ∷ rest) ≡ Some (b ∷ bs, rest)) [
      | true ↦ λ h. rw h (ap (onto_value b) (quoted_back bs rest))
      | false ↦ λ h. elim (eqb b 92) as (λ t. eqb b 92 ≡ t → quoted_from false (quoted_text (b ∷ bs) ++ 34 ∷ rest) ≡ Some (b ∷ bs, rest)) [
        | true ↦ λ k. rw (h, k) (ap (onto_value b) (quoted_back bs rest))
        | false ↦ λ k. rw (h, k) (rw (h, k) (ap (onto_value b) (quoted_back bs rest)))
      ] refl
    ] refl
