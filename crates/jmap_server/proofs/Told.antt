-- The deeds of a world, call after call.
use Rattle.std.proofs.Common.{◌≡◌, List, [], ◌∷◌, ◌++◌, Option, None, Some, refl, sym, ap, ◌∙◌, append_assoc, append-nil}
use Rattle.std.specs.Prelude.{option_map}
use Rattle.jmap_server.specs.Deeds.{Deed, GaveClock, GaveGate, GaveLine, IsTold}
use Rattle.jmap_server.specs.Lines.{taken_of, taking}

module _ {K L C : Type 0} where
  pub told_none : (a b : Option (List (Deed K L C))) → b ≡ a → IsTold a b []
  told_none None b e = e
  told_none (Some ds) b e = e ∙ ap (λ (xs : List (Deed K L C)). Some xs) (sym (append-nil ds))

  more_told : (a : Option (List (Deed K L C))) (d e : List (Deed K L C)) → option_map (λ ds. ds ++ e) (option_map (λ ds. ds ++ d) a) ≡ option_map (λ ds. ds ++ (d ++ e)) a
  more_told None d e = refl
  more_told (Some ds) d e = ap (λ (xs : List (Deed K L C)). Some xs) (append_assoc ds d e)

  pub told_on : (a b c : Option (List (Deed K L C))) (d e : List (Deed K L C)) → IsTold a b d → IsTold b c e → IsTold a c (d ++ e)
  told_on a b c d e h k = k ∙ ap (λ (x : Option (List (Deed K L C))). option_map (λ ds. ds ++ e) x) h ∙ more_told a d e

  -- a line was given, with a clock and a gate
  pub told_taking : (a b c d : Option (List (Deed K L C))) (line : L) (clock : C) → IsTold a b (GaveLine line ∷ []) → IsTold b c (GaveClock clock ∷ []) → IsTold c d (GaveGate ∷ []) → IsTold a d (taking (taken_of line clock))
  told_taking a b c d line clock h k m = told_on a b d (GaveLine line ∷ []) (GaveClock clock ∷ GaveGate ∷ []) h (told_on b c d (GaveClock clock ∷ []) (GaveGate ∷ []) k m)
