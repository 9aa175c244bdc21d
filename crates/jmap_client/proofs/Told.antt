-- The deeds of a client's world, call after call.
use Rattle.std.proofs.Common.{◌≡◌, List, [], ◌++◌, Option, None, Some, refl, sym, ap, ◌∙◌, append_assoc, append-nil}
use Rattle.std.specs.Prelude.{option_map}
use Rattle.jmap_client.specs.ClientDeeds.{ClientDeed, IsTold}

module _ {X F : Type 0} where
  pub told_none : (a b : Option (List (ClientDeed X F))) → b ≡ a → IsTold a b []
  told_none None b e = e
  told_none (Some ds) b e = e ∙ ap (λ (xs : List (ClientDeed X F)). Some xs) (sym (append-nil ds))

  more_told : (a : Option (List (ClientDeed X F))) (d e : List (ClientDeed X F)) → option_map (λ ds. ds ++ e) (option_map (λ ds. ds ++ d) a) ≡ option_map (λ ds. ds ++ (d ++ e)) a
  more_told None d e = refl
  more_told (Some ds) d e = ap (λ (xs : List (ClientDeed X F)). Some xs) (append_assoc ds d e)

  pub told_on : (a b c : Option (List (ClientDeed X F))) (d e : List (ClientDeed X F)) → IsTold a b d → IsTold b c e → IsTold a c (d ++ e)
  told_on a b c d e h k = k ∙ ap (λ (x : Option (List (ClientDeed X F))). option_map (λ ds. ds ++ e) x) h ∙ more_told a d e
