-- A body of a size that is said before it.
use Rattle.std.proofs.Common.{◌≡◌, ◌<◌, ◌≤◌, ℕ, List, [], ◌++◌, length, take, drop, Option, refl, sym, ap₂, ◌∙◌, arith}
use Rattle.std.proofs.lemmas.Bool.{le-ltb, lt-ltb}
use Rattle.http_parts.specs.Bodies.{BodyInvalid, BodyTooLong, BodyUnfinished, Whole, sized_body}
use Rattle.http_parts.specs.Parts.{Took, Halts, Moves}
use Rattle.http_parts.specs.declared.body_fault.BodyFault.{BodyFault}
use Rattle.http_parts.proofs.Halted.{halts_as}

pub sized_done : (limit size : ℕ) (body old new : List ℕ) (a b : Option (List ℕ)) → size ≤ limit → Took a b (Moves size [] body old new) → Took a b (λ t. sized_body limit size (old ++ t) ≡ Whole body new)
sized_done limit size body old new a b low m =
    let done : sized_body limit size (old ++ m.0) ≡ Whole (take size (old ++ m.0)) (drop size (old ++ m.0)) =
    rw (le-ltb limit size low, le-ltb (length (old ++ m.0)) size m.2.0) refl in
    (m.0, m.1, done ∙ ap₂ (λ (y z : List ℕ). Whole y z) (sym m.2.1) (sym m.2.2))

pub sized_cut : (limit size : ℕ) (old : List ℕ) (a b : Option (List ℕ)) (r s : ℕ) (e : BodyFault) → size ≤ limit
    → Took a b (λ t. Halts e ⊥ ⊥ (length (old ++ t) < size) (length (old ++ t)) b r s)
    → Took a b (λ t. Halts e (sized_body limit size (old ++ t) ≡ BodyInvalid) (sized_body limit size (old ++ t) ≡ BodyTooLong) (sized_body limit size (old ++ t) ≡ BodyUnfinished) (length (old ++ t)) b r s)
sized_cut limit size old a b r s e low k = (
  k.0,
  k.1,
  halts_as e _ _ _ _ _ _ _ _ b r r s (λ h. absurd h) (λ h. absurd h)
      (λ h. rw (le-ltb limit size low, lt-ltb (length (old ++ k.0)) size h) refl) refl (omega arith) k.2,
)
