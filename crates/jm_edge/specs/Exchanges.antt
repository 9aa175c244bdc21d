-- What an exchange was asked, and what it answered, where it is known.
use Rattle.std.specs.Prelude.{◌≡◌, ℕ, List, [], ◌∷◌, ◌++◌, Option, Some, None, Result, Ok, Err}
use Rattle.jm_edge.specs.declared.answer.Answer.{Answer}
use Rattle.jm_edge.specs.declared.answer.Asked.{Asked}
use Rattle.jm_edge.specs.declared.fault.EdgeFault.{EdgeFault}

-- what was asked and answered with one more, where it is known
abbrev pub told_with : Option (List Asked) → Asked → Option (List Asked)
told_with None a = None
told_with (Some told) a = Some (told ++ a ∷ [])

-- after Ok the request with its answer is told after the others, and after an error nothing is
abbrev pub Tells : Option (List Asked) → Option (List Asked) → List ℕ → Option (List ℕ)
    → Result Answer EdgeFault → Type 0
Tells before now path body (Ok answer) =
    now ≡ told_with before (record { path = path; body = body; answer = answer })
Tells before now path body (Err _) = now ≡ before
