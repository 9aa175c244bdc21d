-- The response to an Email/import and its edits (RFC 8621, 4.8; RFC 8620, 5.3).
use Rattle.std.specs.Prelude.{ℕ, List, None}
use Rattle.jm_base.specs.declared.identifiers.Kind.TheVariants.{Email as OfEmail}
use Rattle.jm_json.specs.Tree.{Tree}
use Rattle.jm_json.specs.declared.invocation.Created.{Created}
use Rattle.mail_records.specs.Histories.{History, blobs_of}
use Rattle.mail_counts.specs.Plans.{Ground, ground_of_history, present_state}
use Rattle.set_parts.specs.Arguments.{account_in}
use Rattle.set_parts.specs.Outcomes.{Outcome, Plan, outcome_by}
use Rattle.email_creates.specs.Plans.{beginning, plan_after}
use Rattle.mail_import.specs.Arguments.{count_imports, forms, imports_in}
use Rattle.mail_import.specs.Imports.{after_imports}

-- The plan of imports that are not rejected as a whole.
abbrev pub plan_in : Ground → List (List ℕ) → List Created → ℕ → List (List ℕ × Tree) → Plan
plan_in g blobs made moment ms =
    plan_after g (account_in ms) None
    (after_imports blobs moment (beginning g.content made) (imports_in ms))

-- The outcome of an Email/import with these arguments, on an account with these blobs, with what
-- the request has created up to here, at a timestamp in Unix seconds.
abbrev pub import_outcome : Ground → List (List ℕ) → Tree → List Created → ℕ → Outcome
import_outcome g blobs args made moment =
    outcome_by forms count_imports (present_state OfEmail g) (plan_in g blobs made moment) args

-- the outcome of an Email/import on an account with this history, at its end
abbrev pub import_in : History → Tree → List Created → ℕ → Outcome
import_in h args made moment =
    import_outcome (ground_of_history h) (blobs_of h) args made moment
