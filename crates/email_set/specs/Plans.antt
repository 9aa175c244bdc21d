-- What an Email/set does (RFC 8620, 5.3; RFC 8621, 4.6).
use Rattle.std.specs.Prelude.{ℕ, List, [], ◌∷◌, ◌++◌, Option, ⊤}
use Rattle.jm_base.specs.declared.identifiers.Kind.TheVariants.{Email as OfEmail}
use Rattle.jm_json.specs.Find.{as_object}
use Rattle.jm_json.specs.Tree.{Tree}
use Rattle.jm_json.specs.declared.invocation.Created.{Created}
use Rattle.mail_counts.specs.Plans.{Ground, present_state}
use Rattle.mail_counts.specs.TidyBut.{IsTidyButThreadsAndCounts}
use Rattle.mail_records.specs.Contents.{Content}
use Rattle.mail_records.specs.Edits.{after_edit, after_edits}
use Rattle.mail_records.specs.declared.edits.Edit.{Edit}
use Rattle.set_parts.specs.Arguments.{Create, account_in, count_objects, creates_in, destroys_in, set_forms, updates_in}
use Rattle.set_parts.specs.Creates.{Creating, after_creates, before_creates}
use Rattle.set_parts.specs.Outcomes.{Outcome, Plan, outcome_of_members}
use Rattle.set_parts.specs.Plans.{plan_after}
use Rattle.set_parts.specs.Steps.{Progress, before_steps}
use Rattle.set_parts.specs.declared.creates.CreateStep.{CreateStep}
use Rattle.set_parts.specs.declared.creates.CreateStep.TheVariants.{Rejected}
use Rattle.set_parts.specs.declared.set_errors.SetError.TheVariants.{Forbidden}
use Rattle.email_set.specs.Emails.{after_steps}

-- An email is created by an import or a copy, and not by a set: each create is forbidden.
abbrev pub create_email : Creating → Create → CreateStep
create_email s x = Rejected Forbidden

-- the creates of a set with these arguments
abbrev pub creates_of : Content → List Created → List (List ℕ × Tree) → Creating
creates_of c made ms = after_creates create_email (before_creates c made) (creates_in ms)

-- the updates and destroys of a set with these arguments
abbrev pub steps_of : Content → List Created → List (List ℕ × Tree) → Progress
steps_of c made ms = after_steps (before_steps c) made (updates_in ms) (destroys_in ms)

-- edits that were made before those of updates and destroys
abbrev pub put_before : List Edit → Progress → Progress
put_before first s = record s { edits = first ++ s.edits }

-- The updates and destroys of a set with these arguments after these edits of emails, as its
-- creates make them: over the content that the edits leave, with the edits before their own.
abbrev pub steps_after : Content → List Edit → List Created → List (List ℕ × Tree) → Progress
steps_after c first made ms = put_before first (steps_of (after_edits c first) made ms)

-- the plan of creates, and of the updates and destroys after them
abbrev pub plan_from : Ground → List (List ℕ × Tree) → Creating → Plan
plan_from g ms p = plan_after OfEmail g (account_in ms) p (steps_of p.content p.made ms)

abbrev pub plan_in : Ground → List Created → List (List ℕ × Tree) → Plan
plan_in g made ms = plan_from g ms (creates_of g.content made ms)

-- the outcome with these arguments, or with arguments that are no object
abbrev pub outcome_in : Ground → List Created → Option (List (List ℕ × Tree)) → Outcome
outcome_in g made arguments =
    outcome_of_members set_forms count_objects (present_state OfEmail g) (plan_in g made) arguments

-- The outcome of an Email/set with these arguments, with what the request has created up to here.
abbrev pub email_set_outcome : Ground → Tree → List Created → Outcome
email_set_outcome g args made = outcome_in g made (as_object args)

-- After each of these edits a content is tidy but for threads and counts.
abbrev pub KeepTidyBut : Content → List Edit → Type 0
KeepTidyBut c [] = ⊤
KeepTidyBut c (e ∷ es) =
    IsTidyButThreadsAndCounts (after_edit c e) × KeepTidyBut (after_edit c e) es
