-- What a Mailbox/set does: its creates, updates and destroys (RFC 8620, 5.3; RFC 8621, 2.5).
use Rattle.std.specs.Prelude.{ℕ, List, [], ◌∷◌, Bool, false, unwrap_or, codes}
use Rattle.jm_base.specs.declared.identifiers.Kind.TheVariants.{Mailbox as OfMailbox}
use Rattle.jm_json.specs.Tree.{Tree}
use Rattle.jm_json.specs.declared.invocation.Created.{Created}
use Rattle.mail_counts.specs.Plans.{Ground, present_state}
use Rattle.method_args.specs.Arguments.{Form, flag_in}
use Rattle.method_args.specs.declared.form.Presence.TheVariants.{Optional}
use Rattle.method_args.specs.declared.form.Shape.TheVariants.{Flag}
use Rattle.set_parts.specs.Arguments.{account_in, count_objects, creates_in, destroys_in, set_forms_with, updates_in}
use Rattle.set_parts.specs.Creates.{Creating, before_creates}
use Rattle.set_parts.specs.Outcomes.{Outcome, Plan, outcome_by}
use Rattle.set_parts.specs.Plans.{plan_after}
use Rattle.set_parts.specs.Steps.{Progress as Steps, after_destroys, before_steps}
use Rattle.mailbox_set.specs.Destroys.{destroy_mailbox}
use Rattle.mailbox_creates.specs.Rounds.{after_creates}
use Rattle.mailbox_updates.specs.Updates.{after_mailbox_updates}

-- The arguments of a set of mailboxes: that of its own besides those of every set.
abbrev pub mailbox_set_forms : List Form
mailbox_set_forms =
    set_forms_with
    (record { name = codes "onDestroyRemoveEmails"; presence = Optional; shape = Flag } ∷ [])

-- destroys remove the emails of the mailboxes
abbrev pub removes_emails : List (List ℕ × Tree) → Bool
removes_emails ms = unwrap_or (flag_in (codes "onDestroyRemoveEmails") ms) false

-- the updates of a set, after its creates
abbrev pub updated_after : Creating → List (List ℕ × Tree) → Steps
updated_after p ms =
    after_mailbox_updates p.made (destroys_in ms) (before_steps p.content) (updates_in ms)

-- the updates and destroys of a set, after its creates
abbrev pub steps_after : Creating → List (List ℕ × Tree) → Steps
steps_after p ms =
    after_destroys (destroy_mailbox p.made (removes_emails ms)) p.made (updated_after p ms)
    (destroys_in ms)

-- the plan of creates, and of the updates and destroys after them
abbrev pub plan_from : Ground → List (List ℕ × Tree) → Creating → Plan
plan_from g ms p = plan_after OfMailbox g (account_in ms) p (steps_after p ms)

abbrev pub plan_in : Ground → List Created → List (List ℕ × Tree) → Plan
plan_in g made ms = plan_from g ms (after_creates (before_creates g.content made) (creates_in ms))

-- The outcome of a Mailbox/set with these arguments, with what the request has created up to here.
abbrev pub mailbox_set_outcome : Ground → Tree → List Created → Outcome
mailbox_set_outcome g args made =
    outcome_by mailbox_set_forms count_objects (present_state OfMailbox g) (plan_in g made) args
