-- A set of emails with one update and nothing else: what its reply says of it (RFC 8620, 5.3).
use Rattle.std.specs.Prelude.{◌≡◌, ℕ, List, [], ◌∷◌, ◌++◌, Option, Some, None, option_and_then, codes}
use Rattle.jm_base.specs.declared.identifiers.Kind.TheVariants.{Email as OfEmail}
use Rattle.jm_json.specs.Tree.{Tree, null, object, text, fields_of}
use Rattle.jm_json.specs.declared.invocation.Created.{Created}
use Rattle.mail_counts.specs.DerivedEdits.{derived_edits}
use Rattle.mail_counts.specs.Plans.{Ground}
use Rattle.mail_records.specs.Contents.{Content, mailbox_number}
use Rattle.mail_records.specs.declared.edits.Edit.{Edit}
use Rattle.set_parts.specs.Arguments.{Update, creates_in, destroys_in, updates_in}
use Rattle.set_parts.specs.CreationIds.{reported_id}
use Rattle.set_parts.specs.Creates.{before_creates}
use Rattle.set_parts.specs.Outcomes.{Outcome, Plan, planned}
use Rattle.set_parts.specs.Plans.{plan_after}
use Rattle.set_parts.specs.Responses.{HasNewState, member_named}
use Rattle.set_parts.specs.SetErrors.{error_tree}
use Rattle.set_parts.specs.declared.steps.Step.{Step}
use Rattle.set_parts.specs.declared.steps.Step.TheVariants.{Rejected, Done}
use Rattle.email_set.specs.Emails.{update_email}
use Rattle.email_set.specs.Plans.{email_set_outcome, steps_of}

-- the arguments of a set name this update and no other object
pub record HasOneUpdate (ms : List (List ℕ × Tree)) (x : Update) : Type 0 where
  pub creates : creates_in ms ≡ []
  pub updates : updates_in ms ≡ x ∷ []
  pub destroys : destroys_in ms ≡ []

-- what an object of the reply has under an id
abbrev pub told_of : List ℕ → List ℕ → Tree → Option Tree
told_of name id reply = option_and_then (member_named id) (member_named name reply)

-- the reply says of an id, and of no other, that it is updated
pub record SaysUpdated (id : List ℕ) (reply : Tree) : Type 0 where
  pub updated : told_of (codes "updated") id reply ≡ Some null
  pub not_updated : member_named (codes "notUpdated") reply ≡ Some null

-- the reply says of an id, and of no other, that it is not updated because of this error
pub record SaysNotUpdated (id : List ℕ) (error : Tree) (reply : Tree) : Type 0 where
  pub updated : member_named (codes "updated") reply ≡ Some null
  pub not_updated : told_of (codes "notUpdated") id reply ≡ Some error

-- the reply says what came of the update that is reported under an id
abbrev pub SaysStep : List ℕ → Step → Tree → Type 0
SaysStep id (Rejected error) reply = SaysNotUpdated id (error_tree error) reply
SaysStep id (Done edits) reply = SaysUpdated id reply

-- the edits of a step
abbrev pub edits_of : Step → List Edit
edits_of (Rejected error) = []
edits_of (Done edits) = edits

-- The plan is that of this step: its reply says what came of it, its edits are those of the step
-- and those of threads and counts that follow from them, and the reply's new state is that after
-- them.
pub record IsOfStep (g : Ground) (id : List ℕ) (step : Step) (p : Plan) : Type 0 where
  pub reply : SaysStep id step p.reply
  pub edits : p.edits ≡ edits_of step ++ derived_edits g.content (edits_of step)
  pub new_state : HasNewState OfEmail g p.reply p.edits

-- After no creates, whatever a set makes of creates, the plan of one update is that of its step.
abbrev pub OneUpdateIsPlanned : Type 0
OneUpdateIsPlanned =
    (g : Ground) (made : List Created) (ms : List (List ℕ × Tree)) (account : List ℕ) (x : Update)
    → HasOneUpdate ms x
    → IsOfStep g (reported_id made x.id) (update_email made [] g.content x)
    (plan_after OfEmail g account (before_creates g.content made) (steps_of g.content made ms))

-- ---- the set that a client sends

-- the arguments of a set with one update
abbrev pub one_update : List ℕ → Update → List (List ℕ × Tree)
one_update account x =
    (codes "accountId", text account)
    ∷ (codes "update", object (fields_of ((x.id, x.patch) ∷ []))) ∷ []

-- such a set is planned, and its plan is that of the update's step
pub record IsAnswered (g : Ground) (made : List Created) (account : List ℕ) (x : Update) : Type 0
  where
    pub plan : Plan
    pub outcome :
        email_set_outcome g (object (fields_of (one_update account x))) made ≡ planned plan
    pub step : IsOfStep g (reported_id made x.id) (update_email made [] g.content x) plan

abbrev pub OneUpdateIsAnswered : Type 0
OneUpdateIsAnswered =
    (g : Ground) (made : List Created) (account : List ℕ) (x : Update) → IsAnswered g made account x

-- in a request that has created nothing an update is reported under its id as it was sent
abbrev pub IdsAreReportedAsSent : Type 0
IdsAreReportedAsSent = (id : List ℕ) → reported_id [] id ≡ id
