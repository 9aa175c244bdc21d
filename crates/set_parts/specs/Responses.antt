-- The arguments of the response to a set (RFC 8620, 5.3).
use Rattle.std.specs.Prelude.{◌≡◌, ℕ, List, [], ◌∷◌, Option, Some, option_and_then, codes}
use Rattle.jm_base.specs.Ids.{state_text}
use Rattle.jm_base.specs.declared.identifiers.Kind.{Kind}
use Rattle.jm_json.specs.Tree.{Tree, text, object, fields_of}
use Rattle.jm_json.specs.Find.{as_object, find}
use Rattle.mail_counts.specs.Plans.{Ground, present_state, state_after}
use Rattle.mail_records.specs.declared.edits.Edit.{Edit}
use Rattle.method_args.specs.Wrapped.{list_or_null, object_or_null}
use Rattle.set_parts.specs.declared.reported.Reported.{Reported}

-- the account, the states before and after, and what is reported of the objects
abbrev pub reply_members : List ℕ → ℕ → ℕ → Reported → List (List ℕ × Tree)
reply_members account before after r =
    (codes "accountId", text account)
    ∷ (codes "created", object_or_null r.created)
    ∷ (codes "destroyed", list_or_null r.destroyed)
    ∷ (codes "newState", text (state_text after))
    ∷ (codes "notCreated", object_or_null r.not_created)
    ∷ (codes "notDestroyed", object_or_null r.not_destroyed)
    ∷ (codes "notUpdated", object_or_null r.not_updated)
    ∷ (codes "oldState", text (state_text before))
    ∷ (codes "updated", object_or_null r.updated)
    ∷ []

-- the arguments of the response to a set of records of a kind with these edits
abbrev pub set_reply : Kind → Ground → List ℕ → Reported → List Edit → Tree
set_reply kind g account r edits =
    object (fields_of
    (reply_members account (present_state kind g) (state_after kind g edits) r))

-- the member of this name, of an object
abbrev pub member_named : List ℕ → Tree → Option Tree
member_named name reply = option_and_then (find name) (as_object reply)

-- The new state of a plan is the state of the kind after the plan's edits (RFC 8620, 5.3:
-- `newState`).
abbrev pub HasNewState : Kind → Ground → Tree → List Edit → Type 0
HasNewState kind g reply edits =
    member_named (codes "newState") reply ≡ Some (text (state_text (state_after kind g edits)))
