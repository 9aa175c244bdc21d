-- What comes of a set, an import or a copy as a whole: why it is rejected, or its plan (RFC 8620,
-- 3.6.2, 5.3 and 5.4).
use Rattle.std.specs.Prelude.{◌≡◌, ℕ, List, [], Bool, false, not, nat_lt, Option, Some, None, if◌then◌else◌, bytes_eq, ⊤}
use Rattle.jm_base.specs.Ids.{state_text}
use Rattle.jm_json.specs.Tree.{Tree}
use Rattle.jm_json.specs.Find.{as_object}
use Rattle.jm_json.specs.Json.{tree_of}
use Rattle.jm_json.specs.declared.invocation.Created.{Created}
use Rattle.mail_counts.specs.Plans.{Ground}
use Rattle.mail_counts.specs.declared.plan.SetFault.{SetFault}
use Rattle.mail_counts.specs.declared.plan.SetFault.TheVariants.{Invalid, TooLarge, StateMismatch, NoMemory}
use Rattle.mail_counts.specs.declared.plan.SetPlan.{SetPlan}
use Rattle.mail_records.specs.Contents.{Content}
use Rattle.mail_records.specs.declared.edits.Edit.{Edit}
use Rattle.method_args.specs.Arguments.{Form, find_invalid}
use Rattle.method_args.specs.declared.TheConstants.{MAX_OBJECTS_PER_CALL}
use Rattle.state_log.specs.Logs.{Notes, ids_in}
use Rattle.set_parts.specs.Arguments.{if_in_state}

-- what a content and a log of one history say of their account
abbrev pub ground_of : Content → Notes → Ground
ground_of c l = record { content = c; floor = l.floor; floors = l.floors; ids = ids_in l.notes }

-- A plan: the arguments of its response, its edits, what it creates, and the bytes of the blobs
-- that it brings, in order. These are numbered on from the blobs of the account.
pub record Plan : Type 0 where
  pub reply : Tree
  pub edits : List Edit
  pub made : List Created
  pub blobs : List (List ℕ)

abbrev pub plan_of : SetPlan → Plan
plan_of p = record { reply = tree_of p.reply; edits = p.edits; made = p.made; blobs = p.blobs }

-- the outcome of a call
pub data Outcome : Type 0 where
  invalid : (argument : List ℕ) → Outcome
  too_large : Outcome
  state_mismatch : Outcome
  planned : (plan : Plan) → Outcome

-- why a call is rejected; an allocation may fail at any time
abbrev pub ExplainsSet : SetFault → Outcome → Type 0
ExplainsSet (Invalid name) o = o ≡ invalid name
ExplainsSet TooLarge o = o ≡ too_large
ExplainsSet StateMismatch o = o ≡ state_mismatch
ExplainsSet NoMemory o = ⊤

-- the state that the client asks for is another than the present one
abbrev pub is_other_state : ℕ → Option (List ℕ) → Bool
is_other_state state None = false
is_other_state state (Some s) = not (bytes_eq s (state_text state))

-- a call of so many objects is rejected, in an account with this state of the kind
abbrev pub rejected_for : ℕ → ℕ → Option (List ℕ) → Option Outcome
rejected_for objects state wanted =
    if nat_lt MAX_OBJECTS_PER_CALL objects then Some too_large
    else (if is_other_state state wanted then Some state_mismatch
    else None)

abbrev pub rejected_by : Option (List ℕ) → Option Outcome → Option Outcome
rejected_by None other = other
rejected_by (Some name) other = Some (invalid name)

-- Why a call with arguments of these forms is rejected as a whole: the first argument in byte order
-- that is missing or does not have its form, then too many objects, then another state.
abbrev pub rejected : List Form → ℕ → ℕ → List (List ℕ × Tree) → Option Outcome
rejected forms objects state ms =
    rejected_by (find_invalid forms ms) (rejected_for objects state (if_in_state ms))

-- its plan, if it is not rejected
abbrev pub planned_unless : Option Outcome → Plan → Outcome
planned_unless None plan = planned plan
planned_unless (Some o) plan = o

abbrev pub outcome_of_members : List Form → (List (List ℕ × Tree) → ℕ) → ℕ
    → (List (List ℕ × Tree) → Plan) → Option (List (List ℕ × Tree)) → Outcome
outcome_of_members forms count state plan None = invalid []
outcome_of_members forms count state plan (Some ms) =
    planned_unless (rejected forms (count ms) state ms) (plan ms)

-- The outcome of a call with arguments of these forms, which names so many objects and makes this
-- plan, in an account with this state of the kind.
abbrev pub outcome_by : List Form → (List (List ℕ × Tree) → ℕ) → ℕ
    → (List (List ℕ × Tree) → Plan) → Tree → Outcome
outcome_by forms count state plan args =
    outcome_of_members forms count state plan (as_object args)

-- a fault is the rejection, or an allocation failed
abbrev pub ExplainsRejection : SetFault → Option Outcome → Type 0
ExplainsRejection (Invalid name) o = o ≡ Some (invalid name)
ExplainsRejection TooLarge o = o ≡ Some too_large
ExplainsRejection StateMismatch o = o ≡ Some state_mismatch
ExplainsRejection NoMemory o = ⊤
