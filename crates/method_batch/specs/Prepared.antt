-- What a call comes to before it is performed: its name is looked up, and then its arguments are
-- resolved (RFC 8620, sections 3.6.2 and 3.7).
use Rattle.std.specs.Prelude.{ℕ, List, Bool, false, cond, codes, Option, Some, None}
use Rattle.std.specs.List.{list_any}
use Rattle.jm_json.specs.Tree.{Tree}
use Rattle.jm_json.specs.Find.{as_object}
use Rattle.jm_json.specs.Call.{Call, error_of}
use Rattle.jm_json.specs.Invocations.{call_of}
use Rattle.result_refs.specs.Costs.{reference_bytes}
use Rattle.result_refs.specs.References.{Resolution, bad_reference, both, resolved, resolution, is_marked}
use Rattle.method_batch.specs.Method.{is_allowed}
use Rattle.method_batch.specs.declared.prepare.Prepared.{Prepared}
use Rattle.method_batch.specs.declared.prepare.Prepared.TheVariants.{Refused, Ready}

-- a call is rejected by a response, or it is ready, with its arguments resolved
pub data Preparation : Type 0 where
  refused : Call → Preparation
  ready : Call → Preparation

abbrev pub by_resolution : Call → Resolution → Preparation
by_resolution c bad_reference = refused (error_of (codes "invalidResultReference") c.id)
by_resolution c both = refused (error_of (codes "invalidArguments") c.id)
by_resolution c (resolved args) = ready (record { name = c.name; args = args; id = c.id })

-- what a call comes to after these responses, in a request that uses the capabilities of the core
-- and of mail, or not
abbrev pub preparation : Bool → Bool → Call → List Call → Preparation
preparation core mail c responses =
    cond (is_allowed core mail c.name) (by_resolution c (resolution c.args responses))
    (refused (error_of (codes "unknownMethod") c.id))

abbrev pub preparation_of : Prepared → Preparation
preparation_of (Refused i) = refused (call_of i)
preparation_of (Ready i) = ready (call_of i)

-- The bytes that the references of a call take from the room of its request, after these responses.
-- A call that is rejected takes none.
abbrev pub taken_if : Preparation → ℕ → ℕ
taken_if (refused response) bytes = 0
taken_if (ready c) bytes = bytes

abbrev pub taken_by : Bool → Bool → Call → List Call → ℕ
taken_by core mail c responses =
    taken_if (preparation core mail c responses) (reference_bytes c.args responses)

-- ---- whether anything is to be resolved

abbrev pub has_marks : Option (List (List ℕ × Tree)) → Bool
has_marks None = false
has_marks (Some ms) = list_any (λ m. is_marked m.0) ms

-- some argument's name begins with `#`
abbrev pub has_reference : Tree → Bool
has_reference args = has_marks (as_object args)
