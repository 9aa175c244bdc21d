use Rattle.std.proofs.Common.{◌≡◌, ℕ, ◌+◌, ◌≤◌, List, map, ◌++◌, length}
use Rattle.jm_json.specs.Call.{Call}
use Rattle.jm_json.specs.Invocations.{call_of}
use Rattle.result_refs.specs.declared.room.TheConstants.{MAX_REFERENCE_BYTES}
use Rattle.method_batch.specs.Answer.{Asked, Runs, Answers}
use Rattle.method_batch.proofs.progress.Progress.perform_calls.Given as goal

-- the calls before the rest are answered, and what their references did not take is left
abbrev pub invariant-loop-call : goal.invariant-loop-call
invariant-loop-call g l =
    (done : List Call) × (asked : List Asked) × (taken : ℕ) × (l.fn.calls ≡ done ++ map call_of l.rest.items)
    × Runs g.P.Port.answers l.fn.port asked l.port × Answers l.core l.mail done l.fn.self asked l.progress taken
    × (taken + l.room ≤ MAX_REFERENCE_BYTES)

abbrev pub decreases-loop-call : goal.decreases-loop-call
decreases-loop-call g l = length l.rest.items
