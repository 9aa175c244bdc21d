-- An outcome that is made of how a request was answered is that of the request, and what was answered was begun.
use Rattle.std.proofs.Common.{◌≡◌, ℕ, List, [], ◌++◌, length, nat_lt, cond, Bool, true, false, Option, Some, None, Result, Ok, Err, IfOk, OnOk, refl, sym, ◌∙◌, append-nil}
use Rattle.serde_json.specs.Written.{compact_text}
use Rattle.jm_base.specs.declared.limits.TheConstants.{MAX_REQUEST_BYTES}
use Rattle.jm_base.specs.declared.memory.NoMemory.{NoMemory}
use Rattle.jm_json.specs.Tree.{Tree}
use Rattle.jm_json.specs.Json.{tree_of}
use Rattle.jm_json.specs.JsonValues.{data_of}
use Rattle.jm_json.specs.Call.{Call}
use Rattle.jm_json.specs.Reading.{Reading, not_json, not_whole, whole, reading_of}
use Rattle.jm_json.specs.declared.invocation.Created.{Created}
use Rattle.jm_json.specs.declared.invocation.Replied.{Replied}
use Rattle.method_batch.specs.Request.{request_of, problem_in}
use Rattle.method_batch.specs.Outcome.{IsReply, IsRefusal, IsOutcomeUnless, IsOutcomeBy, IsOutcome, IsAnswerBy, IsAnswer, HasBegunUnless, HasBegunBy, HasBegun, HasBegunReading, HasBegunAnswer}
use Rattle.method_batch.specs.declared.outcome.Outcome.{Outcome}
use Rattle.method_batch.specs.declared.outcome.Problem.{Problem}
use Rattle.method_batch.specs.declared.outcome.Problem.TheVariants.{TooLarge}
use Rattle.method_batch.specs.declared.request.Request.{Request}

-- the second outcome has the status and the tree of the first
abbrev pub IsSame : Outcome → Outcome → Type 0
IsSame o p = IsReply p o.status (tree_of o.tree)

same_reply : (o p : Outcome) (status : ℕ) (t : Tree) → IsSame o p → IsReply o status t → IsReply p status t
same_reply o p status t is h = (is.0 ∙ h.0, is.1 ∙ h.1)

module _ {S : Type 0} (answers : S → Call → List Created → Replied → S → Type 0) (s s' : S) where
  unless_moved : (r : Request) (x : Option Problem) (o p : Outcome) → IsSame o p → IsOutcomeUnless answers s s' r x o → IsOutcomeUnless answers s s' r x p
  unless_moved r None o p is h = (h.0, h.1, h.2, h.3, h.4, h.5, same_reply o p _ _ is h.6)
  unless_moved r (Some x) o p is h = (h.0, same_reply o p _ _ is h.1)

  by_moved : (r : Option Request) (o p : Outcome) → IsSame o p → IsOutcomeBy answers s s' r o → IsOutcomeBy answers s s' r p
  by_moved None o p is h = (h.0, same_reply o p _ _ is h.1)
  by_moved (Some r) o p is h = unless_moved r (problem_in r) o p is h

  reading_moved : (r : Reading) (o p : Outcome) → IsSame o p → IsAnswerBy answers s s' r o → IsAnswerBy answers s s' r p
  reading_moved not_json o p is h = (h.0, same_reply o p _ _ is h.1)
  reading_moved (not_whole path) o p is h = (h.0, same_reply o p _ _ is h.1)
  reading_moved (whole t) o p is h = by_moved (request_of t) o p is h

  long_moved : (long : Bool) (r : Reading) (o p : Outcome) → IsSame o p → cond long ((s' ≡ s) × IsRefusal TooLarge o) (IsAnswerBy answers s s' r o) → cond long ((s' ≡ s) × IsRefusal TooLarge p) (IsAnswerBy answers s s' r p)
  long_moved true r o p is h = (h.0, same_reply o p _ _ is h.1)
  long_moved false r o p is h = reading_moved r o p is h

  pub outcome_kept : (r : Result Outcome NoMemory) (t : Tree) (o : Outcome) → IfOk r (IsSame o) → IsOutcome answers s s' t o → IfOk r (λ p. IsOutcome answers s s' t p)
  outcome_kept (Ok p) t o is h = by_moved (request_of t) o p is h
  outcome_kept (Err e) t o is h = tt

  pub answer_kept : (r : Result Outcome NoMemory) (bytes : List ℕ) (o : Outcome) → IfOk r (IsSame o) → IsAnswer answers s s' bytes o → IfOk r (λ p. IsAnswer answers s s' bytes p)
  answer_kept (Ok p) bytes o is h = long_moved (nat_lt MAX_REQUEST_BYTES (length bytes)) (reading_of bytes) o p is h
  answer_kept (Err e) bytes o is h = tt

  pub answer_written : (r : Result (Unit {0}) NoMemory) (bytes old new : List ℕ) (o : Outcome) → IsAnswer answers s s' bytes o → OnOk r (new ≡ old ++ compact_text (data_of (tree_of o.tree)))
      → OnOk r ((p : Outcome) × IsAnswer answers s s' bytes p × (new ≡ old ++ compact_text (data_of (tree_of p.tree))))
  answer_written (Ok u) bytes old new o is h = (o, is, h)
  answer_written (Err e) bytes old new o is h = tt

module _ {S : Type 0} (answers : S → Call → List Created → Replied → S → Type 0) (stops : S → Call → List Created → S → Type 0) (s s' : S) where
  unless_begun : (r : Request) (x : Option Problem) (o : Outcome) → IsOutcomeUnless answers s s' r x o → HasBegunUnless answers stops s s' r x
  unless_begun r None o h = (r.calls, [], h.0, h.1, h.2, s', sym (append-nil r.calls), h.3, h.4, h.5, refl)
  unless_begun r (Some x) o h = h.0

  by_begun : (r : Option Request) (o : Outcome) → IsOutcomeBy answers s s' r o → HasBegunBy answers stops s s' r
  by_begun None o h = h.0
  by_begun (Some r) o h = unless_begun r (problem_in r) o h

  pub outcome_begun : (t : Tree) (o : Outcome) → IsOutcome answers s s' t o → HasBegun answers stops s s' t
  outcome_begun t o h = by_begun (request_of t) o h

  reading_begun : (r : Reading) (o : Outcome) → IsAnswerBy answers s s' r o → HasBegunReading answers stops s s' r
  reading_begun not_json o h = h.0
  reading_begun (not_whole path) o h = h.0
  reading_begun (whole t) o h = by_begun (request_of t) o h

  long_begun : (long : Bool) (r : Reading) (o : Outcome) → cond long ((s' ≡ s) × IsRefusal TooLarge o) (IsAnswerBy answers s s' r o) → cond long (s' ≡ s) (HasBegunReading answers stops s s' r)
  long_begun true r o h = h.0
  long_begun false r o h = reading_begun r o h

  -- a request whose outcome found no memory was performed to its end
  pub answer_begun : (bytes : List ℕ) (o : Outcome) → IsAnswer answers s s' bytes o → HasBegunAnswer answers stops s s' bytes
  answer_begun bytes o h = long_begun (nat_lt MAX_REQUEST_BYTES (length bytes)) (reading_of bytes) o h
