-- What is answered to a request of one call.
use Rattle.std.proofs.Common.{rules, ◌≡◌, ◌≤◌, ℕ, List, [], ◌∷◌, ◌++◌, length, nat_lt, Bool, true, false, Some, None, option_and_then, codes, cond, refl, sym, ap, ◌∙◌, subst, append-nil}
use Rattle.std.specs.List.{list_any}
use Rattle.jm_base.specs.declared.limits.TheConstants.{MAX_REQUEST_BYTES}
use Rattle.jm_json.specs.Call.{Call, error_of}
use Rattle.jm_json.specs.Calls.{calls_from}
use Rattle.jm_json.specs.Find.{as_list}
use Rattle.jm_json.specs.Reading.{Reading, reading_of, whole}
use Rattle.jm_json.specs.Requests.{calls_tree}
use Rattle.jm_json.specs.declared.invocation.Created.{Created}
use Rattle.jm_json.specs.declared.invocation.Replied.{Replied}
use Rattle.jm_json.proofs.CallsBack.{texts_read, calls_read}
use Rattle.result_refs.specs.References.{resolution, resolved, is_marked}
use Rattle.method_batch.specs.Answer.{Asked, Runs, RepliesPrepared, RepliesAlone, is_echo}
use Rattle.method_batch.specs.Method.{core_capability, mail_capability}
use Rattle.method_batch.specs.OneCall.{AnswersSingle, IsPlain, single_request}
use Rattle.method_batch.specs.Outcome.{IsAnswer, IsAnswerBy, IsOutcome, IsOutcomeBy, IsResponse, IsRefusal, response_tree}
use Rattle.method_batch.specs.Prepared.{ready, refused, preparation, by_resolution, has_marks}
use Rattle.method_batch.specs.Request.{request_of, request_with}
use Rattle.method_batch.specs.declared.outcome.Outcome.{Outcome}
use Rattle.method_batch.specs.declared.outcome.Problem.TheVariants.{TooLarge}
use Rattle.method_batch.specs.declared.request.Request.{Request}
use Rattle.method_batch.proofs.Plain.{plain_arguments}

abbrev both : List (List ℕ)
both = core_capability ∷ mail_capability ∷ []

abbrev single : Call → Request
single c = record { using = both; calls = c ∷ []; created = None }

not_over : (n : ℕ) → n ≤ MAX_REQUEST_BYTES → nat_lt MAX_REQUEST_BYTES n ≡ false
not_over n h = search rules

request_is : (c : Call) → IsPlain c → request_of (single_request c) ≡ Some (single c)
request_is c plain =
    ap (λ o. request_with None o (option_and_then calls_from (as_list (calls_tree (c ∷ []))))) (texts_read both) ∙ ap (λ o. request_with None (Some both) o) (calls_read (c ∷ []) ((plain.members, plain.object), tt))

prepared_is : (c : Call) → IsPlain c → preparation true true c [] ≡ ready c
prepared_is c plain =
    let marks : list_any (λ m. is_marked m.0) plain.members ≡ false = sym (ap has_marks plain.object) ∙ plain.unmarked in
    let same : resolution c.args [] ≡ resolved c.args = plain_arguments c.args plain.members plain.members [] (sym plain.object) refl plain.order marks in
    ap (λ b. cond b (by_resolution c (resolution c.args [])) (refused (error_of (codes "unknownMethod") c.id))) plain.known ∙ ap (by_resolution c) same

module _ {S : Type 0} (answers : S → Call → List Created → Replied → S → Type 0) (s s' : S) (c : Call) where
  replied_by : (echo : Bool) (asked : List Asked) (replied : Replied) → Runs answers s asked s'
      → cond echo (RepliesAlone c asked replied) (asked ≡ record { call = c; made = []; replied = replied } ∷ [])
      → cond echo ((s' ≡ s) × (replied ≡ record { responses = c ∷ []; made = [] })) (answers s c [] replied s')
  replied_by true asked replied runs one = (subst (λ xs. Runs answers s xs s') one.0 runs, one.1)
  replied_by false asked replied runs one =
      let h = subst (λ xs. Runs answers s xs s') one runs in
      subst (λ m. answers s c [] replied m) (sym h.2) h.1

  calls_answered : (o : Outcome) → IsPlain c → IsResponse answers s s' (single c) o → AnswersSingle answers s s' c o
  calls_answered o plain (asked, after, taken, runs, (first, more, replied, rest, joined, one, sum, (none, is, zero)), few, reply) =
      let all : asked ≡ first = joined ∙ ap (λ xs. first ++ xs) none ∙ append-nil first in
      let done = subst (λ p. RepliesPrepared p [] first replied) (prepared_is c plain) one in
      (replied, replied_by (is_echo c) first replied (subst (λ xs. Runs answers s xs s') all runs) done, (reply.0, reply.1 ∙ ap (response_tree false) is))

  pub tree_answered : (o : Outcome) → IsPlain c → IsOutcome answers s s' (single_request c) o → AnswersSingle answers s s' c o
  tree_answered o plain h = calls_answered o plain (subst (λ r. IsOutcomeBy answers s s' r o) (request_is c plain) h)

  pub bytes_answered : (bytes : List ℕ) (o : Outcome) → IsPlain c → reading_of bytes ≡ whole (single_request c) → length bytes ≤ MAX_REQUEST_BYTES → IsAnswer answers s s' bytes o
      → AnswersSingle answers s s' c o
  bytes_answered bytes o plain read short h =
      let few = not_over (length bytes) short in
      let there = subst (λ b. cond b ((s' ≡ s) × IsRefusal TooLarge o) (IsAnswerBy answers s s' (reading_of bytes) o)) few h in
      tree_answered o plain (subst (λ (r : Reading). IsAnswerBy answers s s' r o) read there)
