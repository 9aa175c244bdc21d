-- What is written for the same lines is the same, over a port that replies to each call in one way, and so over the account of
-- `batch`, whatever stamps its entries have.
use Rattle.std.proofs.Common.{◌≡◌, inl, inr, ℕ, ◌+◌, ◌≤◌, List, [], ◌∷◌, ◌++◌, ◌==◌, map, length, nat_lt, Bool, true, false, cond, Option, Some, None, Result, Ok, Err, is_some, refl, sym, ap, ap₂, ◌∙◌, subst, codes}
use Rattle.jm_base.specs.declared.limits.TheConstants.{MAX_REQUEST_BYTES, MAX_UPLOAD_BYTES}
use Rattle.jm_json.specs.Call.{Call}
use Rattle.jm_json.specs.Invocations.{call_of}
use Rattle.jm_json.specs.Json.{tree_of}
use Rattle.jm_json.specs.Reading.{Reading, not_json, not_whole, whole, reading_of}
use Rattle.jm_json.specs.Tree.{Tree}
use Rattle.jm_json.specs.declared.invocation.Created.{Created}
use Rattle.jm_json.specs.declared.invocation.Replied.{Replied}
use Rattle.mail_records.specs.Histories.{History, Entry, Committed, blobs_of, edits_of, grown, empty_history}
use Rattle.mail_records.specs.declared.edits.Edit.{Edit}
use Rattle.mail_records.specs.declared.edits.Stamp.{Stamp}
use Rattle.method_batch.specs.Method.{core_capability, mail_capability}
use Rattle.method_batch.specs.Request.{request_of, problem_in, uses}
use Rattle.method_batch.specs.Prepared.{Preparation, refused, ready, preparation}
use Rattle.method_batch.specs.Answer.{Asked, Runs, RepliesPrepared, RepliesAlone, Answers, after_reply, is_echo}
use Rattle.method_batch.specs.Outcome.{IsAnswerBy, IsRefusal, IsOutcomeBy, IsOutcomeUnless, beginning, limit_tree, problem_tree, response_tree}
use Rattle.method_batch.specs.declared.request.Request.{Request}
use Rattle.method_batch.specs.declared.progress.Progress.{Progress}
use Rattle.method_batch.specs.declared.outcome.Outcome.{Outcome}
use Rattle.method_batch.specs.declared.outcome.Problem.{Problem}
use Rattle.method_batch.specs.declared.outcome.Problem.TheVariants.{TooLarge, NotJson, NotRequest}
use Rattle.record_codec.specs.Sizes.{edit_bytes}
use Rattle.account_book.specs.declared.limits.TheConstants.{MAX_EDIT_BYTES}
use Rattle.account_book.specs.Replies.{IsReplyTo, IsWithin, NoneRefused, commit_of, refusal}
use Rattle.account_book.proofs.Answering.{refused_shows}
use Rattle.account_book.specs.declared.asks.Ask.{Ask}
use Rattle.account_book.specs.declared.asks.Call.{Call as TheCall}
use Rattle.account_book.specs.declared.plans.Out.{Out}
use Rattle.account_book.specs.declared.plans.Plan.{Plan}
use Rattle.account_book.specs.declared.plans.Point.{Point}
use Rattle.blob_store.specs.Blobs.{has_room}
use Rattle.mail_calls.specs.BlobPlans.{upload_if, upload_plan}
use Rattle.read_replies.specs.Plans.{get_plan, outcome_plan}
use Rattle.mail_calls.specs.Plans.{call_plan, email_set_plan, ground_in, mailbox_set_plan, method_plan, plan_by, set_plan}
use Rattle.mail_calls.specs.Methods.{method_named}
use Rattle.mail_calls.specs.declared.methods.Method.{Method as MailMethod}
use Rattle.mail_calls.specs.declared.methods.Method.TheVariants.{Get, Changes, MailboxSet, EmailSet, EmailImport, EmailParse, Query, QueryChanges}
use Rattle.batch_lines.specs.Lines.{lines_of}
use Rattle.batch_lines.specs.Replies.{AreReplies, IsLineReply, IsRequestReply, IsUploadReply, line_text}
use Rattle.batch_lines.specs.Uploads.{IsAnswerToBytes, IsRejected, IsUploaded, base64_bytes, upload_tree}
use Rattle.batch_lines.specs.declared.limits.TheConstants.{MAX_UPLOAD_CHARACTERS}
use Rattle.batch_lines.specs.declared.upload.Uploaded.{Uploaded}
use Rattle.server_users.specs.declared.users.UserAccount.{UserAccount}
use Rattle.read_replies.specs.Replies.{error_alone, replied_of}
use Rattle.hall_port.specs.Steps.{upload_call}
use Rattle.read_replies.specs.Targets.{target_of}
use Rattle.jmap_commands.specs.OneUser.{the_accounts}
use Rattle.jmap_commands.specs.AccountAnswers.{AnswersBy, IsAccountAnswer, account_answers, account_uploads, asked, point_between, uploaded_of}
use Rattle.jmap_commands.specs.Stamps.{AreAlike, unstamped, unstamped_entry}
use Rattle.jmap_commands.proofs.Performed.{at_ends, unchanged}
use Rattle.jmap_commands.proofs.Unstamped.{blobs_unstamped, changes_unstamped, edits_unstamped, get_unstamped, import_unstamped, parse_unstamped, queried_unstamped, query_changed_unstamped}

module _ {S : Type 0} (answers : S → Call → List Created → Replied → S → Type 0) (uploads : S → List ℕ → Uploaded → S → Type 0) (Alike : S → S → Type 0)
    (one : (s t : S) (c : Call) (made : List Created) (r q : Replied) (s' t' : S) → Alike s t → answers s c made r s' → answers t c made q t' → (q ≡ r) × Alike s' t')
    (one_upload : (s t : S) (bytes : List ℕ) (u v : Uploaded) (s' t' : S) → Alike s t → uploads s bytes u s' → uploads t bytes v t' → (v ≡ u) × Alike s' t') where
  runs_parts : (s : S) (xs ys : List Asked) (t : S) → Runs answers s (xs ++ ys) t → (m : S) × Runs answers s xs m × Runs answers m ys t
  runs_parts s [] ys t h = (s, refl, h)
  runs_parts s (x ∷ xs) ys t h = let r = runs_parts h.0 xs ys t h.2 in (r.0, (h.0, h.1, r.1), r.2)

  runs_none : (s m : S) (asked : List Asked) → asked ≡ [] → Runs answers s asked m → m ≡ s
  runs_none s m asked e runs = subst (λ (xs : List Asked). Runs answers s xs m) e runs

  alike_same : (s t s' t' : S) → Alike s t → s' ≡ s → t' ≡ t → Alike s' t'
  alike_same s t s' t' h e f = subst (λ (x : S). Alike s' x) (sym f) (subst (λ (x : S). Alike x t) (sym e) h)

  alone_one : (response : Call) (s t m n : S) (first other : List Asked) (r q : Replied) → Alike s t → RepliesAlone response first r → RepliesAlone response other q → Runs answers s first m → Runs answers t other n → (q ≡ r) × Alike m n
  alone_one response s t m n first other r q alike h k runs ran = (k.1 ∙ sym h.1, alike_same s t m n alike (runs_none s m first h.0 runs) (runs_none t n other k.0 ran))

  port_one : (c : Call) (made : List Created) (s t m n : S) (first other : List Asked) (r q : Replied) → Alike s t → first ≡ record { call = c; made = made; replied = r } ∷ [] → other ≡ record { call = c; made = made; replied = q } ∷ []
      → Runs answers s first m → Runs answers t other n → (q ≡ r) × Alike m n
  port_one c made s t m n first other r q alike e f runs ran =
      let a = subst (λ (xs : List Asked). Runs answers s xs m) e runs in
      let b = subst (λ (xs : List Asked). Runs answers t xs n) f ran in
      let both = one s t c made r q a.0 b.0 alike a.1 b.1 in
      (both.0, alike_same a.0 b.0 m n both.1 a.2 b.2)

  echo_one : (echo : Bool) (c : Call) (made : List Created) (s t m n : S) (first other : List Asked) (r q : Replied) → Alike s t
      → cond echo (RepliesAlone c first r) (first ≡ record { call = c; made = made; replied = r } ∷ []) → cond echo (RepliesAlone c other q) (other ≡ record { call = c; made = made; replied = q } ∷ [])
      → Runs answers s first m → Runs answers t other n → (q ≡ r) × Alike m n
  echo_one true c made s t m n first other r q alike h k runs ran = alone_one c s t m n first other r q alike h k runs ran
  echo_one false c made s t m n first other r q alike h k runs ran = port_one c made s t m n first other r q alike h k runs ran

  call_one : (p : Preparation) (made : List Created) (s t m n : S) (first other : List Asked) (r q : Replied) → Alike s t → RepliesPrepared p made first r → RepliesPrepared p made other q
      → Runs answers s first m → Runs answers t other n → (q ≡ r) × Alike m n
  call_one (refused response) made s t m n first other r q alike h k runs ran = alone_one response s t m n first other r q alike h k runs ran
  call_one (ready c) made s t m n first other r q alike h k runs ran = echo_one (is_echo c) c made s t m n first other r q alike h k runs ran

  calls_one : (core mail : Bool) (cs : List Call) (p : Progress) (s t m n : S) (asked other : List Asked) (after final : Progress) (taken took : ℕ) → Alike s t → Runs answers s asked m → Runs answers t other n
      → Answers core mail cs p asked after taken → Answers core mail cs p other final took → (final ≡ after) × Alike m n
  calls_one core mail [] p s t m n asked other after final taken took alike runs ran h k = (k.1 ∙ sym h.1, alike_same s t m n alike (runs_none s m asked h.0 runs) (runs_none t n other k.0 ran))
  calls_one core mail (c ∷ cs) p s t m n asked other after final taken took alike runs ran (first, more, r, left, e, did, sum, rest) (first', more', q, left', f, did', sum', rest') =
      let a = runs_parts s first more m (subst (λ (xs : List Asked). Runs answers s xs m) e runs) in
      let b = runs_parts t first' more' n (subst (λ (xs : List Asked). Runs answers t xs n) f ran) in
      let both = call_one (preparation core mail c p.responses) p.made s t a.0 b.0 first first' r q alike did did' a.1 b.1 in
      calls_one core mail cs (after_reply p r) a.0 b.0 m n more more' after final left left' both.1 a.2 b.2 rest (subst (λ (x : Replied). Answers core mail cs (after_reply p x) more' final left') both.0 rest')

  abbrev OneAnswer : S → S → Outcome → Outcome → Type 0
  OneAnswer m n o p = (tree_of p.tree ≡ tree_of o.tree) × Alike m n

  refused_one : (problem : Problem) (s t m n : S) (o p : Outcome) → Alike s t → (m ≡ s) × IsRefusal problem o → (n ≡ t) × IsRefusal problem p → OneAnswer m n o p
  refused_one problem s t m n o p alike h k = (k.1.1 ∙ sym h.1.1, alike_same s t m n alike h.0 k.0)

  unless_one : (r : Request) (problem : Option Problem) (s t m n : S) (o p : Outcome) → Alike s t → IsOutcomeUnless answers s m r problem o → IsOutcomeUnless answers t n r problem p → OneAnswer m n o p
  unless_one r None s t m n o p alike (asked, after, taken, runs, did, few, is) (other, final, took, ran, did', few', is') =
      let both = calls_one (uses core_capability r.using) (uses mail_capability r.using) r.calls (beginning r.created) s t m n asked other after final taken took alike runs ran did did' in
      (is'.1 ∙ ap (response_tree (is_some r.created)) both.0 ∙ sym is.1, both.1)
  unless_one r (Some problem) s t m n o p alike h k = refused_one problem s t m n o p alike h k

  outcome_one : (r : Option Request) (s t m n : S) (o p : Outcome) → Alike s t → IsOutcomeBy answers s m r o → IsOutcomeBy answers t n r p → OneAnswer m n o p
  outcome_one None s t m n o p alike h k = refused_one NotRequest s t m n o p alike h k
  outcome_one (Some r) s t m n o p alike h k = unless_one r (problem_in r) s t m n o p alike h k

  reading_one : (r : Reading) (s t m n : S) (o p : Outcome) → Alike s t → IsAnswerBy answers s m r o → IsAnswerBy answers t n r p → OneAnswer m n o p
  reading_one not_json s t m n o p alike h k = refused_one NotJson s t m n o p alike h k
  reading_one (not_whole path) s t m n o p alike h k = refused_one NotRequest s t m n o p alike h k
  reading_one (whole x) s t m n o p alike h k = outcome_one (request_of x) s t m n o p alike h k

  answer_one : (long : Bool) (r : Reading) (s t m n : S) (o p : Outcome) → Alike s t → cond long ((m ≡ s) × IsRefusal TooLarge o) (IsAnswerBy answers s m r o) → cond long ((n ≡ t) × IsRefusal TooLarge p) (IsAnswerBy answers t n r p) → OneAnswer m n o p
  answer_one true r s t m n o p alike h k = refused_one TooLarge s t m n o p alike h k
  answer_one false r s t m n o p alike h k = reading_one r s t m n o p alike h k

  rejected_one : (problem : Tree) (s t m n : S) (x y : Tree) → Alike s t → IsRejected s m problem x → IsRejected t n problem y → (y ≡ x) × Alike m n
  rejected_one problem s t m n x y alike h k = (k.1 ∙ sym h.1, alike_same s t m n alike h.0 k.0)

  uploaded_one : (bytes : List ℕ) (s t m n : S) (x y : Tree) → Alike s t → IsUploaded uploads s m bytes x → IsUploaded uploads t n bytes y → (y ≡ x) × Alike m n
  uploaded_one bytes s t m n x y alike (u, did, is) (v, did', is') =
      let both = one_upload s t bytes u v m n alike did did' in
      (is' ∙ ap (upload_tree (length bytes)) both.0 ∙ sym is, both.1)

  sized_one : (long : Bool) (bytes : List ℕ) (s t m n : S) (x y : Tree) → Alike s t
      → cond long (IsRejected s m (limit_tree (codes "maxSizeUpload")) x) (IsUploaded uploads s m bytes x) → cond long (IsRejected t n (limit_tree (codes "maxSizeUpload")) y) (IsUploaded uploads t n bytes y) → (y ≡ x) × Alike m n
  sized_one true bytes s t m n x y alike h k = rejected_one (limit_tree (codes "maxSizeUpload")) s t m n x y alike h k
  sized_one false bytes s t m n x y alike h k = uploaded_one bytes s t m n x y alike h k

  bytes_one : (o : Option (List ℕ)) (s t m n : S) (x y : Tree) → Alike s t → IsAnswerToBytes uploads s m o x → IsAnswerToBytes uploads t n o y → (y ≡ x) × Alike m n
  bytes_one None s t m n x y alike h k = rejected_one (problem_tree NotRequest) s t m n x y alike h k
  bytes_one (Some bytes) s t m n x y alike h k = sized_one (nat_lt MAX_UPLOAD_BYTES (length bytes)) bytes s t m n x y alike h k

  string_one : (long : Bool) (string : List ℕ) (s t m n : S) (x y : Tree) → Alike s t
      → cond long (IsRejected s m (limit_tree (codes "maxSizeUpload")) x) (IsAnswerToBytes uploads s m (base64_bytes string) x) → cond long (IsRejected t n (limit_tree (codes "maxSizeUpload")) y) (IsAnswerToBytes uploads t n (base64_bytes string) y) → (y ≡ x) × Alike m n
  string_one true string s t m n x y alike h k = rejected_one (limit_tree (codes "maxSizeUpload")) s t m n x y alike h k
  string_one false string s t m n x y alike h k = bytes_one (base64_bytes string) s t m n x y alike h k

  line_by : (plus : Bool) (string line : List ℕ) (s t m n : S) (reply other : List ℕ) → Alike s t → cond plus (IsUploadReply uploads s m string reply) (IsRequestReply answers s m line reply) → cond plus (IsUploadReply uploads t n string other) (IsRequestReply answers t n line other)
      → (other ≡ reply) × Alike m n
  line_by true string line s t m n reply other alike (x, did, is) (y, did', is') =
      let both = string_one (nat_lt MAX_UPLOAD_CHARACTERS (length string)) string s t m n x y alike did did' in
      (is' ∙ ap line_text both.0 ∙ sym is, both.1)
  line_by false string line s t m n reply other alike (o, did, is) (p, did', is') =
      let both = answer_one (nat_lt MAX_REQUEST_BYTES (length line)) (reading_of line) s t m n o p alike did did' in
      (is' ∙ ap line_text both.0 ∙ sym is, both.1)

  line_one : (line : List ℕ) (s t m n : S) (reply other : List ℕ) → Alike s t → IsLineReply answers uploads s m line reply → IsLineReply answers uploads t n line other → (other ≡ reply) × Alike m n
  line_one [] s t m n reply other alike h k = (k.1 ∙ sym h.1, alike_same s t m n alike h.0 k.0)
  line_one (x ∷ xs) s t m n reply other alike h k = line_by (x == 43) xs (x ∷ xs) s t m n reply other alike h k

  pub lines_one : (lines : List (List ℕ)) (s t m n : S) (out other : List ℕ) → Alike s t → AreReplies answers uploads s m lines out → AreReplies answers uploads t n lines other → (other ≡ out) × Alike m n
  lines_one [] s t m n out other alike h k = (k.1 ∙ sym h.1, alike_same s t m n alike h.0 k.0)
  lines_one (l ∷ ls) s t m n out other alike (u, reply, more, did, rest, e) (v, reply', more', did', rest', f) =
      let first = line_one l s t u v reply reply' alike did did' in
      let then = lines_one ls u v m n more more' first.1 rest rest' in
      (f ∙ ap₂ (λ (a b : List ℕ). a ++ b) first.0 then.0 ∙ sym e, then.1)

-- ---- the account, whatever stamps its entries have

ground_unstamped : (h : History) → ground_in (unstamped h) ≡ ground_in h
ground_unstamped h = rw (edits_unstamped h.entries) refl

plan_by_unstamped : (h : History) (c : Call) (made : List Created) (read_only : Bool) (method : Option MailMethod)
    → plan_by (unstamped h) c made read_only 0 method ≡ plan_by h c made read_only 0 method
plan_by_unstamped h c made read_only None = refl
plan_by_unstamped h c made read_only (Some (Get kind)) = ap (get_plan c) (get_unstamped h c.args read_only kind)
plan_by_unstamped h c made read_only (Some (Changes kind)) = ap (outcome_plan c) (changes_unstamped h kind c.args)
plan_by_unstamped h c made read_only (Some (Query kind)) = ap (outcome_plan c) (queried_unstamped h kind c.args)
plan_by_unstamped h c made read_only (Some (QueryChanges kind)) = ap (outcome_plan c) (query_changed_unstamped h kind c.args)
plan_by_unstamped h c made read_only (Some MailboxSet) = ap (mailbox_set_plan c made) (ground_unstamped h)
plan_by_unstamped h c made read_only (Some EmailSet) = ap (email_set_plan c made) (ground_unstamped h)
plan_by_unstamped h c made read_only (Some EmailImport) = ap (set_plan c) (import_unstamped h c.args made 0)
plan_by_unstamped h c made read_only (Some EmailParse) = ap (get_plan c) (parse_unstamped h c.args)

plan_unstamped : (h : History) (c : Call) (made : List Created) (read_only : Bool) → method_plan (unstamped h) c made read_only 0 ≡ method_plan h c made read_only 0
plan_unstamped h c made read_only = plan_by_unstamped h c made read_only (method_named c.name)

plan_alike : (h k : History) (c : Call) (made : List Created) → AreAlike h k → method_plan k c made false 0 ≡ method_plan h c made false 0
plan_alike h k c made alike = sym (plan_unstamped k c made false) ∙ ap (λ (x : History). method_plan x c made false 0) alike ∙ plan_unstamped h c made false

edits_alike : (h k : History) → AreAlike h k → edits_of k ≡ edits_of h
edits_alike h k alike = sym (edits_unstamped k.entries) ∙ ap edits_of alike ∙ edits_unstamped h.entries

blobs_alike : (h k : History) → AreAlike h k → blobs_of k ≡ blobs_of h
blobs_alike h k alike =
    let left : blobs_of (unstamped k) ≡ blobs_of k = ap (λ (bs : List (List ℕ)). k.base_blobs ++ bs) (blobs_unstamped k.entries) in
    let right : blobs_of (unstamped h) ≡ blobs_of h = ap (λ (bs : List (List ℕ)). h.base_blobs ++ bs) (blobs_unstamped h.entries) in
    sym left ∙ ap blobs_of alike ∙ right

upload_alike : (h k : History) (bytes : List ℕ) → AreAlike h k → upload_plan k bytes ≡ upload_plan h bytes
upload_alike h k bytes alike = ap (λ (bs : List (List ℕ)). upload_if (has_room (length bytes) bs) (length bs + 1) bytes) (blobs_alike h k alike)

within_alike : (h k : History) (edits : List Edit) → AreAlike h k → IsWithin edit_bytes h edits → IsWithin edit_bytes k edits
within_alike h k edits alike within = subst (λ (es : List Edit). edit_bytes es + edit_bytes edits ≤ MAX_EDIT_BYTES) (sym (edits_alike h k alike)) within

turned : (h k : History) → AreAlike h k → AreAlike k h
turned h k alike = sym alike

unstamped_on : (es : List Entry) (e : Entry) → map unstamped_entry (es ++ e ∷ []) ≡ map unstamped_entry es ++ unstamped_entry e ∷ []
unstamped_on [] e = refl
unstamped_on (x ∷ es) e = ap (λ (ys : List Entry). unstamped_entry x ∷ ys) (unstamped_on es e)

grown_unstamped : (h : History) (e : Entry) → unstamped (grown h e) ≡ grown (unstamped h) (unstamped_entry e)
grown_unstamped h e = ap (λ (es : List Entry). record (unstamped h) { entries = es }) (unstamped_on h.entries e)

grown_alike : (h k : History) (p : Plan) (stamp other : Stamp) → AreAlike h k → AreAlike (grown h (Committed (commit_of p stamp))) (grown k (Committed (commit_of p other)))
grown_alike h k p stamp other alike =
    grown_unstamped k (Committed (commit_of p other)) ∙ ap (λ (x : History). grown x (unstamped_entry (Committed (commit_of p stamp)))) alike ∙ sym (grown_unstamped h (Committed (commit_of p stamp)))

alike_so : (h k h' k' : History) → AreAlike h k → h' ≡ h → k' ≡ k → AreAlike h' k'
alike_so h k h' k' alike e f = ap unstamped f ∙ alike ∙ sym (ap unstamped e)

-- what is shown of the answers to two asks with one plan, if what is shown of their refusals is the same
plans_one : {R : Type 0} (show : Out → R) (p : Plan) (h k h' k' : History) (x y : Ask) (point there : Point) (stamp other : Stamp) (out out' : Out) → AreAlike h k
    → show (refusal (codes "serverUnavailable") y) ≡ show (refusal (codes "serverUnavailable") x)
    → (point.after ≡ point.before → h' ≡ h) → (there.after ≡ there.before → k' ≡ k) → NoneRefused h h' → NoneRefused k k'
    → IsReplyTo p edit_bytes h h' point x stamp out → IsReplyTo p edit_bytes k k' there y other out' → (show out' ≡ show out) × AreAlike h' k'
plans_one show p h k h' k' x y point there stamp other out out' alike same stays halts none never (inr (inr (inl a))) b = absurd (refused_shows h h' stamp a.grows none)
plans_one show p h k h' k' x y point there stamp other out out' alike same stays halts none never (inl a) (inr (inr (inl b))) = absurd (refused_shows k k' other b.grows never)
plans_one show p h k h' k' x y point there stamp other out out' alike same stays halts none never (inr (inl a)) (inr (inr (inl b))) = absurd (refused_shows k k' other b.grows never)
plans_one show p h k h' k' x y point there stamp other out out' alike same stays halts none never (inr (inr (inr a))) (inr (inr (inl b))) = absurd (refused_shows k k' other b.grows never)
plans_one show p h k h' k' x y point there stamp other out out' alike same stays halts none never (inl a) (inl b) = (ap show (b.reply ∙ sym a.reply), alike_so h k h' k' alike (stays a.same) (halts b.same))
plans_one show p h k h' k' x y point there stamp other out out' alike same stays halts none never (inl a) (inr (inl b)) = absurd (b.some a.idle)
plans_one show p h k h' k' x y point there stamp other out out' alike same stays halts none never (inl a) (inr (inr (inr b))) = absurd (b.some a.idle)
plans_one show p h k h' k' x y point there stamp other out out' alike same stays halts none never (inr (inl a)) (inl b) = absurd (a.some b.idle)
plans_one show p h k h' k' x y point there stamp other out out' alike same stays halts none never (inr (inl a)) (inr (inl b)) =
    (ap show b.reply ∙ same ∙ sym (ap show a.reply), alike_so h k h' k' alike (stays a.same) (halts b.same))
plans_one show p h k h' k' x y point there stamp other out out' alike same stays halts none never (inr (inl a)) (inr (inr (inr b))) = absurd (a.past (within_alike k h p.edits (turned h k alike) b.within))
plans_one show p h k h' k' x y point there stamp other out out' alike same stays halts none never (inr (inr (inr a))) (inl b) = absurd (a.some b.idle)
plans_one show p h k h' k' x y point there stamp other out out' alike same stays halts none never (inr (inr (inr a))) (inr (inl b)) = absurd (b.past (within_alike h k p.edits alike a.within))
plans_one show p h k h' k' x y point there stamp other out out' alike same stays halts none never (inr (inr (inr a))) (inr (inr (inr b))) =
    (ap show (b.reply ∙ sym a.reply), ap unstamped b.grows ∙ grown_alike h k p stamp other alike ∙ sym (ap unstamped a.grows))

-- the answers to two calls whose plans are one
answers_one : {R : Type 0} (show : Out → R) (h k h' k' : History) (x y : TheCall) (out out' : Out) → AreAlike h k → call_plan k y 0 ≡ call_plan h x 0
    → show (refusal (codes "serverUnavailable") y.ask) ≡ show (refusal (codes "serverUnavailable") x.ask)
    → IsAccountAnswer h x out h' → IsAccountAnswer k y out' k' → (show out' ≡ show out) × AreAlike h' k'
answers_one show h k h' k' x y out out' alike plans same a b =
    let p = call_plan h x 0 in
    let first : IsReplyTo p edit_bytes h h' (point_between h h') x.ask a.stamp out = at_ends h h' x a.stamp out a.begins a.reply in
    let second : IsReplyTo p edit_bytes k k' (point_between k k') y.ask b.stamp out' =
    subst (λ (z : Plan). IsReplyTo z edit_bytes k k' (point_between k k') y.ask b.stamp out') plans (at_ends k k' y b.stamp out' b.begins b.reply) in
    plans_one show p h k h' k' x.ask y.ask (point_between h h') (point_between k k') a.stamp b.stamp out out' alike same (unchanged h h' a.begins) (unchanged k k' b.begins) a.kept b.kept first second

by_target : (t : Result UserAccount (List ℕ)) (h k : History) (c : Call) (made : List Created) (r q : Replied) (h' k' : History) → AreAlike h k → AnswersBy t h c made r h' → AnswersBy t k c made q k' → (q ≡ r) × AreAlike h' k'
by_target (Err kind) h k c made r q h' k' alike a b = (b.1 ∙ sym a.1, alike_so h k h' k' alike a.0 b.0)
by_target (Ok account) h k c made r q h' k' alike a b =
    let calls : call_of b.call ≡ call_of a.call = b.same ∙ sym a.same in
    let plans : method_plan k (call_of b.call) made false 0 ≡ method_plan h (call_of a.call) made false 0 =
    ap (λ (x : Call). method_plan k x made false 0) calls ∙ plan_alike h k (call_of a.call) made alike in
    let both = answers_one replied_of h k h' k' (asked a.call made) (asked b.call made) a.out b.out alike plans (ap (λ (x : Call). error_alone (codes "serverUnavailable") x) calls) a.answer b.answer in
    (b.shown ∙ both.0 ∙ sym a.shown, both.1)

upload_one : (h k : History) (bytes : List ℕ) (u v : Uploaded) (h' k' : History) → AreAlike h k → account_uploads h bytes u h' → account_uploads k bytes v k' → (v ≡ u) × AreAlike h' k'
upload_one h k bytes u v h' k' alike a b =
    let both = answers_one uploaded_of h k h' k' (upload_call bytes) (upload_call bytes) a.out b.out alike (upload_alike h k bytes alike) refl a.answer b.answer in
    (b.shown ∙ both.0 ∙ sym a.shown, both.1)

account_one : (h k : History) (c : Call) (made : List Created) (r q : Replied) (h' k' : History) → AreAlike h k → account_answers h c made r h' → account_answers k c made q k' → (q ≡ r) × AreAlike h' k'
account_one h k c made r q h' k' alike a b = by_target (target_of the_accounts c) h k c made r q h' k' alike a b

pub account_lines : (lines : List (List ℕ)) (out other : List ℕ) (h h' k k' : History) → AreAlike h k → AreReplies account_answers account_uploads h h' lines out → AreReplies account_answers account_uploads k k' lines other → (other ≡ out) × AreAlike h' k'
account_lines lines out other h h' k k' alike a b = lines_one account_answers account_uploads AreAlike account_one upload_one lines h k h' k' out other alike a b

pub account_output : (input out other : List ℕ) (h k : History) → AreReplies account_answers account_uploads empty_history h (lines_of input) out → AreReplies account_answers account_uploads empty_history k (lines_of input) other → other ≡ out
account_output input out other h k a b = (account_lines (lines_of input) out other empty_history h empty_history k refl a b).0
