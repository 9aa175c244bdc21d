-- Each plan keeps what a plan must keep.
use Rattle.std.proofs.Common.{◌≡◌, ℕ, Bool, false, List, [], ◌∷◌, Option, Some, None, refl, sym, ap, ap₂, subst, ◌+◌, ◌≤◌, ◌++◌, true, append-nil, codes, length, nat_lt, nat_le, ltb-true, leb-true, arith, length-append, ◌∙◌}
use Rattle.jm_json.specs.Call.{Call as Invocation}
use Rattle.jm_json.specs.Find.{as_object}
use Rattle.jm_json.specs.Invocations.{call_of}
use Rattle.jm_json.specs.declared.invocation.Created.{Created}
use Rattle.mail_records.specs.Histories.{History, blobs_of, content_of}
use Rattle.mail_records.specs.declared.edits.Edit.{Edit}
use Rattle.mail_summary.specs.Summaries.{summary}
use Rattle.mail_view.specs.Gets.{Got, invalid, too_large, got, get_of_kind}
use Rattle.mail_view.specs.Parses.{parse_in}
use Rattle.mailbox_set.specs.Sets.{mailbox_set_outcome}
use Rattle.set_parts.specs.Outcomes.{Outcome}
use Rattle.set_parts.specs.Outcomes as sets
use Rattle.method_args.specs.Outcomes as method
use Rattle.change_calls.specs.Responses.{changes_outcome}
use Rattle.mailbox_set.proofs.Leading.{promised}
use Rattle.email_set.specs.Plans.{email_set_outcome}
use Rattle.email_set.proofs.Promising.{promised as emails_promised}
use Rattle.mail_import.specs.Plans.{import_in}
use Rattle.mail_import.proofs.Promising.{promised as imported}
use Rattle.account_book.specs.Plans.{last_moment}
use Rattle.account_book.specs.declared.asks.Ask.{Ask}
use Rattle.account_book.specs.declared.asks.Ask.TheVariants.{Method, Upload, Blob, Fetch, Place, States}
use Rattle.account_book.specs.declared.asks.Call.{Call}
use Rattle.account_book.specs.declared.asks.Carried.{Carried}
use Rattle.account_book.specs.declared.plans.Out.TheVariants as out
use Rattle.account_book.specs.declared.plans.Plan.{Plan}
use Rattle.mail_copies.specs.Plans.{place_in}
use Rattle.mail_copies.proofs.Promised.{promised as copied}
use Rattle.copy_calls.specs.BlobCopies.{blob_plan_in, blob_rejection, blobs_fetched_in}
use Rattle.copy_calls.specs.Fetches.{fetch_rejection, fetched_in}
use Rattle.copy_calls.proofs.Blobs.{few_plan}
use Rattle.plan_promises.specs.Planned.{IsPlanned}
use Rattle.mail_calls.specs.ValidAfterCommits.{IsWholeMail, Keeps, blobs_keep, few_without, idle_keeps, planned_keeps}
use Rattle.mail_calls.specs.BlobPlans.{upload_if}
use Rattle.mail_calls.specs.Laws.{and_both}
use Rattle.blob_store.specs.Blobs.{AreBlobsFew, byte_count, has_room}
use Rattle.blob_store.specs.declared.limits.TheConstants.{MAX_BLOB_BYTES_PER_ACCOUNT, MAX_BLOBS_PER_ACCOUNT}
use Rattle.std.proofs.lemmas.List.Sums.{sum-map, sum_by-append}
use Rattle.mail_calls.specs.Methods.{copy_method_named, method_named}
use Rattle.read_replies.specs.Plans.{refused, get_plan, outcome_plan, queried, query_changed}
use Rattle.mail_calls.specs.Plans.{reading, set_plan, ground_in, plan_by, ask_plan, call_plan, unless_for, copies_plan, blobs_planned, fetch_by, placement_by}
use Rattle.mail_calls.specs.declared.methods.CopyMethod.{CopyMethod}
use Rattle.mail_calls.specs.declared.methods.CopyMethod.TheVariants.{Emails, Blobs}
use Rattle.mail_calls.specs.declared.methods.Method.{Method as MailMethod}
use Rattle.mail_calls.specs.declared.methods.Method.TheVariants.{Get, Changes, MailboxSet, EmailSet, EmailImport, EmailParse, Query, QueryChanges}

get_keeps : (h : History) (call : Invocation) (g : Got) → IsWholeMail h → Keeps h (get_plan call g)
get_keeps h call (invalid name) whole = idle_keeps h _ whole refl refl
get_keeps h call too_large whole = idle_keeps h _ whole refl refl
get_keeps h call (got t) whole = idle_keeps h _ whole refl refl

outcome_keeps : (h : History) (call : Invocation) (o : method.Outcome) → IsWholeMail h
    → Keeps h (outcome_plan call o)
outcome_keeps h call o whole = idle_keeps h _ whole refl refl

-- edits that are planned without blobs are planned with none that are brought
without_blobs : (h : History) (edits : List Edit) (brought : List (List ℕ)) → brought ≡ []
    → IsPlanned summary (blobs_of h) (content_of h) edits
    → IsPlanned summary (blobs_of h ++ brought) (content_of h) edits
without_blobs h edits brought none plan =
    subst (λ (bs : List (List ℕ)). IsPlanned summary bs (content_of h) edits)
    (sym (ap (λ (bs : List (List ℕ)). blobs_of h ++ bs) none ∙ append-nil (blobs_of h))) plan

set_keeps : (h : History) (call : Invocation) (made : List Created) (o : Outcome) → IsWholeMail h
    → mailbox_set_outcome (ground_in h) call.args made ≡ o → Keeps h (set_plan call o)
set_keeps h call made (sets.invalid name) whole is = idle_keeps h _ whole refl refl
set_keeps h call made sets.too_large whole is = idle_keeps h _ whole refl refl
set_keeps h call made sets.state_mismatch whole is = idle_keeps h _ whole refl refl
set_keeps h call made (sets.planned p) whole is =
    let blobs = blobs_of h in
    let all = promised (ground_in h) call.args made p is in
    planned_keeps h (set_plan call (sets.planned p)) whole
    (without_blobs h p.edits p.blobs all.none_brought (all.planned summary blobs whole.tidy))
    (few_without h (set_plan call (sets.planned p)) whole all.none_brought)

email_set_keeps : (h : History) (call : Invocation) (made : List Created) (o : Outcome)
    → IsWholeMail h → email_set_outcome (ground_in h) call.args made ≡ o
    → Keeps h (set_plan call o)
email_set_keeps h call made (sets.invalid name) whole is = idle_keeps h _ whole refl refl
email_set_keeps h call made sets.too_large whole is = idle_keeps h _ whole refl refl
email_set_keeps h call made sets.state_mismatch whole is = idle_keeps h _ whole refl refl
email_set_keeps h call made (sets.planned p) whole is =
    let blobs = blobs_of h in
    let all = emails_promised (ground_in h) call.args made p is in
    planned_keeps h (set_plan call (sets.planned p)) whole
    (without_blobs h p.edits p.blobs all.none_brought (all.planned summary blobs whole.tidy))
    (few_without h (set_plan call (sets.planned p)) whole all.none_brought)

-- an import keeps at each timestamp up to the last
import_keeps : (h : History) (call : Invocation) (made : List Created) (moment : ℕ) (o : Outcome)
    → moment ≤ last_moment → IsWholeMail h → import_in h call.args made moment ≡ o
    → Keeps h (set_plan call o)
import_keeps h call made moment (sets.invalid name) low whole is = idle_keeps h _ whole refl refl
import_keeps h call made moment sets.too_large low whole is = idle_keeps h _ whole refl refl
import_keeps h call made moment sets.state_mismatch low whole is = idle_keeps h _ whole refl refl
import_keeps h call made moment (sets.planned p) low whole is =
    let all = imported (ground_in h) (blobs_of h) call.args made moment p is in
    planned_keeps h (set_plan call (sets.planned p)) whole
    (without_blobs h p.edits p.blobs all.none_brought (all.planned low whole.tidy))
    (few_without h (set_plan call (sets.planned p)) whole all.none_brought)

-- a call that is rejected changes nothing
unless_keeps : (h : History) (call : Invocation) (p : Plan) → IsWholeMail h → Keeps h p
    → (o : Option Outcome) → Keeps h (unless_for call p o)
unless_keeps h call p whole keep None = keep
unless_keeps h call p whole keep (Some (sets.invalid name)) = idle_keeps h _ whole refl refl
unless_keeps h call p whole keep (Some sets.too_large) = idle_keeps h _ whole refl refl
unless_keeps h call p whole keep (Some sets.state_mismatch) = idle_keeps h _ whole refl refl
unless_keeps h call p whole keep (Some (sets.planned q)) = keep

-- copies keep at each timestamp up to the last, with the blobs that they bring
copies_keep : (h : History) (call : Invocation) (carried : Carried) (made : List Created)
    (moment : ℕ) (o : Outcome) → moment ≤ last_moment → IsWholeMail h
    → place_in h call.args carried made moment ≡ o
    → Keeps h (set_plan call o)
copies_keep h call carried made moment (sets.invalid name) low whole is =
    idle_keeps h _ whole refl refl
copies_keep h call carried made moment sets.too_large low whole is =
    idle_keeps h _ whole refl refl
copies_keep h call carried made moment sets.state_mismatch low whole is =
    idle_keeps h _ whole refl refl
copies_keep h call carried made moment (sets.planned p) low whole is =
    let all = copied (ground_in h) (blobs_of h) call.args carried made moment p is in
    planned_keeps h (set_plan call (sets.planned p)) whole (all.planned low whole.tidy)
    (all.few whole.blobs)

-- the blobs of a Blob/copy are few with those of the account
blob_copies_keep : (h : History) (call : Invocation) (carried : Carried) → IsWholeMail h
    → Keeps h (blobs_planned call (blob_plan_in h call.args carried))
blob_copies_keep h call carried whole =
    blobs_keep h (blobs_planned call (blob_plan_in h call.args carried)) whole refl
    (few_plan (blobs_of h) carried (as_object call.args) whole.blobs)

-- What holds of each plan that keeps holds of what is fetched.
by_fetch : (h : History) (P : Plan → Type 0) → ((p : Plan) → Keeps h p → P p)
    → (call : Invocation) → IsWholeMail h → (m : Option CopyMethod) → P (fetch_by h call m)
by_fetch h P all call whole None =
    all (refused call (codes "unknownMethod")) (idle_keeps h _ whole refl refl)
by_fetch h P all call whole (Some Emails) =
    let p = reading (out.Carried (fetched_in h call.args)) in
    let o = fetch_rejection h call.args in
    all (unless_for call p o)
    (unless_keeps h call p whole (idle_keeps h p whole refl refl) o)
by_fetch h P all call whole (Some Blobs) =
    let p = reading (out.Carried (blobs_fetched_in h call.args)) in
    let o = blob_rejection call.args in
    all (unless_for call p o)
    (unless_keeps h call p whole (idle_keeps h p whole refl refl) o)

-- What holds of each plan that keeps, and of those of copies, holds of the plan of what is carried
-- to an account.
by_placement : (h : History) (P : Plan → Type 0) → ((p : Plan) → Keeps h p → P p)
    → (call : Invocation) (carried : Carried) (made : List Created) (moment : ℕ)
    → P (copies_plan h call carried made moment) → IsWholeMail h → (m : Option CopyMethod)
    → P (placement_by h call carried made moment m)
by_placement h P all call carried made moment copies whole None =
    all (refused call (codes "unknownMethod")) (idle_keeps h _ whole refl refl)
by_placement h P all call carried made moment copies whole (Some Emails) = copies
by_placement h P all call carried made moment copies whole (Some Blobs) =
    let p = blobs_planned call (blob_plan_in h call.args carried) in
    let o = blob_rejection call.args in
    all (unless_for call p o)
    (unless_keeps h call p whole (blob_copies_keep h call carried whole) o)

-- What holds of each plan that keeps, and of those of imports, holds of the plan of each method.
by_method : (h : History) (P : Plan → Type 0) → ((p : Plan) → Keeps h p → P p)
    → (call : Invocation) (made : List Created) (read_only : Bool) (moment : ℕ)
    → P (set_plan call (import_in h call.args made moment)) → IsWholeMail h
    → (m : Option MailMethod) → P (plan_by h call made read_only moment m)
by_method h P all call made read_only moment import whole None =
    all (refused call (codes "unknownMethod")) (idle_keeps h _ whole refl refl)
by_method h P all call made read_only moment import whole (Some (Get kind)) =
    let g = get_of_kind kind h call.args read_only in
    all (get_plan call g) (get_keeps h call g whole)
by_method h P all call made read_only moment import whole (Some (Changes kind)) =
    let o = changes_outcome h kind call.args in
    all (outcome_plan call o) (outcome_keeps h call o whole)
by_method h P all call made read_only moment import whole (Some (Query kind)) =
    let o = queried h kind call.args in
    all (outcome_plan call o) (outcome_keeps h call o whole)
by_method h P all call made read_only moment import whole (Some (QueryChanges kind)) =
    let o = query_changed h kind call.args in
    all (outcome_plan call o) (outcome_keeps h call o whole)
by_method h P all call made read_only moment import whole (Some MailboxSet) =
    let o = mailbox_set_outcome (ground_in h) call.args made in
    all (set_plan call o) (set_keeps h call made o whole refl)
by_method h P all call made read_only moment import whole (Some EmailSet) =
    let o = email_set_outcome (ground_in h) call.args made in
    all (set_plan call o) (email_set_keeps h call made o whole refl)
by_method h P all call made read_only moment import whole (Some EmailImport) = import
by_method h P all call made read_only moment import whole (Some EmailParse) =
    let g = parse_in h call.args in
    all (get_plan call g) (get_keeps h call g whole)

-- with a blob for which there is room the blobs are few
few_more : (blobs : List (List ℕ)) (bytes : List ℕ) → has_room (length bytes) blobs ≡ true
    → AreBlobsFew (blobs ++ bytes ∷ [])
few_more blobs bytes room =
    let new = bytes ∷ [] in
    let total = byte_count blobs + length bytes in
    let parts =
    and_both (nat_lt (length blobs) MAX_BLOBS_PER_ACCOUNT)
    (nat_le total MAX_BLOB_BYTES_PER_ACCOUNT)
    room in
    let less = ltb-true (length blobs) MAX_BLOBS_PER_ACCOUNT parts.0 in
    let most = leb-true total MAX_BLOB_BYTES_PER_ACCOUNT parts.1 in
    let count = length-append blobs new in
    let weight : byte_count (blobs ++ new) ≡ byte_count blobs + byte_count new =
    sum-map length (blobs ++ new)
    ∙ (sum_by-append length blobs new
    ∙ sym (ap₂ (λ a b. a + b) (sum-map length blobs) (sum-map length new))) in
    record { count = omega (arith, count, less); bytes = omega (arith, weight, most) }

upload_keeps : (h : History) (bytes : List ℕ) → IsWholeMail h → (b : Bool)
    → has_room (length bytes) (blobs_of h) ≡ b
    → Keeps h (upload_if b (length (blobs_of h) + 1) bytes)
upload_keeps h bytes whole true room =
    blobs_keep h (upload_if true (length (blobs_of h) + 1) bytes) whole refl
    (few_more (blobs_of h) bytes room)
upload_keeps h bytes whole false room =
    idle_keeps h (upload_if false (length (blobs_of h) + 1) bytes) whole refl refl

-- What holds of each plan that keeps, and of those of imports and copies, holds of the plan of
-- whatever is asked.
pub by_ask : (h : History) (P : Plan → Type 0) → ((p : Plan) → Keeps h p → P p)
    → (made : List Created) (read_only : Bool) (moment : ℕ)
    → ((c : Invocation) → P (set_plan c (import_in h c.args made moment)))
    → ((c : Invocation) (carried : Carried) → P (copies_plan h c carried made moment))
    → IsWholeMail h → (ask : Ask) → P (ask_plan h ask made read_only moment)
by_ask h P all made read_only moment import copies whole (Method c) =
    let call = call_of c in
    by_method h P all call made read_only moment (import call) whole (method_named call.name)
by_ask h P all made read_only moment import copies whole (Upload bytes) =
    let room = has_room (length bytes) (blobs_of h) in
    all (upload_if room (length (blobs_of h) + 1) bytes) (upload_keeps h bytes whole room refl)
by_ask h P all made read_only moment import copies whole (Blob name) =
    all (ask_plan h (Blob name) made read_only moment) (idle_keeps h _ whole refl refl)
by_ask h P all made read_only moment import copies whole (Fetch c) =
    let call = call_of c in
    by_fetch h P all call whole (copy_method_named call.name)
by_ask h P all made read_only moment import copies whole (Place c carried) =
    let call = call_of c in
    by_placement h P all call carried made moment (copies call carried) whole
    (copy_method_named call.name)
by_ask h P all made read_only moment import copies whole States =
    all (ask_plan h States made read_only moment) (idle_keeps h _ whole refl refl)

pub call_keeps : (h : History) (call : Call) (moment : ℕ) → moment ≤ last_moment → IsWholeMail h
    → Keeps h (call_plan h call moment)
call_keeps h call moment low whole =
    by_ask h (Keeps h) (λ p keep. keep) call.made call.read_only moment
    (λ c. import_keeps h c call.made moment (import_in h c.args call.made moment) low whole refl)
    (λ c carried. copies_keep h c carried call.made moment
    (place_in h c.args carried call.made moment) low whole refl)
    whole call.ask
