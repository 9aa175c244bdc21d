-- What the rules of mail promise of plans, and of when an account is valid.
use Rattle.std.proofs.Common.{◌≡◌, ◌↔◌, ℕ, ◌+◌, ◌≤◌, Bool, true, false, List, [], ◌∷◌, ◌++◌, Option, Some, None, length, refl, sym, ap₂, ◌∙◌, subst, ◌^◌, arith}
use Rattle.std.specs.List.{AllByRecursion}
use Rattle.jm_json.specs.Call.{Call as Invocation}
use Rattle.jm_json.specs.Invocations.{call_of}
use Rattle.mail_records.specs.Commits.{IsFormed}
use Rattle.mail_records.specs.Contents.{Content, NextAtMost}
use Rattle.mail_records.specs.Edits.{AllFit, IsSmall, after_edits}
use Rattle.mail_records.specs.Histories.{History, Committed, IsFounded, IsSound, NamesThread, edits_of, blobs_of, content_of, end_of, end_after, empty_history, grown, max_floor}
use Rattle.mail_records.specs.declared.edits.Edit.{Edit}
use Rattle.mail_records.specs.declared.edits.Stamp.{Stamp}
use Rattle.mail_records.specs.declared.records.Email.{Email}
use Rattle.mail_records.specs.declared.records.Summary.{Summary}
use Rattle.mail_records.specs.FloorMoves.{moved_up}
use Rattle.mail_records.proofs.Moved.{IsFounded-moved_up, IsSound-moved_up, blobs_of-moved_up, content_of-moved_up, end_of-moved_up}
use Rattle.mail_records.proofs.Prefixes.{IsFounded-empty, IsSound-empty}
use Rattle.mail_summary.specs.Summaries.{summary}
use Rattle.mail_counts.specs.Tidy.{IsTidy}
use Rattle.mail_counts.proofs.Growth.{IsTidy-empty}
use Rattle.record_codec.specs.Sizes.{edit_bytes}
use Rattle.blob_store.specs.Blobs.{AreBlobsFew, has_room}
use Rattle.account_book.specs.Accounts.{without_refusals}
use Rattle.account_book.specs.Laws.{IsFounded-without_refusals, IsFounded-with_refusals, edits_of-without_refusals, blobs_of-without_refusals, edit_bytes-moved_up}
use Rattle.account_book.specs.Plans.{IsPlanFor, last_moment}
use Rattle.account_book.specs.Replies.{IsIdle, IsWithin, commit_of}
use Rattle.account_book.specs.declared.limits.TheConstants.{MAX_EDIT_BYTES}
use Rattle.account_book.specs.declared.asks.Ask.{Ask}
use Rattle.account_book.specs.declared.asks.Ask.TheVariants.{Method, Upload, Blob, Fetch, Place, States}
use Rattle.account_book.specs.declared.asks.Call.{Call}
use Rattle.account_book.specs.declared.plans.Out.TheVariants as out
use Rattle.account_book.specs.declared.plans.Plan.{Plan}
use Rattle.set_parts.specs.Outcomes.{Outcome}
use Rattle.set_parts.specs.Outcomes as sets
use Rattle.copy_calls.specs.BlobCopies.{blob_rejection, blobs_fetched_in}
use Rattle.copy_calls.specs.Fetches.{fetch_rejection, fetched_in}
use Rattle.mail_calls.specs.BlobPlans.{upload_if}
use Rattle.mail_calls.specs.Methods.{copy_method_named}
use Rattle.mail_calls.specs.Plans.{reading, call_plan, ask_plan, unless_for, fetch_by}
use Rattle.mail_calls.specs.declared.methods.CopyMethod.{CopyMethod}
use Rattle.mail_calls.specs.declared.methods.CopyMethod.TheVariants.{Emails, Blobs}
use Rattle.mail_calls.specs.ValidAccounts.{IsWhole}
use Rattle.mail_calls.specs.ValidAfterCommits.{IsWholeMail, grown_whole}
use Rattle.mail_calls.specs.ValidAfterCalls.{call_keeps}
use Rattle.plan_promises.specs.Messages.{HasMessage}

-- ---- of a plan

pub plan_fits : (h : History) (call : Call) (moment : ℕ) → moment ≤ last_moment → IsWholeMail h
    → AllFit (content_of h) (call_plan h call moment).edits
plan_fits h call moment low whole = (call_keeps h call moment low whole).fits

pub plan_small : (h : History) (call : Call) (moment : ℕ) → moment ≤ last_moment → IsWholeMail h
    → AllByRecursion IsSmall (call_plan h call moment).edits
plan_small h call moment low whole = (call_keeps h call moment low whole).small

pub plan_formed : (h : History) (call : Call) (moment : ℕ) (stamp : Stamp) → moment ≤ last_moment
    → IsWholeMail h → IsFormed (commit_of (call_plan h call moment) stamp)
plan_formed h call moment stamp low whole = (call_keeps h call moment low whole).formed

pub plan_keeps : (h : History) (call : Call) (moment : ℕ) (stamp : Stamp) → moment ≤ last_moment
    → IsWholeMail h → IsWithin edit_bytes h (call_plan h call moment).edits
    → IsWholeMail (grown h (Committed (commit_of (call_plan h call moment) stamp)))
plan_keeps h call moment stamp low whole within =
    grown_whole h (call_plan h call moment) stamp whole (call_keeps h call moment low whole) within

upload_reads : (b : Bool) (number : ℕ) (bytes : List ℕ) → (upload_if b number bytes).edits ≡ []
upload_reads true number bytes = refl
upload_reads false number bytes = refl

unless_reads : (call : Invocation) (p : Plan) → IsIdle p → (o : Option Outcome)
    → IsIdle (unless_for call p o)
unless_reads call p idle None = idle
unless_reads call p idle (Some (sets.invalid name)) = (refl, refl)
unless_reads call p idle (Some sets.too_large) = (refl, refl)
unless_reads call p idle (Some sets.state_mismatch) = (refl, refl)
unless_reads call p idle (Some (sets.planned q)) = idle

fetch_reads : (h : History) (call : Invocation) (m : Option CopyMethod)
    → IsIdle (fetch_by h call m)
fetch_reads h call None = (refl, refl)
fetch_reads h call (Some Emails) =
    unless_reads call (reading (out.Carried (fetched_in h call.args))) (refl, refl)
    (fetch_rejection h call.args)
fetch_reads h call (Some Blobs) =
    unless_reads call (reading (out.Carried (blobs_fetched_in h call.args))) (refl, refl)
    (blob_rejection call.args)

ask_reads : (h : History) (ask : Ask) (call : Call) (moment : ℕ)
    → IsPlanFor ask (ask_plan h ask call.made call.read_only moment)
ask_reads h (Method c) call moment = tt
ask_reads h (Upload bytes) call moment =
    upload_reads (has_room (length bytes) (blobs_of h)) (length (blobs_of h) + 1) bytes
ask_reads h (Blob name) call moment = (refl, refl)
ask_reads h (Fetch c) call moment =
    let copy = call_of c in fetch_reads h copy (copy_method_named copy.name)
ask_reads h (Place c carried) call moment = tt
ask_reads h States call moment = (refl, refl)

pub plan_reads : (h : History) (call : Call) (moment : ℕ)
    → IsPlanFor call.ask (call_plan h call moment)
plan_reads h call moment = ask_reads h call.ask call moment

-- ---- of each valid account

pub whole_founded : (h : History) → IsWholeMail h → IsFounded h
whole_founded h whole = whole.founded

pub whole_sound : (h : History) → IsWholeMail h → IsSound h
whole_sound h whole = whole.sound

pub whole_limits : (h : History) → IsWholeMail h → edit_bytes (edits_of h) ≤ MAX_EDIT_BYTES
whole_limits h whole = whole.limit

pub whole_blobs : (h : History) → IsWholeMail h → AreBlobsFew (blobs_of h)
whole_blobs h whole = whole.blobs

-- ---- a floor that moves up

pub whole_moves : (h : History) (c : ℕ) → end_after h c ≤ max_floor → IsWholeMail h
    → IsWholeMail (moved_up h c)
whole_moves h c low w =
    let content : content_of h ≡ content_of (moved_up h c) = sym (content_of-moved_up h c) in
    let blobs : blobs_of h ≡ blobs_of (moved_up h c) = sym (blobs_of-moved_up h c) in
    let last : end_of h ≡ end_of (moved_up h c) = sym (end_of-moved_up h c) in
    let bytes = edit_bytes-moved_up h c in
    let within = w.limit in
    record {
      founded = IsFounded-moved_up h c low w.founded w.sound;
      sound = IsSound-moved_up h c w.sound;
      tidy = subst IsTidy content w.tidy;
      messages =
          subst
          (λ (x : Content). AllByRecursion (HasMessage summary (blobs_of (moved_up h c))) x.emails)
          content
          (subst
          (λ (bs : List (List ℕ)). AllByRecursion (HasMessage summary bs) (content_of h).emails)
          blobs
          w.messages);
      blobs = subst AreBlobsFew blobs w.blobs;
      limit = omega (arith, bytes, within);
      next =
          subst (λ n. NextAtMost (n + 1) (content_of (moved_up h c))) last
          (subst (NextAtMost (end_of h + 1)) content w.next);
    }

-- ---- refusals have no part

-- two histories with one floor, one base, the same edits and the same blobs
same_whole : (summary : List ℕ → Summary) (h g : History) → IsFounded g → h.floor ≡ g.floor
    → h.base ≡ g.base → edits_of h ≡ edits_of g → blobs_of h ≡ blobs_of g → IsWhole summary h
    → IsWhole summary g
same_whole summary h g founded floor base edits blobs w =
    let one = w.sound.one_thread in
    let content : content_of h ≡ content_of g = ap₂ after_edits base edits in
    let last : end_of h ≡ end_of g = ap₂ (λ (f : ℕ) (es : List Edit). f + length es) floor edits in
    record {
      founded = founded;
      sound = record {
        fits =
            subst (AllFit g.base) edits
            (subst (λ (c : Content). AllFit c (edits_of h)) base w.sound.fits);
        one_thread = (
          one.0,
          record {
            in_base =
                subst
                (λ (c : Content). AllByRecursion (λ (x : Email). one.0 x.number ≡ x.thread)
                c.emails)
                base
                one.1.in_base;
            in_edits = subst (AllByRecursion (NamesThread one.0)) edits one.1.in_edits;
          },
        );
      };
      tidy = subst IsTidy content w.tidy;
      messages =
          subst (λ (c : Content). AllByRecursion (HasMessage summary (blobs_of g)) c.emails)
          content
          (subst
          (λ (bs : List (List ℕ)). AllByRecursion (HasMessage summary bs) (content_of h).emails)
          blobs
          w.messages);
      blobs = subst AreBlobsFew blobs w.blobs;
      limit = subst (λ (es : List Edit). edit_bytes es ≤ MAX_EDIT_BYTES) edits w.limit;
      next =
          subst (λ n. NextAtMost (n + 1) (content_of g)) last
          (subst (NextAtMost (end_of h + 1)) content w.next);
    }

pub whole_ignores : (h : History) → IsWholeMail (without_refusals h) ↔ IsWholeMail h
whole_ignores h =
    let edits = edits_of-without_refusals h in
    let blobs = blobs_of-without_refusals h in
    let g = without_refusals h in (
      λ whole. same_whole summary g h (IsFounded-with_refusals h whole.founded) refl refl
          edits blobs whole,
      λ whole. same_whole summary h g (IsFounded-without_refusals h whole.founded) refl refl
          (sym edits) (sym blobs) whole,
    )

pub whole_empty : IsWholeMail empty_history
whole_empty = record {
  founded = IsFounded-empty;
  sound = IsSound-empty;
  tidy = IsTidy-empty;
  messages = tt;
  blobs = record { count = omega arith; bytes = omega arith };
  limit = omega arith;
  next = record { mailbox = omega arith; email = omega arith; thread = omega arith };
}
