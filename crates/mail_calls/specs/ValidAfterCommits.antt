-- What a plan keeps, and why its commit leaves a valid account valid.
--
-- A planner proves what `IsPlanned` of plan_promises asks of its edits: that they fit, leave the
-- content tidy and have right flags, and, where they change emails, that an email which is there
-- keeps its message, that a new one has its message among the blobs, and that each is filed. It
-- proves that the blobs of the account with those of the plan are few. `planned_keeps` makes
-- `Keeps` of that, from which follows everything that `Rules` promises of a plan: `grown_whole` is
-- the greatest part.
--
-- * A plan without edits and blobs keeps (`idle_keeps`), and one of blobs alone that are few
-- (`blobs_keep`).
-- * A plan of any edits needs `IsPlanned` and `AreBlobsFew` (`planned_keeps`).
use Rattle.std.proofs.Common.{◌≡◌, ℕ, ◌+◌, ◌≤◌, List, [], ◌∷◌, ◌++◌, length, sym, ap, ◌∙◌, subst, arith, append-nil}
use Rattle.std.specs.List.{AllByRecursion}
use Rattle.mail_records.specs.Commits.{IsFormedEdit}
use Rattle.mail_records.specs.Contents.{Content, NextAtMost}
use Rattle.mail_records.specs.Edits.{AllFit, AllKeepThread, IsSmall, after_edits}
use Rattle.mail_records.specs.Histories.{History, Committed, edits_of, blobs_of, content_of, end_of, grown}
use Rattle.mail_records.specs.declared.edits.Stamp.{Stamp}
use Rattle.mail_records.proofs.Growth.{NextAtMost-after_edits, all_map}
use Rattle.mail_records.proofs.Prefixes.{IsFounded-grown_by, IsSound-committed, edits_of-grown, content_of-grown, end_of-grown, blobs_of-grown}
use Rattle.mail_summary.specs.Summaries.{summary}
use Rattle.mail_counts.specs.CountsFlag.{AreCountsFlagsRight}
use Rattle.mail_counts.specs.Tidy.{IsTidy}
use Rattle.record_codec.specs.Sizes.{edit_bytes}
use Rattle.record_codec.proofs.Lengths.{edit_bytes-append}
use Rattle.blob_store.specs.Blobs.{AreBlobsFew}
use Rattle.account_book.specs.Replies.{IsWithin, commit_of}
use Rattle.account_book.specs.declared.plans.Plan.{Plan}
use Rattle.plan_promises.specs.Messages.{HasMessage}
use Rattle.plan_promises.specs.Planned.{IsPlanned}
use Rattle.plan_promises.proofs.Planned.{HasMessage-more, planned_small, planned_formed, planned_messages, planned_mailboxes, threads_kept}
use Rattle.mail_calls.specs.Laws.{summary_formed}
use Rattle.mail_calls.specs.ValidAccounts.{IsWhole}

-- valid, with the summaries that messages have
abbrev pub IsWholeMail : History → Type 0
IsWholeMail h = IsWhole summary h

-- Over an account with this history, the plan's edits fit, can be kept, keep the thread of each
-- email, say rightly which puts change only counts, and leave a tidy content in which each email
-- has its message among the blobs of the account and those of the plan, which are few together.
pub record Keeps (h : History) (p : Plan) : Type 0 where
  pub fits : AllFit (content_of h) p.edits
  pub small : AllByRecursion IsSmall p.edits
  pub formed : AllByRecursion IsFormedEdit p.edits
  pub threads : AllKeepThread (content_of h) p.edits
  pub tidy : IsTidy (after_edits (content_of h) p.edits)
  pub flags : AreCountsFlagsRight (content_of h) p.edits
  pub messages :
      AllByRecursion (HasMessage summary (blobs_of h ++ p.blobs))
      (after_edits (content_of h) p.edits).emails
  pub blobs : AreBlobsFew (blobs_of h ++ p.blobs)

-- the emails of a valid account have their messages also among more blobs
messages_now : (h : History) (more : List (List ℕ)) → IsWholeMail h
    → AllByRecursion (HasMessage summary (blobs_of h ++ more)) (content_of h).emails
messages_now h more whole =
    all_map (HasMessage summary (blobs_of h)) (HasMessage summary (blobs_of h ++ more))
    (content_of h).emails
    (HasMessage-more summary (blobs_of h) more)
    whole.messages

-- a plan that promises what plans do keeps
pub planned_keeps : (h : History) (p : Plan) → IsWholeMail h
    → IsPlanned summary (blobs_of h ++ p.blobs) (content_of h) p.edits
    → AreBlobsFew (blobs_of h ++ p.blobs) → Keeps h p
planned_keeps h p whole plan few =
    let has = messages_now h p.blobs whole in
    let blobs = blobs_of h ++ p.blobs in
    let content = content_of h in
    let tidy = whole.tidy in
    record {
      fits = plan.fits;
      small = planned_small summary blobs content p.edits summary_formed tidy has plan;
      formed = planned_formed summary blobs content p.edits summary_formed tidy has plan;
      threads = threads_kept p.edits content plan.kept;
      tidy = plan.tidy;
      flags = plan.flags;
      messages = planned_messages summary blobs content p.edits summary_formed tidy has plan;
      blobs = few;
    }

-- a plan of blobs alone
pub blobs_keep : (h : History) (p : Plan) → IsWholeMail h → p.edits ≡ []
    → AreBlobsFew (blobs_of h ++ p.blobs) → Keeps h p
blobs_keep h p whole edits few =
    planned_keeps h p whole
    (subst (IsPlanned summary (blobs_of h ++ p.blobs) (content_of h)) (sym edits)
    (planned_mailboxes summary (blobs_of h ++ p.blobs) (content_of h) [] tt tt whole.tidy tt))
    few

pub few_without : (h : History) (p : Plan) → IsWholeMail h → p.blobs ≡ []
    → AreBlobsFew (blobs_of h ++ p.blobs)
few_without h p whole none =
    subst AreBlobsFew
    (sym (ap (λ (bs : List (List ℕ)). blobs_of h ++ bs) none ∙ append-nil (blobs_of h)))
    whole.blobs

-- a plan that changes nothing
pub idle_keeps : (h : History) (p : Plan) → IsWholeMail h → p.blobs ≡ [] → p.edits ≡ [] → Keeps h p
idle_keeps h p whole blobs edits = blobs_keep h p whole edits (few_without h p whole blobs)

-- With the commit of a plan that keeps, a valid account is valid, if its edits stay within the
-- limit.
pub grown_whole : (h : History) (p : Plan) (stamp : Stamp) → IsWholeMail h → Keeps h p
    → IsWithin edit_bytes h p.edits → IsWholeMail (grown h (Committed (commit_of p stamp)))
grown_whole h p stamp w keep within =
    let entry = Committed (commit_of p stamp) in
    let g = grown h entry in
    let after = after_edits (content_of h) p.edits in
    let content : content_of g ≡ after = content_of-grown h entry in
    let blobs : blobs_of g ≡ blobs_of h ++ p.blobs = blobs_of-grown h entry in
    let edits : edit_bytes (edits_of g) ≡ edit_bytes (edits_of h) + edit_bytes p.edits =
    ap edit_bytes (edits_of-grown h entry) ∙ edit_bytes-append (edits_of h) p.edits in
    let last : end_of g ≡ end_of h + length p.edits = end_of-grown h entry in
    let next : NextAtMost ((end_of h + 1) + length p.edits) after =
    NextAtMost-after_edits p.edits (end_of h + 1) (content_of h) keep.fits w.next in
    let same : (end_of h + 1) + length p.edits ≡ end_of g + 1 = omega (arith, last) in
    record {
      founded = IsFounded-grown_by h (entry ∷ []) w.founded;
      sound = IsSound-committed h (commit_of p stamp) w.founded w.sound keep.fits keep.threads;
      tidy = subst IsTidy (sym content) keep.tidy;
      messages =
          subst (λ (c : Content). AllByRecursion (HasMessage summary (blobs_of g)) c.emails)
          (sym content)
          (subst (λ (bs : List (List ℕ)). AllByRecursion (HasMessage summary bs) after.emails)
          (sym blobs)
          keep.messages);
      blobs = subst AreBlobsFew (sym blobs) keep.blobs;
      limit = omega (arith, edits, within);
      next =
          subst (λ (c : Content). NextAtMost (end_of g + 1) c) (sym content)
          (subst (λ n. NextAtMost n after) same next);
    }
