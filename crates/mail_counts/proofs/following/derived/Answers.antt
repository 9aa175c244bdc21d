use Rattle.std.proofs.Common.{◌≡◌, ◌++◌, List, sym, subst, ◌∙◌}
use Rattle.std.specs.List.{AllByRecursion}
use Rattle.mail_records.specs.Contents.{AreTables, email_number, mailbox_number, thread_number}
use Rattle.mail_records.specs.Edits.{AllFit, IsSmall, after_edits}
use Rattle.mail_records.specs.declared.edits.Edit.{Edit}
use Rattle.mail_records.proofs.Growth.{AreTables-after_edits}
use Rattle.mail_counts.specs.CountsFlag.{AreCountsFlagsRight}
use Rattle.mail_counts.specs.Derived.{AreCounted, LeavesEmails}
use Rattle.mail_counts.specs.Tidy.{AreThreadsTidy, IsTidy}
use Rattle.mail_counts.specs.Touched.{touched_threads}
use Rattle.mail_counts.proofs.Found.{table_at}
use Rattle.mail_counts.proofs.Followed.{derived_flags, derived_leaves, derived_small}
use Rattle.mail_counts.proofs.Kept.{AreCounted-after_edits, AreThreadsTidy-after_edits, and_none, of_mailboxes_leave}
use Rattle.mail_counts.proofs.Nothing.{none_derived}
use Rattle.mail_counts.proofs.TidyAgain.{made_tidy}
use Rattle.mail_counts.proofs.following.derived.Goals as goal

pub returns-clause-more : goal.returns-clause-more
returns-clause-more c = c.from_vec.ensures ∙ c.in_ok-more.ensures

pub returns-clause-tidy : goal.returns-clause-tidy
returns-clause-tidy c =
    λ tidy leave.
    subst (λ (m : List Edit). IsTidy (after_edits c.args.before.now.content (c.args.edits.now ++ m))) (sym (returns-clause-more c))
    (made_tidy c.args.before.now.content c.args.edits.now tidy leave).1

pub returns-clause-fit : goal.returns-clause-fit
returns-clause-fit c =
    λ tidy leave.
    subst (λ (m : List Edit). AllFit c.args.before.now.content (c.args.edits.now ++ m)) (sym (returns-clause-more c))
    (made_tidy c.args.before.now.content c.args.edits.now tidy leave).0

pub returns-clause-small : goal.returns-clause-small
returns-clause-small c =
    let before = c.args.before.now.content in
    subst (AllByRecursion IsSmall) (sym (returns-clause-more c))
    (derived_small before (after_edits before c.args.edits.now) (touched_threads c.args.edits.now))

pub returns-clause-emails : goal.returns-clause-emails
returns-clause-emails c =
    let before = c.args.before.now.content in
    subst (AllByRecursion LeavesEmails) (sym (returns-clause-more c))
    (derived_leaves before (after_edits before c.args.edits.now) (touched_threads c.args.edits.now))

pub returns-clause-flags : goal.returns-clause-flags
returns-clause-flags c =
    let before = c.args.before.now.content in
    let edits = c.args.edits.now in
    let tables : AreTables before =
    record {
      mailboxes = table_at mailbox_number _ _ c.mailboxes-mailboxes.ensures.items c.mailboxes-mailboxes.ensures.table;
      emails = table_at email_number _ _ c.emails-emails.ensures.items c.emails-emails.ensures.table;
      threads = table_at thread_number _ _ c.threads-threads.ensures.items c.threads-threads.ensures.table;
    } in
    subst (AreCountsFlagsRight (after_edits before edits)) (sym (returns-clause-more c))
    (derived_flags before (after_edits before edits) (touched_threads edits) (AreTables-after_edits edits before tables).mailboxes)

pub returns-clause-none : goal.returns-clause-none
returns-clause-none c = λ leave. returns-clause-more c ∙ none_derived c.args.before.now.content c.args.edits.now leave

pub returns-clause-counts : goal.returns-clause-counts
returns-clause-counts c =
    λ fit leave tidy keep.
    let before = c.args.before.now.content in
    let edits = c.args.edits.now in
    and_none AreCounted before edits _ (returns-clause-more c ∙ none_derived before edits leave)
    (AreCounted-after_edits edits before fit leave tidy keep)

pub returns-clause-threads : goal.returns-clause-threads
returns-clause-threads c =
    λ of tidy.
    let before = c.args.before.now.content in
    let edits = c.args.edits.now in
    and_none AreThreadsTidy before edits _ (returns-clause-more c ∙ none_derived before edits (of_mailboxes_leave edits of))
    (AreThreadsTidy-after_edits edits before of tidy)
