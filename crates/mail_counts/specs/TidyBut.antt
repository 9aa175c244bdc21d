-- What edits of emails and mailboxes leave of a tidy content until threads and counts follow.
use Rattle.std.specs.Prelude.{◌≡◌, ℕ, ◌+◌, List, [], ◌∷◌, ◌++◌, filter, not, false, is_some, ⊤}
use Rattle.std.specs.List.{AllByRecursion, IsDistinct}
use Rattle.std.specs.Option.{ForSome}
use Rattle.mail_records.specs.Contents.{Content, thread_at, AreTables, AreNumbered}
use Rattle.mail_records.specs.Edits.{kind_of, after_edits, AllFit, AllKeepThread}
use Rattle.mail_records.specs.States.{is_kind}
use Rattle.mail_records.specs.declared.records.Mailbox.{Mailbox}
use Rattle.mail_records.specs.declared.edits.Edit.{Edit}
use Rattle.jm_base.specs.declared.identifiers.Kind.TheVariants.{Thread as OfThread}
use Rattle.mail_counts.specs.Derived.{AllKeepCounts}
use Rattle.mail_counts.specs.DerivedEdits.{derived_edits}
use Rattle.mail_counts.specs.Tidy.{IsTidy, IsThere, IsWellFormed, HasRoot, AreEmailsTidy, share_name, share_role}
use Rattle.mail_counts.specs.Touched.{touched_threads}

-- a mailbox in its content, whatever its counts are: its parent is there, and its chain of parents
-- ends
pub record IsPlacedBelow (c : Content) (m : Mailbox) : Type 0 where
  pub parent : ForSome m.parent (IsThere c)
  pub root : HasRoot c m.parent

pub record AreMailboxesTidyButCounts (c : Content) : Type 0 where
  pub forms : AllByRecursion IsWellFormed c.mailboxes
  pub placed : AllByRecursion (IsPlacedBelow c) c.mailboxes
  pub names : IsDistinct share_name c.mailboxes
  pub roles : IsDistinct share_role c.mailboxes

-- all that a tidy content is, but for threads and counts
pub record IsTidyButThreadsAndCounts (c : Content) : Type 0 where
  pub tables : AreTables c
  pub numbered : AreNumbered c
  pub mailboxes : AreMailboxesTidyButCounts c
  pub emails : AreEmailsTidy c

-- the edit neither puts nor drops a thread
abbrev pub LeavesThreads : Edit → Type 0
LeavesThreads e = is_kind OfThread (kind_of e) ≡ false

-- the threads that the edits name and that are not there
abbrev pub new_threads : Content → List Edit → List ℕ
new_threads c edits = filter (λ t. not (is_some (thread_at c t))) (touched_threads edits)

-- the numbers are this one and those after it, with none left out
abbrev pub AreInTurn : ℕ → List ℕ → Type 0
AreInTurn n [] = ⊤
AreInTurn n (x ∷ xs) = (x ≡ n) × AreInTurn (n + 1) xs

-- the new threads have the next numbers, in order
abbrev pub AreNewThreadsNext : Content → List Edit → Type 0
AreNewThreadsNext c edits = AreInTurn c.next_thread (new_threads c edits)

-- Edits of emails and mailboxes that a tidy content allows: each fits the content before it, keeps
-- the thread of its email and keeps the counts of its mailbox, none is of a thread, new threads
-- have the next numbers, and what they leave is tidy but for threads and counts.
pub record LeaveTidyButThreadsAndCounts (c : Content) (edits : List Edit) : Type 0 where
  pub fit : AllFit c edits
  pub keep_threads : AllKeepThread c edits
  pub keep_counts : AllKeepCounts c edits
  pub leave_threads : AllByRecursion LeavesThreads edits
  pub new_threads : AreNewThreadsNext c edits
  pub after : IsTidyButThreadsAndCounts (after_edits c edits)

-- With the edits that follow from them, such edits fit a tidy content and leave a tidy one.
abbrev pub DerivedEditsMakeTidy : Content → List Edit → Type 0
DerivedEditsMakeTidy c edits =
    AllFit c (edits ++ derived_edits c edits)
    × IsTidy (after_edits c (edits ++ derived_edits c edits))
