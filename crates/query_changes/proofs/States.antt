-- The list of a query at a position is that at the state of its kind there.
use Rattle.std.proofs.Common.{◌≡◌, ℕ, List, ap, refl}
use Rattle.jm_base.specs.declared.identifiers.Kind.{Kind}
use Rattle.jm_base.specs.declared.identifiers.Kind.TheVariants.{Mailbox as OfMailboxes, Email as OfEmails, Thread as OfThreads}
use Rattle.mail_records.specs.Contents.{Content, SameRecords}
use Rattle.mail_records.specs.Histories.{content_at}
use Rattle.mail_records.specs.States.{state_at}
use Rattle.mail_records.specs.declared.records.Email.{Email}
use Rattle.mail_records.specs.declared.records.Mailbox.{Mailbox}
use Rattle.mail_records.proofs.Reached.{state_at-most, state_at-state_at}
use Rattle.mail_records.proofs.Settled.{SameRecords-same_state}
use Rattle.filter_terms.specs.Texts.{MessageTexts}
use Rattle.query_engine.specs.Queries.{result_list}
use Rattle.query_engine.specs.Views.{QueryTree}
use Rattle.query_changes.specs.Laws.{StatesDecide}

-- a query with another kind
abbrev of_kind : Kind → QueryTree → QueryTree
of_kind kind q = record q { kind = kind }

-- a query looks at the records of its kind alone
pub same_list : (kind : Kind) (q : QueryTree) (c d : Content) (texts : ℕ → MessageTexts) → SameRecords kind c d → result_list (of_kind kind q) c texts ≡ result_list (of_kind kind q) d texts
same_list OfEmails q c d texts same = ap (λ (es : List Email). result_list (of_kind OfEmails q) (record d { emails = es }) texts) same
same_list OfMailboxes q c d texts same = ap (λ (ms : List Mailbox). result_list (of_kind OfMailboxes q) (record d { mailboxes = ms }) texts) same
same_list OfThreads q c d texts same = refl

pub states_decide : StatesDecide
states_decide h q texts k floors low =
    same_list q.kind q (content_at h k) (content_at h (state_at h q.kind k)) texts
    (SameRecords-same_state h q.kind (state_at h q.kind k) k floors (state_at-most h q.kind k floors low) (state_at-state_at h q.kind k floors))
