-- The views at a position are those at the state of the kind there.
use Rattle.std.proofs.Common.{◌≡◌, ℕ, Bool, List, ap}
use Rattle.jm_base.specs.declared.identifiers.Kind.{Kind}
use Rattle.jm_base.specs.declared.identifiers.Kind.TheVariants.{Mailbox as OfMailbox, Email as OfEmail, Thread as OfThread}
use Rattle.mail_records.specs.Contents.{Content, SameRecords}
use Rattle.mail_records.specs.Histories.{blobs_of, content_at}
use Rattle.mail_records.specs.States.{state_at}
use Rattle.mail_records.specs.declared.records.Email.{Email}
use Rattle.mail_records.specs.declared.records.Mailbox.{Mailbox}
use Rattle.mail_records.specs.declared.records.Thread.{Thread}
use Rattle.mail_records.proofs.Reached.{state_at-most, state_at-state_at}
use Rattle.mail_records.proofs.Settled.{SameRecords-same_state}
use Rattle.mail_view.specs.CachedViews.{views_in}
use Rattle.mail_view.specs.Laws.{StatesDecide}

same_views : (kind : Kind) (c d : Content) (blobs : List (List ℕ)) (read_only : Bool) → SameRecords kind c d → views_in kind c blobs read_only ≡ views_in kind d blobs read_only
same_views OfMailbox c d blobs read_only same = ap (λ (rows : List Mailbox). views_in OfMailbox (record d { mailboxes = rows }) blobs read_only) same
same_views OfEmail c d blobs read_only same = ap (λ (rows : List Email). views_in OfEmail (record d { emails = rows }) blobs read_only) same
same_views OfThread c d blobs read_only same = ap (λ (rows : List Thread). views_in OfThread (record d { threads = rows }) blobs read_only) same

pub states_decide : StatesDecide
states_decide kind h read_only k floors low =
    same_views kind (content_at h k) (content_at h (state_at h kind k)) (blobs_of h) read_only
    (SameRecords-same_state h kind (state_at h kind k) k floors (state_at-most h kind k floors low) (state_at-state_at h kind k floors))
