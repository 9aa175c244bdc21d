-- Laws of orders.
use Rattle.std.specs.Prelude.{◌≡◌, ◌≢◌, ℕ, true, false}
use Rattle.jm_base.specs.declared.identifiers.Kind.{Kind}
use Rattle.jm_base.specs.declared.identifiers.Kind.TheVariants.{Mailbox as OfMailboxes, Email as OfEmails}
use Rattle.jm_json.specs.Tree.{Tree}
use Rattle.mail_records.specs.Contents.{Content, mailbox_at}
use Rattle.filter_terms.specs.Laws.{SameEmailInThread}
use Rattle.sort_terms.specs.Orders.{is_before, is_wide}

abbrev pub NeverBeforeItself : Type 0
NeverBeforeItself =
    (kind : Kind) (t : Tree) (c : Content) (a : ℕ) → is_before kind t c a a ≡ false

abbrev pub BeforeGoesOn : Type 0
BeforeGoesOn =
    (kind : Kind) (t : Tree) (c : Content) (a b d : ℕ) → is_before kind t c a b ≡ true
    → is_before kind t c b d ≡ true → is_before kind t c a d ≡ true

abbrev pub OneIsBefore : Type 0
OneIsBefore =
    (kind : Kind) (t : Tree) (c : Content) (a b : ℕ) → a ≢ b → is_before kind t c a b ≡ false
    → is_before kind t c b a ≡ true

abbrev pub EmailsDecide : Type 0
EmailsDecide =
    (t : Tree) (c d : Content) (a b : ℕ) → SameEmailInThread (is_wide OfEmails t) c d a
    → SameEmailInThread (is_wide OfEmails t) c d b
    → is_before OfEmails t c a b ≡ is_before OfEmails t d a b

abbrev pub MailboxesDecide : Type 0
MailboxesDecide =
    (t : Tree) (c d : Content) (a b : ℕ) → mailbox_at c a ≡ mailbox_at d a
    → mailbox_at c b ≡ mailbox_at d b
    → is_before OfMailboxes t c a b ≡ is_before OfMailboxes t d a b
