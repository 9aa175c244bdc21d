-- Laws of filters.
use Rattle.std.specs.Prelude.{◌≡◌, ℕ, List, Bool, true, codes, map, Some}
use Rattle.std.specs.List.{AllByRecursion}
use Rattle.jm_base.specs.declared.identifiers.Kind.{Kind}
use Rattle.jm_base.specs.declared.identifiers.Kind.TheVariants.{Mailbox as OfMailboxes, Email as OfEmails}
use Rattle.jm_json.specs.Tree.{Tree, text, list, object, no_fields, field, trees_of}
use Rattle.mail_records.specs.Contents.{Content, email_at, mailbox_at}
use Rattle.mail_records.specs.declared.records.Email.{Email}
use Rattle.filter_terms.specs.Filters.{holds, matches}
use Rattle.filter_terms.specs.Targets.{AnEmail, EmailInThread, Target, of_thread}
use Rattle.filter_terms.specs.Texts.{MessageTexts}
use Rattle.filter_terms.specs.ThreadScope.{is_wide}

-- the operator of this name over these filters
abbrev pub operation : List ℕ → List Tree → Tree
operation name ts =
    object (field (codes "conditions") (list (trees_of ts))
    (field (codes "operator") (text name) no_fields))

-- whether each filter matches
abbrev pub each_matches : Kind → Target → List Tree → List Bool
each_matches kind x ts = map (λ t. holds kind x t) ts

-- Two contents are equal in what a filter looks at of an email: in the email itself, and in the
-- emails of its thread if the filter looks at them.
pub record SameEmailInThread (wide : Bool) (c d : Content) (n : ℕ) : Type 0 where
  pub email : email_at c n ≡ email_at d n
  pub thread :
      wide ≡ true → (e : Email) → email_at c n ≡ Some e
      → of_thread e.thread c.emails ≡ of_thread e.thread d.emails

abbrev pub EmailsDecide : Type 0
EmailsDecide =
    (t : Tree) (c d : Content) (texts : ℕ → MessageTexts) (n : ℕ)
    → SameEmailInThread (is_wide OfEmails t) c d n
    → matches OfEmails t c texts n ≡ matches OfEmails t d texts n

abbrev pub MailboxesDecide : Type 0
MailboxesDecide =
    (t : Tree) (c d : Content) (texts : ℕ → MessageTexts) (n : ℕ)
    → mailbox_at c n ≡ mailbox_at d n
    → matches OfMailboxes t c texts n ≡ matches OfMailboxes t d texts n

-- two stores have the same texts for the message of each of these emails
abbrev pub HaveSameTexts : (ℕ → MessageTexts) → (ℕ → MessageTexts) → List Email → Type 0
HaveSameTexts texts others emails =
    AllByRecursion (λ (e : Email). texts e.blob ≡ others e.blob) emails

-- What a filter matches of an email depends, of all texts, on those of the email's own message.
abbrev pub OwnTextsDecide : Type 0
OwnTextsDecide =
    (kind : Kind) (t : Tree) (s : EmailInThread) (texts others : ℕ → MessageTexts)
    → texts s.email.blob ≡ others s.email.blob
    → holds kind (AnEmail texts s) t ≡ holds kind (AnEmail others s) t

-- The same of the record of a number. A mailbox has no texts.
abbrev pub TextsOfRecordDecide : Type 0
TextsOfRecordDecide =
    (kind : Kind) (t : Tree) (c : Content) (texts others : ℕ → MessageTexts) (n : ℕ)
    → ((e : Email) → email_at c n ≡ Some e → texts e.blob ≡ others e.blob)
    → matches kind t c texts n ≡ matches kind t c others n
