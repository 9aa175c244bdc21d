-- Laws of queries.
use Rattle.std.specs.Prelude.{◌≡◌, ℕ, true, false, List, []}
use Rattle.jm_base.specs.declared.identifiers.Kind.TheVariants.{Mailbox as OfMailboxes, Email as OfEmails}
use Rattle.mail_records.specs.Contents.{Content, email_number, mailbox_at}
use Rattle.mail_records.specs.Tables.{IsTable}
use Rattle.filter_terms.specs.Laws.{SameEmailInThread}
use Rattle.filter_terms.specs.Texts.{MessageTexts}
use Rattle.query_engine.specs.Queries.{IsResult, is_wide, result_list, shows}
use Rattle.query_engine.specs.Threads.{first_of_threads}
use Rattle.query_engine.specs.Views.{QueryTree}

abbrev pub IsTheResult : Type 0
IsTheResult = (q : QueryTree) (c : Content) (texts : ℕ → MessageTexts)
    → IsResult q c texts (result_list q c texts)

abbrev pub ThereIsOneResult : Type 0
ThereIsOneResult =
    (q : QueryTree) (c : Content) (texts : ℕ → MessageTexts) (list : List ℕ)
    → IsResult q c texts list → list ≡ result_list q c texts

-- To collapse threads is to take each email out of the list that is in the same thread as an
-- earlier one (RFC 8621, 4.4.3).
abbrev pub CollapsingTakesOut : Type 0
CollapsingTakesOut =
    (q : QueryTree) (c : Content) (texts : ℕ → MessageTexts) → q.kind ≡ OfEmails
    → IsTable email_number c.emails
    → result_list (record q { collapse = true }) c texts
    ≡ first_of_threads c [] (result_list (record q { collapse = false }) c texts)

abbrev pub EmailsDecide : Type 0
EmailsDecide =
    (q : QueryTree) (c d : Content) (texts : ℕ → MessageTexts) (n : ℕ) → q.kind ≡ OfEmails
    → SameEmailInThread (is_wide q) c d n → shows q c texts n ≡ shows q d texts n

abbrev pub MailboxesDecide : Type 0
MailboxesDecide =
    (q : QueryTree) (c d : Content) (texts : ℕ → MessageTexts) (n : ℕ) → q.kind ≡ OfMailboxes
    → mailbox_at c n ≡ mailbox_at d n → shows q c texts n ≡ shows q d texts n
