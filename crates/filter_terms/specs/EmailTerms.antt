-- Which emails each condition of Email/query matches (RFC 8621, 4.4.1). With a value of a wrong
-- kind, with which no filter is read, it matches none.
use Rattle.std.specs.Prelude.{ℕ, List, Bool, true, false, ◌&&◌, not, nat_le, nat_lt, int_le, int_lt, bytes_eq}
use Rattle.std.specs.List.{list_any, list_all}
use Rattle.std.specs.Str.{str_to_ascii_lowercase}
use Rattle.jm_base.specs.declared.identifiers.TheConstants.{NUMBER_LIMIT}
use Rattle.jm_json.specs.Tree.{Tree}
use Rattle.jm_json.specs.Find.{as_text}
use Rattle.mail_counts.specs.Counts.{has_keyword}
use Rattle.mail_counts.specs.Views.{mailbox_id}
use Rattle.mail_records.specs.declared.records.Email.{Email}
use Rattle.method_args.specs.Arguments.{as_count, as_flag, as_strings, passes}
use Rattle.filter_terms.specs.Targets.{EmailInThread}
use Rattle.filter_terms.specs.Texts.{MessageTexts, has_field, has_text}
use Rattle.filter_terms.specs.Values.{FieldTest, as_date, as_field_test}
use Rattle.filter_terms.specs.declared.terms.KeywordTest.{KeywordTest}
use Rattle.filter_terms.specs.declared.terms.KeywordTest.TheVariants.{AllInThread, SomeInThread, NoneInThread, Has, HasNot}
use Rattle.filter_terms.specs.declared.terms.EmailTerm.{EmailTerm}
use Rattle.filter_terms.specs.declared.terms.EmailTerm.TheVariants.{InMailbox, InMailboxOtherThan, Before, After, MinSize, MaxSize, Keyword, HasAttachment, Contains, Header}

-- the text is the id of the mailbox of this number; ids are of numbers from 1 and below
-- `NUMBER_LIMIT`
abbrev pub is_mailbox_id : List ℕ → ℕ → Bool
is_mailbox_id id m = nat_le 1 m && nat_lt m NUMBER_LIMIT && bytes_eq (mailbox_id m) id

-- the email is in the mailbox with this id
abbrev pub is_in_mailbox : List ℕ → Email → Bool
is_in_mailbox id e = list_any (λ m. is_mailbox_id id m) e.mailboxes

-- the email is in a mailbox with none of these ids
abbrev pub is_in_other : List (List ℕ) → Email → Bool
is_in_other ids e = list_any (λ m. not (list_any (λ id. is_mailbox_id id m) ids)) e.mailboxes

-- the email, or emails of its thread, have the keyword or not
abbrev pub keyword_holds : EmailInThread → KeywordTest → List ℕ → Bool
keyword_holds s AllInThread k = list_all (λ e. has_keyword k e) s.thread
keyword_holds s SomeInThread k = list_any (λ e. has_keyword k e) s.thread
keyword_holds s NoneInThread k = not (list_any (λ e. has_keyword k e) s.thread)
keyword_holds s Has k = has_keyword k s.email
keyword_holds s HasNot k = not (has_keyword k s.email)

-- both are true, or both are false
abbrev pub is_same : Bool → Bool → Bool
is_same true b = b
is_same false b = not b

abbrev pub field_holds : MessageTexts → FieldTest → Bool
field_holds m test = has_field m test.name test.needle

-- the condition with this value, of an email in a store whose blobs have these texts; keywords are
-- compared in lower case, in which they are kept
abbrev pub email_term_holds : (ℕ → MessageTexts) → EmailInThread → EmailTerm → Tree → Bool
email_term_holds texts s InMailbox t = passes (λ id. is_in_mailbox id s.email) (as_text t)
email_term_holds texts s InMailboxOtherThan t =
    passes (λ ids. is_in_other ids s.email) (as_strings t)
email_term_holds texts s Before t =
    passes (λ date. int_lt s.email.received.seconds date) (as_date t)
email_term_holds texts s After t =
    passes (λ date. int_le date s.email.received.seconds) (as_date t)
email_term_holds texts s MinSize t = passes (λ n. nat_le n s.email.size) (as_count t)
email_term_holds texts s MaxSize t = passes (λ n. nat_lt s.email.size n) (as_count t)
email_term_holds texts s (Keyword test) t =
    passes (λ k. keyword_holds s test (str_to_ascii_lowercase k)) (as_text t)
email_term_holds texts s HasAttachment t =
    passes (λ b. is_same b s.email.summary.attachment) (as_flag t)
email_term_holds texts s (Contains place) t =
    passes (λ needle. has_text (texts s.email.blob) place needle) (as_text t)
email_term_holds texts s Header t =
    passes (λ test. field_holds (texts s.email.blob) test) (as_field_test t)
