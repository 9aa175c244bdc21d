-- The conditions and operators of filters by their names (RFC 8620, 5.5; RFC 8621, 2.3 and 4.4.1).
use Rattle.std.specs.Prelude.{ℕ, List, Option, Some, None, cond, codes, bytes_eq, option_map, option_and_then}
use Rattle.std.specs.Option.{option_or}
use Rattle.jm_base.specs.declared.identifiers.Kind.{Kind}
use Rattle.jm_base.specs.declared.identifiers.Kind.TheVariants.{Mailbox, Email, Thread}
use Rattle.jm_json.specs.Tree.{Tree}
use Rattle.jm_json.specs.Find.{as_text}
use Rattle.filter_terms.specs.declared.texts.Place.{Place}
use Rattle.filter_terms.specs.declared.texts.Place.TheVariants.{Text, From, To, Cc, Bcc, Subject, Body}
use Rattle.filter_terms.specs.declared.terms.KeywordTest.{KeywordTest}
use Rattle.filter_terms.specs.declared.terms.KeywordTest.TheVariants.{AllInThread, SomeInThread, NoneInThread, Has, HasNot}
use Rattle.filter_terms.specs.declared.terms.EmailTerm.{EmailTerm}
use Rattle.filter_terms.specs.declared.terms.EmailTerm.TheVariants.{InMailbox, InMailboxOtherThan, Before, After, MinSize, MaxSize, Keyword, HasAttachment, Contains, Header}
use Rattle.filter_terms.specs.declared.terms.MailboxTerm.{MailboxTerm}
use Rattle.filter_terms.specs.declared.terms.MailboxTerm.TheVariants.{ParentId, Name, Role, HasAnyRole, IsSubscribed}
use Rattle.filter_terms.specs.declared.terms.Term.{Term}
use Rattle.filter_terms.specs.declared.terms.Term.TheVariants.{OfEmail, OfMailbox}
use Rattle.filter_terms.specs.declared.terms.Operator.{Operator}
use Rattle.filter_terms.specs.declared.terms.Operator.TheVariants.{And, Or, Not}

-- the conditions on a keyword
abbrev pub keyword_test : List ℕ → Option KeywordTest
keyword_test k =
    cond (bytes_eq k (codes "allInThreadHaveKeyword")) (Some AllInThread)
    (cond (bytes_eq k (codes "someInThreadHaveKeyword")) (Some SomeInThread)
    (cond (bytes_eq k (codes "noneInThreadHaveKeyword")) (Some NoneInThread)
    (cond (bytes_eq k (codes "hasKeyword")) (Some Has)
    (cond (bytes_eq k (codes "notKeyword")) (Some HasNot) None))))

-- the conditions on a text of the message, each named by where it looks
abbrev pub place_named : List ℕ → Option Place
place_named k =
    cond (bytes_eq k (codes "text")) (Some Text)
    (cond (bytes_eq k (codes "from")) (Some From)
    (cond (bytes_eq k (codes "to")) (Some To)
    (cond (bytes_eq k (codes "cc")) (Some Cc)
    (cond (bytes_eq k (codes "bcc")) (Some Bcc)
    (cond (bytes_eq k (codes "subject")) (Some Subject)
    (cond (bytes_eq k (codes "body")) (Some Body) None))))))

-- the other conditions on an email
abbrev pub other_term : List ℕ → Option EmailTerm
other_term k =
    cond (bytes_eq k (codes "inMailbox")) (Some InMailbox)
    (cond (bytes_eq k (codes "inMailboxOtherThan")) (Some InMailboxOtherThan)
    (cond (bytes_eq k (codes "before")) (Some Before)
    (cond (bytes_eq k (codes "after")) (Some After)
    (cond (bytes_eq k (codes "minSize")) (Some MinSize)
    (cond (bytes_eq k (codes "maxSize")) (Some MaxSize)
    (cond (bytes_eq k (codes "hasAttachment")) (Some HasAttachment)
    (cond (bytes_eq k (codes "header")) (Some Header) None)))))))

-- the condition of Email/query with this name (RFC 8621, 4.4.1)
abbrev pub email_term : List ℕ → Option EmailTerm
email_term k =
    option_or (option_map (λ test. Keyword test) (keyword_test k))
    (option_or (option_map (λ place. Contains place) (place_named k)) (other_term k))

-- the condition of Mailbox/query with this name (RFC 8621, 2.3)
abbrev pub mailbox_term : List ℕ → Option MailboxTerm
mailbox_term k =
    cond (bytes_eq k (codes "parentId")) (Some ParentId)
    (cond (bytes_eq k (codes "name")) (Some Name)
    (cond (bytes_eq k (codes "role")) (Some Role)
    (cond (bytes_eq k (codes "hasAnyRole")) (Some HasAnyRole)
    (cond (bytes_eq k (codes "isSubscribed")) (Some IsSubscribed) None))))

-- the condition with this name in a query of the kind; threads have no query
abbrev pub term_of : Kind → List ℕ → Option Term
term_of Email k = option_map (λ term. OfEmail term) (email_term k)
term_of Mailbox k = option_map (λ term. OfMailbox term) (mailbox_term k)
term_of Thread k = None

abbrev pub operator_named : List ℕ → Option Operator
operator_named k =
    cond (bytes_eq k (codes "AND")) (Some And)
    (cond (bytes_eq k (codes "OR")) (Some Or)
    (cond (bytes_eq k (codes "NOT")) (Some Not) None))

-- the operator that a value names
abbrev pub operator_of : Tree → Option Operator
operator_of t = option_and_then operator_named (as_text t)
