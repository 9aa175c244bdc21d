-- Which mailboxes each condition of Mailbox/query matches (RFC 8621, 2.3). With a value of a wrong
-- kind, with which no filter is read, it matches none.
use Rattle.std.specs.Prelude.{ℕ, List, Bool, not, bytes_eq, Option, Some, None, is_some}
use Rattle.jm_json.specs.Tree.{Tree}
use Rattle.jm_json.specs.Find.{as_text}
use Rattle.mail_records.specs.declared.records.Mailbox.{Mailbox}
use Rattle.method_args.specs.Arguments.{as_flag, passes}
use Rattle.filter_terms.specs.Contains.{contains}
use Rattle.filter_terms.specs.EmailTerms.{is_mailbox_id, is_same}
use Rattle.filter_terms.specs.Values.{as_nullable}
use Rattle.filter_terms.specs.declared.terms.MailboxTerm.{MailboxTerm}
use Rattle.filter_terms.specs.declared.terms.MailboxTerm.TheVariants.{ParentId, Name, Role, HasAnyRole, IsSubscribed}

-- the parent is the mailbox with this id; with null there is no parent
abbrev pub has_parent : Option (List ℕ) → Option ℕ → Bool
has_parent None parent = not (is_some parent)
has_parent (Some id) parent = passes (λ n. is_mailbox_id id n) parent

-- the role is this one; with null there is no role
abbrev pub has_role : Option (List ℕ) → Option (List ℕ) → Bool
has_role None role = not (is_some role)
has_role (Some wanted) role = passes (λ r. bytes_eq r wanted) role

abbrev pub mailbox_term_holds : Mailbox → MailboxTerm → Tree → Bool
mailbox_term_holds m ParentId t = passes (λ id. has_parent id m.parent) (as_nullable t)
mailbox_term_holds m Name t = passes (λ needle. contains needle m.name) (as_text t)
mailbox_term_holds m Role t = passes (λ role. has_role role m.role) (as_nullable t)
mailbox_term_holds m HasAnyRole t = passes (λ b. is_same b (is_some m.role)) (as_flag t)
mailbox_term_holds m IsSubscribed t = passes (λ b. is_same b m.subscribed) (as_flag t)
