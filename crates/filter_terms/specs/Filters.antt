-- What a filter matches (RFC 8620, 5.5): null matches all; a condition object matches where all its
-- members do; an operator joins its conditions, of which each is a filter.
use Rattle.std.specs.Prelude.{ℕ, List, [], ◌∷◌, Bool, true, false, ◌&&◌, not, cond, Option, Some, None, codes, bytes_eq}
use Rattle.std.specs.List.{list_any, list_all}
use Rattle.jm_base.specs.declared.identifiers.Kind.{Kind}
use Rattle.jm_base.specs.declared.identifiers.Kind.TheVariants.{Mailbox as OfMailboxes, Email as OfEmails}
use Rattle.jm_json.specs.Tree.{Tree, null, boolean, number, text, list, object, Trees, no_trees, tree, Fields, no_fields, field}
use Rattle.jm_json.specs.Find.{find, pairs_of}
use Rattle.mail_records.specs.Contents.{mailbox_number}
use Rattle.mail_records.specs.Contents.{Content}
use Rattle.mail_records.specs.Tables.{lookup}
use Rattle.method_args.specs.Arguments.{passes}
use Rattle.filter_terms.specs.EmailTerms.{email_term_holds}
use Rattle.filter_terms.specs.MailboxTerms.{mailbox_term_holds}
use Rattle.filter_terms.specs.Names.{operator_of, term_of}
use Rattle.filter_terms.specs.Targets.{Target, AnEmail, AMailbox, email_in_thread_at}
use Rattle.filter_terms.specs.Texts.{MessageTexts}
use Rattle.filter_terms.specs.declared.terms.Operator.{Operator}
use Rattle.filter_terms.specs.declared.terms.Operator.TheVariants.{And, Or, Not}
use Rattle.filter_terms.specs.declared.terms.Term.{Term}
use Rattle.filter_terms.specs.declared.terms.Term.TheVariants.{OfEmail, OfMailbox}

-- a condition matches no record of the other kind, of which it is never asked
abbrev pub term_holds : Target → Term → Tree → Bool
term_holds (AnEmail texts s) (OfEmail term) t = email_term_holds texts s term t
term_holds (AnEmail texts s) (OfMailbox term) t = false
term_holds (AMailbox m) (OfEmail term) t = false
term_holds (AMailbox m) (OfMailbox term) t = mailbox_term_holds m term t

-- a member with which no filter is read matches all
abbrev pub if_term_holds : Target → Option Term → Tree → Bool
if_term_holds x None t = true
if_term_holds x (Some term) t = term_holds x term t

-- the member with this name and value
abbrev pub member_holds : Kind → Target → List ℕ → Tree → Bool
member_holds kind x k t = if_term_holds x (term_of kind k) t

-- all members of a condition object
abbrev pub members_hold : Kind → Target → Fields → Bool
members_hold kind x no_fields = true
members_hold kind x (field k t fs) = member_holds kind x k t && members_hold kind x fs

-- whether an operator matches, by whether its conditions do: NOT matches where none does
abbrev pub joined : Operator → List Bool → Bool
joined And bs = list_all (λ b. b) bs
joined Or bs = list_any (λ b. b) bs
joined Not bs = not (list_any (λ b. b) bs)

abbrev pub if_joined : Option Operator → List Bool → Bool
if_joined None bs = true
if_joined (Some operator) bs = joined operator bs

-- an object with `operator` is an operator, and every other a condition object
abbrev pub by_operator : Option Tree → List Bool → Bool → Bool
by_operator None conditions members = members
by_operator (Some operator) conditions members = if_joined (operator_of operator) conditions

abbrev pub operator_in : List (List ℕ × Tree) → Option Tree
operator_in ms = find (codes "operator") ms

abbrev mutual
  pub holds : Kind → Target → Tree → Bool
  holds kind x null = true
  holds kind x (boolean b) = true
  holds kind x (number z) = true
  holds kind x (text s) = true
  holds kind x (list ts) = true
  holds kind x (object fs) =
      by_operator (operator_in (pairs_of fs)) (conditions_match kind x fs) (members_hold kind x fs)

  -- whether each filter of the list `conditions` matches
  pub conditions_match : Kind → Target → Fields → List Bool
  conditions_match kind x no_fields = []
  conditions_match kind x (field k t fs) =
      cond (bytes_eq k (codes "conditions")) (list_matches kind x t) (conditions_match kind x fs)

  pub list_matches : Kind → Target → Tree → List Bool
  list_matches kind x null = []
  list_matches kind x (boolean b) = []
  list_matches kind x (number z) = []
  list_matches kind x (text s) = []
  list_matches kind x (list ts) = items_match kind x ts
  list_matches kind x (object fs) = []

  pub items_match : Kind → Target → Trees → List Bool
  items_match kind x no_trees = []
  items_match kind x (tree t ts) = holds kind x t ∷ items_match kind x ts

-- The filter matches the record of this number: it is there, and the filter holds of it. Of emails
-- it looks at the email, at the emails of its thread and at their texts alone.
abbrev pub matches : Kind → Tree → Content → (ℕ → MessageTexts) → ℕ → Bool
matches OfMailboxes t c texts n =
    passes (λ m. holds OfMailboxes (AMailbox m) t) (lookup mailbox_number n c.mailboxes)
matches OfEmails t c texts n =
    passes (λ s. holds OfEmails (AnEmail texts s) t) (email_in_thread_at c.emails n)
matches _ t c texts n = false
