-- Which trees are filters, and the first fault of a tree that is none (RFC 8620, 5.5). A tree with
-- a value of a wrong kind is `invalidArguments`; then one with a condition that is not known is
-- `unsupportedFilter`. Members are looked at in byte order of their names, as they are kept.
use Rattle.std.specs.Prelude.{◌≡◌, ℕ, List, [], Bool, true, cond, Option, Some, None, codes, bytes_eq, is_some, ⊤}
use Rattle.std.specs.Option.{option_or}
use Rattle.jm_base.specs.declared.identifiers.Kind.{Kind}
use Rattle.jm_json.specs.Tree.{Tree, null, boolean, number, text, list, object, Trees, no_trees, tree, Fields, no_fields, field}
use Rattle.jm_json.specs.Find.{as_text, pairs_of}
use Rattle.method_args.specs.Arguments.{as_count, as_flag, as_strings}
use Rattle.filter_terms.specs.Filters.{operator_in}
use Rattle.filter_terms.specs.Names.{operator_of, term_of}
use Rattle.filter_terms.specs.Values.{as_date, as_field_test, as_nullable}
use Rattle.filter_terms.specs.declared.faults.TermFault.{TermFault}
use Rattle.filter_terms.specs.declared.faults.TermFault.TheVariants.{Invalid, Unsupported, NoMemory}
use Rattle.filter_terms.specs.declared.terms.EmailTerm.{EmailTerm}
use Rattle.filter_terms.specs.declared.terms.EmailTerm.TheVariants.{InMailbox, InMailboxOtherThan, Before, After, MinSize, MaxSize, Keyword, HasAttachment, Contains, Header}
use Rattle.filter_terms.specs.declared.terms.MailboxTerm.{MailboxTerm}
use Rattle.filter_terms.specs.declared.terms.MailboxTerm.TheVariants.{ParentId, Name, Role, HasAnyRole, IsSubscribed}
use Rattle.filter_terms.specs.declared.terms.Term.{Term}
use Rattle.filter_terms.specs.declared.terms.Term.TheVariants.{OfEmail, OfMailbox}

-- the value is of the kind that the condition takes (RFC 8621, 4.4.1)
abbrev pub fits_email : EmailTerm → Tree → Bool
fits_email InMailbox t = is_some (as_text t)
fits_email InMailboxOtherThan t = is_some (as_strings t)
fits_email Before t = is_some (as_date t)
fits_email After t = is_some (as_date t)
fits_email MinSize t = is_some (as_count t)
fits_email MaxSize t = is_some (as_count t)
fits_email (Keyword test) t = is_some (as_text t)
fits_email HasAttachment t = is_some (as_flag t)
fits_email (Contains place) t = is_some (as_text t)
fits_email Header t = is_some (as_field_test t)

-- the value is of the kind that the condition on mailboxes takes (RFC 8621, 2.3)
abbrev pub fits_mailbox : MailboxTerm → Tree → Bool
fits_mailbox ParentId t = is_some (as_nullable t)
fits_mailbox Name t = is_some (as_text t)
fits_mailbox Role t = is_some (as_nullable t)
fits_mailbox HasAnyRole t = is_some (as_flag t)
fits_mailbox IsSubscribed t = is_some (as_flag t)

-- a condition that is not known takes any value
abbrev pub fits : Option Term → Tree → Bool
fits None t = true
fits (Some (OfEmail term)) t = fits_email term t
fits (Some (OfMailbox term)) t = fits_mailbox term t

-- the name of a condition whose value is of a wrong kind
abbrev pub misfit : Kind → List ℕ → Tree → Option (List ℕ)
misfit kind k t = cond (fits (term_of kind k) t) None (Some k)

-- the name of the first such condition of a condition object
abbrev pub misfit_in : Kind → Fields → Option (List ℕ)
misfit_in kind no_fields = None
misfit_in kind (field k t fs) = option_or (misfit kind k t) (misfit_in kind fs)

-- the name `operator`, unless its value is AND, OR or NOT
abbrev pub invalid_operator : Tree → Option (List ℕ)
invalid_operator t = cond (is_some (operator_of t)) None (Some (codes "operator"))

-- the fault of an object by its operator, that of its conditions, and that of its members
abbrev pub object_fault : Option Tree → Option (List ℕ) → Option (List ℕ) → Option (List ℕ)
object_fault None conditions members = members
object_fault (Some operator) conditions members = option_or conditions (invalid_operator operator)

-- the name of the argument, condition or member at fault in a tree that is no filter, or nothing
-- where the tree is one; the name is empty where the tree is neither null nor an object
abbrev mutual
  pub invalid : Kind → Tree → Option (List ℕ)
  invalid kind null = None
  invalid kind (boolean b) = Some []
  invalid kind (number z) = Some []
  invalid kind (text s) = Some []
  invalid kind (list ts) = Some []
  invalid kind (object fs) =
      object_fault (operator_in (pairs_of fs)) (invalid_conditions kind fs) (misfit_in kind fs)

  pub invalid_conditions : Kind → Fields → Option (List ℕ)
  invalid_conditions kind no_fields = Some (codes "conditions")
  invalid_conditions kind (field k t fs) =
      cond (bytes_eq k (codes "conditions")) (invalid_list kind t) (invalid_conditions kind fs)

  pub invalid_list : Kind → Tree → Option (List ℕ)
  invalid_list kind null = Some (codes "conditions")
  invalid_list kind (boolean b) = Some (codes "conditions")
  invalid_list kind (number z) = Some (codes "conditions")
  invalid_list kind (text s) = Some (codes "conditions")
  invalid_list kind (list ts) = invalid_items kind ts
  invalid_list kind (object fs) = Some (codes "conditions")

  pub invalid_items : Kind → Trees → Option (List ℕ)
  invalid_items kind no_trees = None
  invalid_items kind (tree t ts) = option_or (invalid kind t) (invalid_items kind ts)

-- the first member of a condition object that is no condition of the kind
abbrev pub unknown_in : Kind → Fields → Option (List ℕ)
unknown_in kind no_fields = None
unknown_in kind (field k t fs) = cond (is_some (term_of kind k)) (unknown_in kind fs) (Some k)

-- an operator has the members `operator` and `conditions` alone
abbrev pub if_extra : List ℕ → Option (List ℕ)
if_extra k = cond (bytes_eq k (codes "operator")) None (Some k)

-- what is unsupported of an object by its operator, if it has one, that of an operator, and that of
-- a condition object
abbrev pub object_unsupported : Option Tree → Option (List ℕ) → Option (List ℕ) → Option (List ℕ)
object_unsupported None operator members = members
object_unsupported (Some t) operator members = operator

-- the name of the first condition or member that no filter of the kind has
abbrev mutual
  pub unsupported : Kind → Tree → Option (List ℕ)
  unsupported kind null = None
  unsupported kind (boolean b) = None
  unsupported kind (number z) = None
  unsupported kind (text s) = None
  unsupported kind (list ts) = None
  unsupported kind (object fs) =
      object_unsupported (operator_in (pairs_of fs)) (unsupported_members kind fs)
      (unknown_in kind fs)

  pub unsupported_members : Kind → Fields → Option (List ℕ)
  unsupported_members kind no_fields = None
  unsupported_members kind (field k t fs) =
      option_or (cond (bytes_eq k (codes "conditions")) (unsupported_list kind t) (if_extra k))
      (unsupported_members kind fs)

  pub unsupported_list : Kind → Tree → Option (List ℕ)
  unsupported_list kind null = None
  unsupported_list kind (boolean b) = None
  unsupported_list kind (number z) = None
  unsupported_list kind (text s) = None
  unsupported_list kind (list ts) = unsupported_items kind ts
  unsupported_list kind (object fs) = None

  pub unsupported_items : Kind → Trees → Option (List ℕ)
  unsupported_items kind no_trees = None
  unsupported_items kind (tree t ts) = option_or (unsupported kind t) (unsupported_items kind ts)

-- the tree is a filter of the kind
abbrev pub IsFilter : Kind → Tree → Type 0
IsFilter kind t = (invalid kind t ≡ None) × (unsupported kind t ≡ None)

-- reading the tree fails with this fault
abbrev pub Refuses : Kind → Tree → TermFault → Type 0
Refuses kind t (Invalid name) = invalid kind t ≡ Some name
Refuses kind t (Unsupported name) = (invalid kind t ≡ None) × (unsupported kind t ≡ Some name)
Refuses kind t NoMemory = ⊤
