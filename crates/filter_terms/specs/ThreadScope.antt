-- Which filters look at the other emails of an email's thread. A query by such a filter may change
-- where another email of the thread does (RFC 8620, 5.6).
use Rattle.std.specs.Prelude.{Bool, true, false, ◌||◌, cond, Option, Some, None, codes, bytes_eq}
use Rattle.jm_base.specs.declared.identifiers.Kind.{Kind}
use Rattle.jm_json.specs.Tree.{Tree, null, boolean, number, text, list, object, Trees, no_trees, tree, Fields, no_fields, field}
use Rattle.jm_json.specs.Find.{pairs_of}
use Rattle.filter_terms.specs.Filters.{operator_in}
use Rattle.filter_terms.specs.Names.{term_of}
use Rattle.filter_terms.specs.declared.terms.KeywordTest.{KeywordTest}
use Rattle.filter_terms.specs.declared.terms.KeywordTest.TheVariants.{AllInThread, SomeInThread, NoneInThread, Has, HasNot}
use Rattle.filter_terms.specs.declared.terms.EmailTerm.{EmailTerm}
use Rattle.filter_terms.specs.declared.terms.EmailTerm.TheVariants.{InMailbox, InMailboxOtherThan, Before, After, MinSize, MaxSize, Keyword, HasAttachment, Contains, Header}
use Rattle.filter_terms.specs.declared.terms.Term.{Term}
use Rattle.filter_terms.specs.declared.terms.Term.TheVariants.{OfEmail, OfMailbox}

abbrev pub is_wide_test : KeywordTest → Bool
is_wide_test AllInThread = true
is_wide_test SomeInThread = true
is_wide_test NoneInThread = true
is_wide_test Has = false
is_wide_test HasNot = false

abbrev pub is_wide_email : EmailTerm → Bool
is_wide_email InMailbox = false
is_wide_email InMailboxOtherThan = false
is_wide_email Before = false
is_wide_email After = false
is_wide_email MinSize = false
is_wide_email MaxSize = false
is_wide_email (Keyword test) = is_wide_test test
is_wide_email HasAttachment = false
is_wide_email (Contains place) = false
is_wide_email Header = false

-- the condition looks at the thread
abbrev pub is_wide_term : Option Term → Bool
is_wide_term None = false
is_wide_term (Some (OfEmail term)) = is_wide_email term
is_wide_term (Some (OfMailbox term)) = false

-- some member of a condition object does
abbrev pub members_wide : Kind → Fields → Bool
members_wide kind no_fields = false
members_wide kind (field k t fs) = is_wide_term (term_of kind k) || members_wide kind fs

abbrev pub object_wide : Option Tree → Bool → Bool → Bool
object_wide None conditions members = members
object_wide (Some operator) conditions members = conditions

-- some condition of the filter looks at the thread
abbrev mutual
  pub is_wide : Kind → Tree → Bool
  is_wide kind null = false
  is_wide kind (boolean b) = false
  is_wide kind (number z) = false
  is_wide kind (text s) = false
  is_wide kind (list ts) = false
  is_wide kind (object fs) =
      object_wide (operator_in (pairs_of fs)) (conditions_wide kind fs) (members_wide kind fs)

  pub conditions_wide : Kind → Fields → Bool
  conditions_wide kind no_fields = false
  conditions_wide kind (field k t fs) =
      cond (bytes_eq k (codes "conditions")) (list_wide kind t) (conditions_wide kind fs)

  pub list_wide : Kind → Tree → Bool
  list_wide kind null = false
  list_wide kind (boolean b) = false
  list_wide kind (number z) = false
  list_wide kind (text s) = false
  list_wide kind (list ts) = items_wide kind ts
  list_wide kind (object fs) = false

  pub items_wide : Kind → Trees → Bool
  items_wide kind no_trees = false
  items_wide kind (tree t ts) = is_wide kind t || items_wide kind ts
