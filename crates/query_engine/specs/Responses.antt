-- How a query is read from the arguments of a call, and the response to it (RFC 8620, 5.5; RFC
-- 8621, 2.3 and 4.4).
use Rattle.std.specs.Prelude.{◌≡◌, ℕ, ℤ, pos, Bool, true, false, List, [], ◌∷◌, ◌++◌, length, Option, Some, None, codes, if◌then◌else◌, ⊤}
use Rattle.std.specs.Option.{unwrap_or}
use Rattle.jm_base.specs.Ids.{state_text}
use Rattle.jm_base.specs.declared.identifiers.Kind.{Kind}
use Rattle.jm_base.specs.declared.identifiers.Kind.TheVariants.{Mailbox as OfMailboxes, Email as OfEmails, Thread as OfThreads}
use Rattle.jm_json.specs.Find.{as_object, find}
use Rattle.jm_json.specs.Tree.{Tree, null, boolean, text, list, object, fields_of, trees_of}
use Rattle.mail_counts.specs.Views.{count_tree}
use Rattle.mail_records.specs.Contents.{Content}
use Rattle.method_args.specs.Arguments.{Form, find_invalid, flag_in, integer_in, text_in}
use Rattle.method_args.specs.Ids.{id_trees}
use Rattle.method_args.specs.Outcomes.{Outcome, invalid_call, no_anchor, replied, unsupported_filter_call, unsupported_sort_call}
use Rattle.method_args.specs.declared.form.Presence.TheVariants.{Required, Optional, Nullable}
use Rattle.method_args.specs.declared.form.Shape.TheVariants.{String, Flag, Integer, Count}
use Rattle.filter_terms.specs.Texts.{MessageTexts}
use Rattle.filter_terms.specs.Forms as Filters
use Rattle.sort_terms.specs.Forms as Orders
use Rattle.query_engine.specs.Queries.{result_list}
use Rattle.query_engine.specs.Views.{QueryTree}
use Rattle.query_engine.specs.Windows.{Window, part, anchor_not_found, bad_limit, window_of}
use Rattle.query_engine.specs.declared.frame.Frame.{Frame}
use Rattle.query_engine.specs.declared.frame.Shown.{Shown}
use Rattle.query_engine.specs.declared.faults.QueryFault.{QueryFault}
use Rattle.query_engine.specs.declared.faults.QueryFault.TheVariants.{Invalid, UnsupportedFilter, UnsupportedSort, NoMemory}

-- ---- the query of a call

-- What the arguments of a call say of its query: it is this one, or the argument, condition or
-- member of a comparator with this name is at fault; the name is empty where the tree of an
-- argument is.
pub data Reading : Type 0 where
  query : (q : QueryTree) → Reading
  invalid : (name : List ℕ) → Reading
  unsupported_filter : (name : List ℕ) → Reading
  unsupported_sort : (name : List ℕ) → Reading

-- the value of an argument, null where it is absent
abbrev pub tree_in : List ℕ → List (List ℕ × Tree) → Tree
tree_in name ms = unwrap_or (find name ms) null

-- whether threads are collapsed, which is of emails alone; none where the value is no boolean
abbrev pub collapse_in : Kind → List (List ℕ × Tree) → Option Bool
collapse_in OfEmails ms = flag_in (codes "collapseThreads") ms
collapse_in OfMailboxes ms = Some false
collapse_in OfThreads ms = Some false

-- the first fault of a filter and a sort, or the query: values of a wrong kind come first
abbrev pub read_by
    : Option (List ℕ) → Option (List ℕ) → Option (List ℕ) → Option (List ℕ) → QueryTree → Reading
read_by (Some name) sort unknown unknown_sort q = invalid name
read_by None (Some name) unknown unknown_sort q = invalid name
read_by None None (Some name) unknown_sort q = unsupported_filter name
read_by None None None (Some name) q = unsupported_sort name
read_by None None None None q = query q

abbrev pub query_with : Kind → Tree → Tree → Bool → Reading
query_with kind filter sort collapse =
    read_by (Filters.invalid kind filter)
    (Orders.invalid kind sort)
    (Filters.unsupported kind filter)
    (Orders.unsupported kind sort)
    (record { kind = kind; filter = filter; order = sort; collapse = collapse })

abbrev pub query_by : Kind → List (List ℕ × Tree) → Option Bool → Reading
query_by kind ms None = invalid (codes "collapseThreads")
query_by kind ms (Some collapse) =
    query_with kind (tree_in (codes "filter") ms) (tree_in (codes "sort") ms) collapse

-- The query of the members of a call's arguments: `filter` and `sort`, each null where it is
-- absent, and of emails `collapseThreads`. First values of a wrong kind are found, then what no
-- filter has, then what no sort has.
abbrev pub query_in : Kind → List (List ℕ × Tree) → Reading
query_in kind ms = query_by kind ms (collapse_in kind ms)

abbrev pub query_of_members : Kind → Option (List (List ℕ × Tree)) → Reading
query_of_members kind None = invalid []
query_of_members kind (Some ms) = query_in kind ms

-- the query of a call
abbrev pub query_of : Kind → Tree → Reading
query_of kind args = query_of_members kind (as_object args)

-- why there is no query; out of memory explains itself
abbrev pub ExplainsQuery : QueryFault → Reading → Type 0
ExplainsQuery (Invalid name) r = r ≡ invalid name
ExplainsQuery (UnsupportedFilter name) r = r ≡ unsupported_filter name
ExplainsQuery (UnsupportedSort name) r = r ≡ unsupported_sort name
ExplainsQuery NoMemory r = ⊤

-- ---- the other arguments

-- the arguments but filter and sort, in byte order, in which their forms are checked
abbrev pub email_forms : List Form
email_forms =
    record { name = codes "accountId"; presence = Required; shape = String }
    ∷ record { name = codes "anchor"; presence = Nullable; shape = String }
    ∷ record { name = codes "anchorOffset"; presence = Optional; shape = Integer }
    ∷ record { name = codes "calculateTotal"; presence = Optional; shape = Flag }
    ∷ record { name = codes "collapseThreads"; presence = Optional; shape = Flag }
    ∷ record { name = codes "limit"; presence = Nullable; shape = Count }
    ∷ record { name = codes "position"; presence = Optional; shape = Integer }
    ∷ []

abbrev pub mailbox_forms : List Form
mailbox_forms =
    record { name = codes "accountId"; presence = Required; shape = String }
    ∷ record { name = codes "anchor"; presence = Nullable; shape = String }
    ∷ record { name = codes "anchorOffset"; presence = Optional; shape = Integer }
    ∷ record { name = codes "calculateTotal"; presence = Optional; shape = Flag }
    ∷ record { name = codes "filterAsTree"; presence = Optional; shape = Flag }
    ∷ record { name = codes "limit"; presence = Nullable; shape = Count }
    ∷ record { name = codes "position"; presence = Optional; shape = Integer }
    ∷ record { name = codes "sortAsTree"; presence = Optional; shape = Flag }
    ∷ []

abbrev pub forms_of : Kind → List Form
forms_of OfEmails = email_forms
forms_of OfMailboxes = mailbox_forms
forms_of OfThreads = email_forms

-- the first argument in byte order that is missing or does not have its form
abbrev pub invalid_argument : Kind → List (List ℕ × Tree) → Option (List ℕ)
invalid_argument kind ms = find_invalid (forms_of kind) ms

-- a boolean, false where it is absent
abbrev pub is_set : List ℕ → List (List ℕ × Tree) → Bool
is_set name ms = unwrap_or (flag_in name ms) false

-- an integer, 0 where it is absent
abbrev pub integer_or_zero : List ℕ → List (List ℕ × Tree) → ℤ
integer_or_zero name ms = unwrap_or (integer_in name ms) (pos 0)

-- which part of the result list is asked for
abbrev pub frame_in : List (List ℕ × Tree) → Frame
frame_in ms = record {
  position = integer_or_zero (codes "position") ms;
  anchor = text_in (codes "anchor") ms;
  offset = integer_or_zero (codes "anchorOffset") ms;
  limit = integer_in (codes "limit") ms;
}

-- a list is asked for as a tree, which is of mailboxes alone (RFC 8621, 2.3)
abbrev pub is_tree : Kind → List ℕ → List (List ℕ × Tree) → Bool
is_tree OfMailboxes name ms = is_set name ms
is_tree OfEmails name ms = false
is_tree OfThreads name ms = false

-- `filterAsTree` is unsupported as a filter, and `sortAsTree` as a sort
abbrev pub tree_faults : Bool → Bool → Reading → Reading
tree_faults true sorted r = unsupported_filter (codes "filterAsTree")
tree_faults false true r = unsupported_sort (codes "sortAsTree")
tree_faults false false r = r

abbrev pub with_trees : Bool → Bool → Reading → Reading
with_trees filtered sorted (query q) = tree_faults filtered sorted (query q)
with_trees filtered sorted (invalid name) = invalid name
with_trees filtered sorted (unsupported_filter name) = unsupported_filter name
with_trees filtered sorted (unsupported_sort name) =
    tree_faults filtered sorted (unsupported_sort name)

abbrev pub call_query : Kind → List (List ℕ × Tree) → Reading
call_query kind ms =
    with_trees (is_tree kind (codes "filterAsTree") ms) (is_tree kind (codes "sortAsTree") ms)
    (query_in kind ms)

-- ---- the response

abbrev pub limit_members : Option ℕ → List (List ℕ × Tree)
limit_members None = []
limit_members (Some limit) = (codes "limit", count_tree limit) ∷ []

abbrev pub total_members : Bool → ℕ → List (List ℕ × Tree)
total_members false total = []
total_members true total = (codes "total", count_tree total) ∷ []

-- The members of a response: `limit` where it is not the one that was asked for, and `total` where
-- it is asked for. A number past the greatest integer of JSON is shown as that.
abbrev pub response_members : Kind → List ℕ → ℕ → Shown → Bool → ℕ → List (List ℕ × Tree)
response_members kind account state shown counted total =
    (codes "accountId", text account)
    ∷ (codes "canCalculateChanges", boolean true)
    ∷ (codes "ids", list (trees_of (id_trees kind shown.ids)))
    ∷ (limit_members shown.limit
    ++ (codes "position", count_tree shown.position)
    ∷ (codes "queryState", text (state_text state))
    ∷ total_members counted total)

abbrev pub outcome_of_window : Kind → ℕ → List (List ℕ × Tree) → ℕ → Window → Outcome
outcome_of_window kind state ms total (part shown) =
    replied
    (object
    (fields_of
    (response_members kind (unwrap_or (text_in (codes "accountId") ms) []) state shown
    (is_set (codes "calculateTotal") ms) total)))
outcome_of_window kind state ms total anchor_not_found = no_anchor
outcome_of_window kind state ms total bad_limit = invalid_call (codes "limit")

abbrev pub outcome_of_list : Kind → ℕ → List (List ℕ × Tree) → List ℕ → Outcome
outcome_of_list kind state ms numbers =
    outcome_of_window kind state ms (length numbers) (window_of kind numbers (frame_in ms))

abbrev pub outcome_of_query
    : Kind → ℕ → Content → (ℕ → MessageTexts) → List (List ℕ × Tree) → Reading → Outcome
outcome_of_query kind state c texts ms (query q) =
    outcome_of_list kind state ms (result_list q c texts)
outcome_of_query kind state c texts ms (invalid name) = invalid_call name
outcome_of_query kind state c texts ms (unsupported_filter name) = unsupported_filter_call name
outcome_of_query kind state c texts ms (unsupported_sort name) = unsupported_sort_call name

abbrev pub outcome_with
    : Kind → ℕ → Content → (ℕ → MessageTexts) → List (List ℕ × Tree) → Option (List ℕ) → Outcome
outcome_with kind state c texts ms (Some name) = invalid_call name
outcome_with kind state c texts ms None =
    outcome_of_query kind state c texts ms (call_query kind ms)

abbrev pub outcome_of_members
    : Kind → ℕ → Content → (ℕ → MessageTexts) → Option (List (List ℕ × Tree)) → Outcome
outcome_of_members kind state c texts None = invalid_call []
outcome_of_members kind state c texts (Some ms) =
    outcome_with kind state c texts ms (invalid_argument kind ms)

-- The outcome of a call of /query of a kind, over an account with this content, whose blobs have
-- these texts, and where the kind has this state. The forms of the arguments are checked first, in
-- byte order of their names; then filter and sort; then the anchor is looked for.
abbrev pub query_outcome : Kind → ℕ → Content → (ℕ → MessageTexts) → Tree → Outcome
query_outcome kind state c texts args = outcome_of_members kind state c texts (as_object args)
