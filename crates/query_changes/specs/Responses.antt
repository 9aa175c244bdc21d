-- The response to a call of a /queryChanges method (RFC 8620, 5.6; RFC 8621, 2.4 and 4.5).
use Rattle.std.specs.Prelude.{◌≡◌, ℕ, List, [], ◌∷◌, ◌++◌, map, Bool, Option, Some, None, codes, option_and_then, ⊤}
use Rattle.jm_base.specs.Ids.{id_text, state_text}
use Rattle.jm_base.specs.declared.identifiers.AddedItem.{AddedItem}
use Rattle.jm_base.specs.declared.identifiers.Kind.{Kind}
use Rattle.jm_base.specs.declared.identifiers.Kind.TheVariants.{Mailbox as OfMailboxes, Email as OfEmails, Thread as OfThreads}
use Rattle.jm_json.specs.Find.{as_object}
use Rattle.jm_json.specs.Tree.{Tree, text, list, object, fields_of, trees_of}
use Rattle.mail_counts.specs.Views.{count_tree}
use Rattle.mail_records.specs.Histories.{History}
use Rattle.method_args.specs.Arguments.{Form, find_invalid, if_unsigned, integer_in}
use Rattle.method_args.specs.Outcomes.{Outcome, cannot_tell, invalid_call, replied, too_many_changes, unsupported_filter_call, unsupported_sort_call}
use Rattle.method_args.specs.declared.form.Presence.TheVariants.{Required, Optional, Nullable}
use Rattle.method_args.specs.declared.form.Shape.TheVariants.{String, Flag, Count}
use Rattle.change_calls.specs.Responses.{ids_tree, string_in}
use Rattle.filter_terms.specs.Texts.{MessageTexts}
use Rattle.query_engine.specs.Responses.{Reading, is_set, query, invalid, unsupported_filter, unsupported_sort, query_in, total_members}
use Rattle.query_changes.specs.Deltas.{Answer, answered, cannot_calculate, too_many, answer_of}
use Rattle.query_changes.specs.declared.delta.Delta.{Delta}

-- ---- the arguments

-- The arguments but filter and sort, in byte order, in which their forms are checked. `upToId` may
-- be anything, and is ignored.
abbrev pub email_forms : List Form
email_forms =
    record { name = codes "accountId"; presence = Required; shape = String }
    ∷ record { name = codes "calculateTotal"; presence = Optional; shape = Flag }
    ∷ record { name = codes "collapseThreads"; presence = Optional; shape = Flag }
    ∷ record { name = codes "maxChanges"; presence = Nullable; shape = Count }
    ∷ record { name = codes "sinceQueryState"; presence = Required; shape = String }
    ∷ []

abbrev pub mailbox_forms : List Form
mailbox_forms =
    record { name = codes "accountId"; presence = Required; shape = String }
    ∷ record { name = codes "calculateTotal"; presence = Optional; shape = Flag }
    ∷ record { name = codes "maxChanges"; presence = Nullable; shape = Count }
    ∷ record { name = codes "sinceQueryState"; presence = Required; shape = String }
    ∷ []

abbrev pub forms_of : Kind → List Form
forms_of OfEmails = email_forms
forms_of OfMailboxes = mailbox_forms
forms_of OfThreads = email_forms

-- the first argument in byte order that is missing or does not have its form
abbrev pub invalid_argument : Kind → List (List ℕ × Tree) → Option (List ℕ)
invalid_argument kind ms = find_invalid (forms_of kind) ms

-- the maximum that is asked for
abbrev pub max_in : List (List ℕ × Tree) → Option ℕ
max_in ms = option_and_then if_unsigned (integer_in (codes "maxChanges") ms)

-- ---- the arguments of a response

-- an added record: its identifier, and its index in the present list
abbrev pub added_tree : Kind → AddedItem → Tree
added_tree kind item =
    object
    (fields_of
    ((codes "id", text (id_text (record { kind = kind; number = item.number })))
    ∷ (codes "index", count_tree item.index)
    ∷ []))

abbrev pub added_trees : Kind → List AddedItem → List Tree
added_trees kind items = map (added_tree kind) items

-- the members that each response has: the state that was sent, and the changes since
abbrev pub delta_members : Kind → List ℕ → List ℕ → Delta → List (List ℕ × Tree)
delta_members kind account since delta =
    (codes "accountId", text account)
    ∷ (codes "added", list (trees_of (added_trees kind delta.added)))
    ∷ (codes "newQueryState", text (state_text delta.new_state))
    ∷ (codes "oldQueryState", text since)
    ∷ (codes "removed", ids_tree kind delta.removed)
    ∷ []

-- the arguments of the response, with `total` where it is asked for
abbrev pub delta_tree : Kind → List ℕ → List ℕ → Bool → Delta → Tree
delta_tree kind account since counted delta =
    object
    (fields_of (delta_members kind account since delta ++ total_members counted delta.total))

-- ---- the outcome of a call

abbrev pub outcome_by : Kind → List (List ℕ × Tree) → Answer → Outcome
outcome_by kind ms (answered delta) =
    replied
    (delta_tree kind (string_in (codes "accountId") ms) (string_in (codes "sinceQueryState") ms)
    (is_set (codes "calculateTotal") ms) delta)
outcome_by kind ms cannot_calculate = cannot_tell
outcome_by kind ms (too_many count) = too_many_changes

abbrev pub outcome_of_query
    : History → (ℕ → MessageTexts) → Kind → List (List ℕ × Tree) → Reading → Outcome
outcome_of_query h texts kind ms (query q) =
    outcome_by kind ms (answer_of h q texts (string_in (codes "sinceQueryState") ms) (max_in ms))
outcome_of_query h texts kind ms (invalid name) = invalid_call name
outcome_of_query h texts kind ms (unsupported_filter name) = unsupported_filter_call name
outcome_of_query h texts kind ms (unsupported_sort name) = unsupported_sort_call name

abbrev pub outcome_with
    : History → (ℕ → MessageTexts) → Kind → List (List ℕ × Tree) → Option (List ℕ) → Outcome
outcome_with h texts kind ms (Some name) = invalid_call name
outcome_with h texts kind ms None = outcome_of_query h texts kind ms (query_in kind ms)

abbrev pub outcome_of_members
    : History → (ℕ → MessageTexts) → Kind → Option (List (List ℕ × Tree)) → Outcome
outcome_of_members h texts kind None = invalid_call []
outcome_of_members h texts kind (Some ms) = outcome_with h texts kind ms (invalid_argument kind ms)

-- The outcome of a call of /queryChanges of a kind, over an account with this history, whose blobs
-- have these texts. The forms of the arguments are checked first, in byte order of their names;
-- then filter and sort; then the state; then the count of changes.
abbrev pub query_changes_outcome : History → (ℕ → MessageTexts) → Kind → Tree → Outcome
query_changes_outcome h texts kind args = outcome_of_members h texts kind (as_object args)
