-- The response to a call of a /changes method (RFC 8620, 5.2; RFC 8621, 2.2, 3.2 and 4.3).
use Rattle.std.specs.Prelude.{◌≡◌, ℕ, ℤ, List, [], ◌∷◌, ◌++◌, Bool, Option, Some, None, codes, if◌then◌else◌, unwrap_or, ⊤}
use Rattle.jm_base.specs.Ids.{state_text}
use Rattle.jm_base.specs.declared.identifiers.Kind.{Kind}
use Rattle.jm_base.specs.declared.identifiers.Kind.TheVariants.{Mailbox as OfMailbox, Email as OfEmail, Thread as OfThread}
use Rattle.jm_json.specs.Find.{as_object}
use Rattle.jm_json.specs.Tree.{Tree, null, boolean, text, list, object, fields_of, trees_of}
use Rattle.mail_records.specs.Histories.{History}
use Rattle.method_args.specs.Arguments.{Form, find_invalid, integer_in, text_in}
use Rattle.method_args.specs.Ids.{id_trees}
use Rattle.method_args.specs.Outcomes.{Outcome, cannot_tell, invalid_call, replied}
use Rattle.method_args.specs.declared.form.Presence.TheVariants.{Required, Nullable}
use Rattle.method_args.specs.declared.form.Shape.TheVariants.{String, Integer}
use Rattle.change_calls.specs.Changes.{Answer, answered, invalid_maximum, cannot_calculate, answer_of}
use Rattle.change_calls.specs.declared.page.ChangePage.{ChangePage}

-- the arguments in byte order, in which their forms are checked
abbrev pub forms : List Form
forms =
    record { name = codes "accountId"; presence = Required; shape = String }
    ∷ record { name = codes "maxChanges"; presence = Nullable; shape = Integer }
    ∷ record { name = codes "sinceState"; presence = Required; shape = String }
    ∷ []

-- the first argument in byte order that is missing or does not have its form
abbrev pub invalid_argument : List (List ℕ × Tree) → Option (List ℕ)
invalid_argument ms = find_invalid forms ms

-- the string of an argument
abbrev pub string_in : List ℕ → List (List ℕ × Tree) → List ℕ
string_in name ms = unwrap_or (text_in name ms) []

-- the maximum that is asked for
abbrev pub max_in : List (List ℕ × Tree) → Option ℤ
max_in ms = integer_in (codes "maxChanges") ms

-- ---- the arguments of a response

-- the identifiers of records of the kind
abbrev pub ids_tree : Kind → List ℕ → Tree
ids_tree kind numbers = list (trees_of (id_trees kind numbers))

-- the properties of a mailbox that counts are (RFC 8621, 2.2)
abbrev pub count_properties : Tree
count_properties =
    list
    (trees_of
    (text (codes "totalEmails")
    ∷ text (codes "unreadEmails")
    ∷ text (codes "totalThreads")
    ∷ text (codes "unreadThreads")
    ∷ []))

-- the properties that updated mailboxes differ in at most, or null where they may differ in any
-- (RFC 8621, 2.2)
abbrev pub properties_tree : Bool → Tree
properties_tree counts_only = if counts_only then count_properties else null

-- `updatedProperties` is of mailboxes alone
abbrev pub properties_members : Kind → Bool → List (List ℕ × Tree)
properties_members OfMailbox counts_only =
    (codes "updatedProperties", properties_tree counts_only) ∷ []
properties_members OfEmail counts_only = []
properties_members OfThread counts_only = []

-- The members that every /changes response has: the state that was sent, and what the page says.
abbrev pub page_members : Kind → List ℕ → List ℕ → ChangePage → List (List ℕ × Tree)
page_members kind account since page =
    (codes "accountId", text account)
    ∷ (codes "created", ids_tree kind page.created)
    ∷ (codes "destroyed", ids_tree kind page.destroyed)
    ∷ (codes "hasMoreChanges", boolean page.more)
    ∷ (codes "newState", text (state_text page.new_state))
    ∷ (codes "oldState", text since)
    ∷ (codes "updated", ids_tree kind page.updated)
    ∷ []

-- the arguments of the response with a page
abbrev pub page_tree : Kind → List ℕ → List ℕ → ChangePage → Tree
page_tree kind account since page =
    object
    (fields_of (page_members kind account since page ++ properties_members kind page.counts_only))

-- ---- the outcome of a call

abbrev pub outcome_by : Kind → List ℕ → List ℕ → Answer → Outcome
outcome_by kind account since (answered page) = replied (page_tree kind account since page)
outcome_by kind account since invalid_maximum = invalid_call (codes "maxChanges")
outcome_by kind account since cannot_calculate = cannot_tell

abbrev pub outcome_with : History → Kind → List (List ℕ × Tree) → Option (List ℕ) → Outcome
outcome_with h kind ms (Some name) = invalid_call name
outcome_with h kind ms None =
    outcome_by kind
    (string_in (codes "accountId") ms)
    (string_in (codes "sinceState") ms)
    (answer_of h kind (string_in (codes "sinceState") ms) (max_in ms))

abbrev pub outcome_of_members : History → Kind → Option (List (List ℕ × Tree)) → Outcome
outcome_of_members h kind None = invalid_call []
outcome_of_members h kind (Some ms) = outcome_with h kind ms (invalid_argument ms)

-- The outcome of a call for the changes of a kind, over an account with this history. First the
-- forms of the arguments are checked, in byte order, then the maximum, then the state.
abbrev pub changes_outcome : History → Kind → Tree → Outcome
changes_outcome h kind args = outcome_of_members h kind (as_object args)
