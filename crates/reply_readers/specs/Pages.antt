-- The response to a call of a /changes method, as a client reads it (RFC 8620, 5.2; RFC 8621, 2.2,
-- 3.2 and 4.3). Members of other names are ignored.
use Rattle.std.specs.Prelude.{ℕ, List, ◌++◌, Bool, true, false, not, ◌||◌, nat_lt, Option, Some, None, is_some, option_and_then, option_map, codes}
use Rattle.jm_base.specs.declared.identifiers.Kind.{Kind}
use Rattle.jm_base.specs.declared.identifiers.Kind.TheVariants.{Mailbox as OfMailbox, Email as OfEmail, Thread as OfThread}
use Rattle.jm_json.specs.Find.{as_object, find}
use Rattle.jm_json.specs.Tree.{Tree}
use Rattle.method_args.specs.Arguments.{as_strings, is_null}
use Rattle.method_args.specs.Places.{at_name, ids_places, member_places, place_unless, places_in}
use Rattle.reply_readers.specs.Members.{flag_of, has_state, has_text, ids_of, state_of}
use Rattle.reply_readers.specs.declared.pages.ReadPage.{ReadPage}

-- ---- what a page says

abbrev pub page_with : List ℕ → List ℕ → List ℕ → Bool → ℕ → ReadPage
page_with created destroyed updated more state = record {
  created = created;
  destroyed = destroyed;
  updated = updated;
  more = more;
  new_state = state;
}

abbrev pub page_of_members : Kind → List (List ℕ × Tree) → Option ReadPage
page_of_members kind ms =
    option_and_then
    (λ created. option_and_then
    (λ destroyed. option_and_then
    (λ updated. option_and_then
    (λ more. option_map (page_with created destroyed updated more) (state_of (codes "newState") ms))
    (flag_of (codes "hasMoreChanges") ms))
    (ids_of kind (codes "updated") ms))
    (ids_of kind (codes "destroyed") ms))
    (ids_of kind (codes "created") ms)

-- the page of the arguments of a response about records of the kind
abbrev pub page_in : Kind → Tree → Option ReadPage
page_in kind t = option_and_then (page_of_members kind) (as_object t)

-- ---- where it is not of its form

-- a new state, which is above the old one if more changes follow
abbrev pub is_new_state : ℕ → Option Bool → Option ℕ → Bool
is_new_state since more None = false
is_new_state since None (Some state) = true
is_new_state since (Some more) (Some state) = not more || nat_lt since state

abbrev pub has_new_state : ℕ → List (List ℕ × Tree) → Bool
has_new_state since ms =
    is_new_state since (flag_of (codes "hasMoreChanges") ms) (state_of (codes "newState") ms)

-- null, or a list of strings
abbrev pub are_properties : Option Tree → Bool
are_properties None = false
are_properties (Some t) = is_null t || is_some (as_strings t)

-- `updatedProperties` is of mailboxes alone
abbrev pub has_properties : Kind → List (List ℕ × Tree) → Bool
has_properties OfMailbox ms = are_properties (find (codes "updatedProperties") ms)
has_properties OfEmail ms = true
has_properties OfThread ms = true

abbrev pub first_page_places : Kind → List ℕ → List ℕ → List (List ℕ × Tree) → List (List ℕ)
first_page_places kind account p ms =
    place_unless (has_text (codes "accountId") account ms) (at_name p (codes "accountId"))
    ++ member_places (ids_places kind) p (codes "created") ms
    ++ member_places (ids_places kind) p (codes "destroyed") ms
    ++ member_places (ids_places kind) p (codes "updated") ms

abbrev pub other_page_places : Kind → ℕ → List ℕ → List (List ℕ × Tree) → List (List ℕ)
other_page_places kind since p ms =
    place_unless (is_some (flag_of (codes "hasMoreChanges") ms))
    (at_name p (codes "hasMoreChanges"))
    ++ place_unless (has_new_state since ms) (at_name p (codes "newState"))
    ++ place_unless (has_state (codes "oldState") since ms) (at_name p (codes "oldState"))
    ++ place_unless (has_properties kind ms) (at_name p (codes "updatedProperties"))

abbrev pub page_member_places
    : Kind → List ℕ → ℕ → List ℕ → List (List ℕ × Tree) → List (List ℕ)
page_member_places kind account since p ms =
    first_page_places kind account p ms ++ other_page_places kind since p ms

-- The places at which the arguments, whose pointer is given, are no page of the changes of the kind
-- in this account since this state.
abbrev pub page_places : Kind → List ℕ → ℕ → List ℕ → Tree → List (List ℕ)
page_places kind account since p t =
    places_in (page_member_places kind account since p) p (as_object t)
