-- What a server writes is read as what it was: pages of changes, changes of a query's results, and
-- results of a query. It is of its form, so no place in it is out of form.
use Rattle.std.specs.Prelude.{◌≡◌, ℕ, ◌<◌, ◌≤◌, List, [], length, Bool, true, Some}
use Rattle.std.specs.List.{AllByRecursion}
use Rattle.jm_base.specs.Ids.{IsId, IsState, state_text}
use Rattle.jm_base.specs.declared.identifiers.AddedItem.{AddedItem}
use Rattle.jm_base.specs.declared.identifiers.Kind.{Kind}
use Rattle.jm_base.specs.declared.limits.TheConstants.{MAX_JSON_INTEGER}
use Rattle.jm_json.specs.Tree.{object, fields_of}
use Rattle.method_args.specs.WrittenIds.{AreIds}
use Rattle.change_calls.specs.Responses.{page_tree}
use Rattle.change_calls.specs.declared.page.ChangePage.{ChangePage}
use Rattle.query_engine.specs.Responses.{response_members}
use Rattle.query_engine.specs.declared.frame.Shown.{Shown}
use Rattle.query_changes.specs.Responses.{delta_tree}
use Rattle.query_changes.specs.declared.delta.Delta.{Delta}
use Rattle.reply_readers.specs.Deltas.{delta_in, delta_places, delta_with}
use Rattle.reply_readers.specs.Pages.{page_in, page_places, page_with}
use Rattle.reply_readers.specs.Results.{results_in, results_places, results_with}

-- ---- pages

-- a page of changes since a state that identifiers and states can tell
pub record CanBePage (kind : Kind) (since : ℕ) (page : ChangePage) : Type 0 where
  pub created : AreIds kind page.created
  pub destroyed : AreIds kind page.destroyed
  pub updated : AreIds kind page.updated
  pub old_state : IsState since
  pub new_state : IsState page.new_state
  pub rises : page.more ≡ true → since < page.new_state

abbrev pub PagesReadBack : Type 0
PagesReadBack =
    (kind : Kind) (account pointer : List ℕ) (since : ℕ) (page : ChangePage)
    → CanBePage kind since page
    → (page_places kind account since pointer (page_tree kind account (state_text since) page)
    ≡ [])
    × (page_in kind (page_tree kind account (state_text since) page)
    ≡ Some (page_with page.created page.destroyed page.updated page.more page.new_state))

-- ---- changes of a query's results

-- a record and an index that an identifier and a number of JSON can tell
pub record CanBeItem (kind : Kind) (item : AddedItem) : Type 0 where
  pub number : IsId (record { kind = kind; number = item.number })
  pub index : item.index ≤ MAX_JSON_INTEGER

pub record CanBeDelta (kind : Kind) (since : ℕ) (delta : Delta) : Type 0 where
  pub added : AllByRecursion (CanBeItem kind) delta.added
  pub removed : AreIds kind delta.removed
  pub old_state : IsState since
  pub new_state : IsState delta.new_state

abbrev pub DeltasReadBack : Type 0
DeltasReadBack =
    (kind : Kind) (account pointer : List ℕ) (since : ℕ) (counted : Bool) (delta : Delta)
    → CanBeDelta kind since delta
    → (delta_places kind account since pointer
    (delta_tree kind account (state_text since) counted delta)
    ≡ [])
    × (delta_in kind (delta_tree kind account (state_text since) counted delta)
    ≡ Some (delta_with delta.added delta.removed delta.new_state))

-- ---- results of a query

pub record CanBeResults (kind : Kind) (state limit : ℕ) (shown : Shown) : Type 0 where
  pub ids : AreIds kind shown.ids
  pub few : length shown.ids ≤ limit
  pub position : shown.position ≤ MAX_JSON_INTEGER
  pub query_state : IsState state

abbrev pub ResultsReadBack : Type 0
ResultsReadBack =
    (kind : Kind) (account pointer : List ℕ) (state limit : ℕ) (shown : Shown) (counted : Bool)
    (total : ℕ)
    → CanBeResults kind state limit shown
    → (results_places kind account shown.position limit pointer
    (object (fields_of (response_members kind account state shown counted total)))
    ≡ [])
    × (results_in kind
    (object (fields_of (response_members kind account state shown counted total)))
    ≡ Some (results_with shown.ids state))
