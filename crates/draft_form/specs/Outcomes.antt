-- What reading a create comes to.
use Rattle.std.specs.Prelude.{◌≡◌, ◌≢◌, ℕ, List, [], Result, Ok, Err}
use Rattle.jm_json.specs.Tree.{Tree}
use Rattle.draft_form.specs.Drafts.{bad_names, draft_in}
use Rattle.draft_form.specs.declared.draft.Draft.{Draft}
use Rattle.draft_form.specs.declared.read.DraftFault.{DraftFault}
use Rattle.draft_form.specs.declared.read.DraftFault.TheVariants.{Invalid, TooLarge, NoMemory}

abbrev pub IsRefused : DraftFault → List (List ℕ × Tree) → Type 0
IsRefused (Invalid names) ms = (names ≡ bad_names ms) × (names ≢ [])
IsRefused TooLarge ms = ⊥
IsRefused NoMemory ms = Unit {0}

-- A create without invalid properties is read as its draft. A draft is refused with the names of
-- those that are invalid, if any are; and memory may run out.
abbrev pub IsReading : Result Draft DraftFault → List (List ℕ × Tree) → Type 0
IsReading (Ok draft) ms = (draft ≡ draft_in ms) × (bad_names ms ≡ [])
IsReading (Err fault) ms = IsRefused fault ms
