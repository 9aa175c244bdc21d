-- Identifiers, states and added items that were written are read as what they were.
use Rattle.std.specs.Prelude.{◌≡◌, ℕ, List, Some}
use Rattle.std.specs.List.{AllByRecursion}
use Rattle.jm_base.specs.Ids.{IsId, IsState, state_text}
use Rattle.jm_base.specs.declared.identifiers.Kind.{Kind}
use Rattle.jm_json.specs.Tree.{list, text, trees_of}
use Rattle.method_args.specs.Ids.{id_trees, ids_in, state_in}

-- the numbers are those of identifiers
abbrev pub AreIds : Kind → List ℕ → Type 0
AreIds kind numbers = AllByRecursion (λ n. IsId (record { kind = kind; number = n })) numbers

-- a list of identifiers of a kind that was written is read as the numbers
abbrev pub IdsReadBack : Type 0
IdsReadBack =
    (kind : Kind) (numbers : List ℕ) → AreIds kind numbers
    → ids_in kind (list (trees_of (id_trees kind numbers))) ≡ Some numbers

-- the text of a state that was written is read as the position
abbrev pub StatesReadBack : Type 0
StatesReadBack = (position : ℕ) → IsState position
    → state_in (text (state_text position)) ≡ Some position
