-- The texts of identifiers and of states (RFC 8620, 1.2 and 5.1; the form is our own). Each has
-- exactly one text.
use Rattle.std.specs.Prelude.{◌≡◌, ℕ, ◌<◌, ◌≤◌, ◌^◌, List, ◌∷◌}
use Rattle.std.specs.Fmt.{decimal}
use Rattle.jm_base.specs.declared.identifiers.TheConstants.{NUMBER_LIMIT}
use Rattle.jm_base.specs.declared.identifiers.Id.{Id}
use Rattle.jm_base.specs.declared.identifiers.Kind.{Kind}
use Rattle.jm_base.specs.declared.identifiers.Kind.TheVariants.{Mailbox as OfMailbox, Email as OfEmail, Thread as OfThread}

-- the number is from 1 and below `NUMBER_LIMIT`
pub record IsId (id : Id) : Type 0 where
  pub from_one : 1 ≤ id.number
  pub below : id.number < NUMBER_LIMIT

-- `M`, `E` or `T`
abbrev pub kind_letter : Kind → ℕ
kind_letter OfMailbox = 77
kind_letter OfEmail = 69
kind_letter OfThread = 84

-- the letter of the kind, and the number in decimal
abbrev pub id_text : Id → List ℕ
id_text id = kind_letter id.kind ∷ decimal id.number

-- the position is below `NUMBER_LIMIT`
abbrev pub IsState : ℕ → Type 0
IsState position = position < NUMBER_LIMIT

-- the position in decimal
abbrev pub state_text : ℕ → List ℕ
state_text position = decimal position

-- the string is the decimal of a number below 2^64
abbrev pub IsDecimal : List ℕ → ℕ → Type 0
IsDecimal text number = (number < 2 ^ 64) × (text ≡ decimal number)

-- the string is the decimal of a number below `NUMBER_LIMIT`
abbrev pub IsNumberText : List ℕ → ℕ → Type 0
IsNumberText text number = (number < NUMBER_LIMIT) × (text ≡ decimal number)

-- different identifiers have different texts
abbrev pub TextsTellIds : Type 0
TextsTellIds = (a b : Id) → IsId a → IsId b → id_text a ≡ id_text b → a ≡ b

-- different states have different texts
abbrev pub TextsTellStates : Type 0
TextsTellStates = (a b : ℕ) → IsState a → IsState b → state_text a ≡ state_text b → a ≡ b
