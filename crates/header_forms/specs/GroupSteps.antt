-- The groups of an address list that is read piece by piece.
use Rattle.std.specs.Prelude.{ℕ, List, [], ◌∷◌, ◌++◌, Option, Some, None, if◌then◌else◌}
use Rattle.header_forms.specs.declared.address_characters.Sign.TheVariants.{Comma, Colon, Semicolon}
use Rattle.header_forms.specs.declared.address_characters.Part.TheVariants.{Phrase}
use Rattle.header_forms.specs.declared.address.Address.{Address}
use Rattle.header_forms.specs.declared.address.Group.{Group}
use Rattle.header_forms.specs.Groups.{Slices, last, slice}
use Rattle.header_forms.specs.Addresses.{address_of, phrase_of, shown_by}

-- a group, if it is shown
abbrev pub shown : Option (List ℕ) → List Address → List Group
shown name addresses =
    if shown_by name addresses then record { name = name; addresses = addresses } ∷ [] else []

-- the groups of the pieces that are left, while a group of this name is being read and has these
-- addresses up to here
abbrev pub groups_from : Option (List ℕ) → List Address → Slices → List Group
groups_from name addresses (last ms) = shown name (addresses ++ address_of ms)
groups_from name addresses (slice ms Comma later) =
    groups_from name (addresses ++ address_of ms) later
groups_from name addresses (slice ms Colon later) =
    shown name addresses ++ groups_from (Some (phrase_of Phrase ms)) [] later
groups_from name addresses (slice ms Semicolon later) =
    shown name (addresses ++ address_of ms) ++ groups_from None [] later
