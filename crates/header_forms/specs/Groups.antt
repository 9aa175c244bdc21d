-- An address list cut at its commas and groups (RFC 5322, section 3.4).
use Rattle.std.specs.Prelude.{ℕ, Bool, true, false, ◌&&◌, not, ◌==◌, List, [], ◌∷◌, Option, Some, None, if◌then◌else◌}
use Rattle.header_forms.specs.declared.address_characters.Context.{Context}
use Rattle.header_forms.specs.declared.address_characters.Context.TheVariants.{Bare, Quoted, Comment, Bracket}
use Rattle.header_forms.specs.declared.address_characters.AddressCharacter.{AddressCharacter}
use Rattle.header_forms.specs.declared.address_characters.Sign.{Sign}
use Rattle.header_forms.specs.declared.address_characters.Sign.TheVariants.{Comma, Colon, Semicolon}

abbrev pub is_bare : Context → Bool
is_bare Bare = true
is_bare Quoted = false
is_bare Comment = false
is_bare Bracket = false

-- the sign that a character outside quotes, comments and brackets is: a colon opens a group if
-- none is open, a semicolon ends an open one; otherwise they are plain characters
abbrev pub bare_sign : Bool → ℕ → Option Sign
bare_sign open' c =
    if c == 44 then Some Comma
    else (if c == 58 && not open' then Some Colon
    else (if c == 59 && open' then Some Semicolon else None))

abbrev pub sign_of : Bool → AddressCharacter → Option Sign
sign_of open' m = if is_bare m.context then bare_sign open' m.character else None

abbrev pub is_open_after : Bool → Sign → Bool
is_open_after open' Comma = open'
is_open_after open' Colon = true
is_open_after open' Semicolon = false

-- the pieces between signs
pub data Slices : Type 0 where
  last : List AddressCharacter → Slices
  slice : List AddressCharacter → Sign → Slices → Slices

abbrev pub onto : AddressCharacter → Slices → Slices
onto m (last ms) = last (m ∷ ms)
onto m (slice ms sign later) = slice (m ∷ ms) sign later

abbrev pub sliced : Option Sign → AddressCharacter → Bool → (Bool → Slices) → Slices
sliced None m open' later = onto m (later open')
sliced (Some sign) m open' later = slice [] sign (later (is_open_after open' sign))

abbrev pub slices_from : List AddressCharacter → Bool → Slices
slices_from [] open' = last []
slices_from (m ∷ ms) open' = sliced (sign_of open' m) m open' (slices_from ms)

-- items that are next to each other: those of a group, under its name, or those outside groups
pub record Entry : Type 0 where
  pub name : Option (List AddressCharacter)
  pub items : List (List AddressCharacter)

abbrev pub with_item : List AddressCharacter → List Entry → List Entry
with_item item [] = []
with_item item (e ∷ es) = record { name = e.name; items = item ∷ e.items } ∷ es

-- the entries of a list while a group of this name is open, or none. What is before a colon is the
-- name of a group, and the items before that are an entry; a group ends at its semicolon or with
-- the text.
abbrev pub entries_from : Slices → Option (List AddressCharacter) → List Entry
entries_from (last ms) name = record { name = name; items = ms ∷ [] } ∷ []
entries_from (slice ms Comma later) name = with_item ms (entries_from later name)
entries_from (slice ms Colon later) name =
    record { name = name; items = [] } ∷ entries_from later (Some ms)
entries_from (slice ms Semicolon later) name =
    record { name = name; items = ms ∷ [] } ∷ entries_from later None

abbrev pub entries : List AddressCharacter → List Entry
entries ms = entries_from (slices_from ms false) None
