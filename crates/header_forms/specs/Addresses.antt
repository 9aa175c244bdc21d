-- The Addresses and the GroupedAddresses form (RFC 8621, sections 4.1.2.3 and 4.1.2.4).
use Rattle.std.specs.Prelude.{ℕ, Bool, true, false, ◌&&◌, not, ◌==◌, nat_lt, List, [], ◌∷◌, length, map, filter, Option, Some, None, if◌then◌else◌}
use Rattle.std.specs.List.{list_any, position_or_len, before_first, after_first, flat_map}
use Rattle.std.specs.Str.{encode_utf8_all}
use Rattle.mail_text.specs.Texts.{trimmed}
use Rattle.mime_words.specs.Words.{decoded_words}
use Rattle.header_forms.specs.declared.address_characters.Context.{Context}
use Rattle.header_forms.specs.declared.address_characters.Context.TheVariants.{Bare, Quoted, Comment, Bracket}
use Rattle.header_forms.specs.declared.address_characters.AddressCharacter.{AddressCharacter}
use Rattle.header_forms.specs.declared.address_characters.Part.{Part}
use Rattle.header_forms.specs.declared.address_characters.Part.TheVariants.{Whole, Plain, Phrase, Remark}
use Rattle.header_forms.specs.declared.address.Address.{Address}
use Rattle.header_forms.specs.declared.address.Group.{Group}
use Rattle.header_forms.specs.AddressCharacters.{address_characters}
use Rattle.header_forms.specs.Groups.{Entry, entries}

abbrev pub is_comment : Context → Bool
is_comment Bare = false
is_comment Quoted = false
is_comment Comment = true
is_comment Bracket = false

abbrev pub is_bracket : Context → Bool
is_bracket Bare = false
is_bracket Quoted = false
is_bracket Comment = false
is_bracket Bracket = true

abbrev pub in_part : Part → AddressCharacter → Bool
in_part Whole m = true
in_part Plain m = not (is_comment m.context)
in_part Phrase m = m.said && not (is_comment m.context)
in_part Remark m = m.said && is_comment m.context

-- the text of a part of an item: `Phrase` is what a display-name says, `Remark` what a comment says
abbrev pub part_text : Part → List AddressCharacter → List ℕ
part_text part ms = encode_utf8_all (map (λ m. m.character) (filter (in_part part) ms))

abbrev pub opens_bracket : AddressCharacter → Bool
opens_bracket m = is_bracket m.context && (not m.said && m.character == 60)

abbrev pub closes_bracket : AddressCharacter → Bool
closes_bracket m = is_bracket m.context && (not m.said && m.character == 62)

abbrev pub has_bracket : List AddressCharacter → Bool
has_bracket ms = nat_lt (position_or_len opens_bracket ms) (length ms)

-- what is in the first bracket of an item (angle-addr), to the item's end if it isn't closed
abbrev pub within_bracket : List AddressCharacter → List AddressCharacter
within_bracket ms = before_first closes_bracket (after_first opens_bracket ms)

-- the address: the text in the first bracket, else all but the comments; quote marks stay
abbrev pub email_of : List AddressCharacter → List ℕ
email_of ms = if has_bracket ms then trimmed (part_text Whole (within_bracket ms))
    else trimmed (part_text Plain ms)

-- a part of an item as a name: trimmed, and with its encoded-words decoded
abbrev pub phrase_of : Part → List AddressCharacter → List ℕ
phrase_of part ms = decoded_words (trimmed (part_text part ms))

abbrev pub if_some : List ℕ → Option (List ℕ)
if_some [] = None
if_some (b ∷ bs) = Some (b ∷ bs)

abbrev pub or_else : Option (List ℕ) → Option (List ℕ) → Option (List ℕ)
or_else None other = other
or_else (Some text) other = Some text

-- the name before a bracket (display-name): what is said there outside comments, without the signs
-- of quoting. An item without a bracket has none there.
abbrev pub name_before : List AddressCharacter → Option (List ℕ)
name_before ms =
    if has_bracket ms then if_some (phrase_of Phrase (before_first opens_bracket ms)) else None

abbrev pub opens_comment : AddressCharacter → Bool
opens_comment m = is_comment m.context && (not m.said && m.character == 40)

-- what follows the parenthesis that opens the last comment
abbrev pub last_comment : List AddressCharacter → List AddressCharacter
last_comment [] = []
last_comment (m ∷ ms) =
    if list_any opens_comment ms then last_comment ms else (if opens_comment m then ms else [])

-- the text of the last comment
abbrev pub comment_name : List AddressCharacter → Option (List ℕ)
comment_name ms = if_some (phrase_of Remark (last_comment ms))

-- the name of an item: what is before the bracket, else the text of its last comment
abbrev pub name_of : List AddressCharacter → Option (List ℕ)
name_of ms = or_else (name_before ms) (comment_name ms)

abbrev pub if_address : Option (List ℕ) → Option (List ℕ) → List Address
if_address None name = []
if_address (Some email) name = record { email = email; name = name } ∷ []

-- the address of an item; an item with an empty one is left out
abbrev pub address_of : List AddressCharacter → List Address
address_of ms = if_address (if_some (email_of ms)) (name_of ms)

abbrev pub group_name : Option (List AddressCharacter) → Option (List ℕ)
group_name None = None
group_name (Some ms) = Some (phrase_of Phrase ms)

abbrev pub group_of : Entry → Group
group_of e = record { name = group_name e.name; addresses = flat_map address_of e.items }

-- a group stays without items; items outside groups that leave no address are no entry
abbrev pub shown_by : Option (List ℕ) → List Address → Bool
shown_by None [] = false
shown_by None (a ∷ later) = true
shown_by (Some name) addresses = true

abbrev pub is_shown : Group → Bool
is_shown g = shown_by g.name g.addresses

-- the groups of an address list, by its characters
abbrev pub groups_by : List AddressCharacter → List Group
groups_by ms = filter is_shown (map group_of (entries ms))

-- the groups of a value on one line
abbrev pub groups_in : List ℕ → List Group
groups_in text = groups_by (address_characters text)

-- all its addresses
abbrev pub addresses_in : List ℕ → List Address
addresses_in text = flat_map (λ g. g.addresses) (groups_in text)
