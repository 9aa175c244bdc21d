-- A group of plain items has their addresses, under its name.
use Rattle.std.proofs.Common.{◌≡◌, ℕ, ◌<◌, Bool, true, false, not, eqb, List, [], ◌∷◌, ◌++◌, length, map, Some, None, refl, ap, ◌∙◌, append_assoc}
use Rattle.std.specs.Prelude.{filter}
use Rattle.std.specs.List.{AllByRecursion, list_all, flat_map}
use Rattle.std.specs.Str.{chars, encode_utf8_all}
use Rattle.std.proofs.Math.Bool.{and-false}
use Rattle.std.proofs.lemmas.Bool.{not-true}
use Rattle.mail_text.specs.Texts.{trimmed}
use Rattle.mime_words.specs.Words.{decoded_words}
use Rattle.header_forms.specs.declared.address_characters.AddressCharacter.{AddressCharacter}
use Rattle.header_forms.specs.declared.address_characters.State.TheVariants.{Outside}
use Rattle.header_forms.specs.declared.address_characters.Part.TheVariants.{Phrase}
use Rattle.header_forms.specs.declared.address_characters.Sign.{Sign}
use Rattle.header_forms.specs.declared.address_characters.Sign.TheVariants.{Comma, Colon, Semicolon}
use Rattle.header_forms.specs.declared.address.Address.{Address}
use Rattle.header_forms.specs.declared.address.Group.{Group}
use Rattle.header_forms.specs.AddressCharacters.{characters_from}
use Rattle.header_forms.specs.Groups.{Slices, last, slice, onto, sliced, sign_of, is_open_after, slices_from, Entry, with_item, entries_from}
use Rattle.header_forms.specs.Addresses.{in_part, phrase_of, address_of, group_of, is_shown, groups_by, groups_in}
use Rattle.header_forms.specs.PlainAddresses.{is_plain, is_plain_in_group, with_commas, group_text}
use Rattle.header_forms.proofs.PlainAddress.{ArePlain, and_first, and_second, plain_is, bare, plain_address, address_plain}

-- ---- characters

pub marks_more : (xs ys : List ℕ) → ArePlain xs → characters_from Outside (xs ++ ys) ≡ map bare xs ++ characters_from Outside ys
marks_more [] ys h = refl
marks_more (x ∷ xs) ys h =
    let p = plain_is x (and_first (is_plain x) (list_all is_plain xs) h) in
    rw (p.quote, p.parenthesis, p.bracket) (ap (λ ms. bare x ∷ ms) (marks_more xs ys (and_second (is_plain x) (list_all is_plain xs) h)))

-- ---- slices

-- no character of these is a sign
abbrev AreNoSigns : Bool → List ℕ → Type 0
AreNoSigns open' cs = AllByRecursion (λ c. sign_of open' (bare c) ≡ None) cs

slices_upto : (open' : Bool) (c : ℕ) (sign : Sign) (ms : List AddressCharacter) (xs : List ℕ) → sign_of open' (bare c) ≡ Some sign → AreNoSigns open' xs
    → slices_from (map bare xs ++ bare c ∷ ms) open' ≡ slice (map bare xs) sign (slices_from ms (is_open_after open' sign))
slices_upto open' c sign ms [] is h = ap (λ s. sliced s (bare c) open' (slices_from ms)) is
slices_upto open' c sign ms (x ∷ xs) is h =
    ap (λ s. sliced s (bare x) open' (slices_from (map bare xs ++ bare c ∷ ms))) h.0
    ∙ ap (onto (bare x)) (slices_upto open' c sign ms xs is h.1)

no_sign_outside : (cs : List ℕ) → ArePlain cs → AreNoSigns false cs
no_sign_outside [] h = tt
no_sign_outside (c ∷ cs) h =
    let p = plain_is c (and_first (is_plain c) (list_all is_plain cs) h) in
    (rw (p.comma, p.colon, and-false (eqb c 59)) refl, no_sign_outside cs (and_second (is_plain c) (list_all is_plain cs) h))

-- the characters are plain in a group
abbrev ArePlainInGroup : List ℕ → Type 0
ArePlainInGroup cs = list_all is_plain_in_group cs ≡ true

plain_in_group : (cs : List ℕ) → ArePlainInGroup cs → ArePlain cs
plain_in_group [] h = refl
plain_in_group (c ∷ cs) h =
    let one = and_first (is_plain c) (not (eqb c 59)) (and_first (is_plain_in_group c) (list_all is_plain_in_group cs) h) in
    rw one (plain_in_group cs (and_second (is_plain_in_group c) (list_all is_plain_in_group cs) h))

no_sign_inside : (cs : List ℕ) → ArePlainInGroup cs → AreNoSigns true cs
no_sign_inside [] h = tt
no_sign_inside (c ∷ cs) h =
    let one = and_first (is_plain_in_group c) (list_all is_plain_in_group cs) h in
    let p = plain_is c (and_first (is_plain c) (not (eqb c 59)) one) in
    let semicolon : eqb c 59 ≡ false = not-true (eqb c 59) (and_second (is_plain c) (not (eqb c 59)) one) in
    (rw (p.comma, p.colon, semicolon) refl, no_sign_inside cs (and_second (is_plain_in_group c) (list_all is_plain_in_group cs) h))

-- ---- the items of a group

abbrev IsItem : List ℕ → Type 0
IsItem cs = ArePlainInGroup cs × (0 < length (trimmed (encode_utf8_all cs)))

abbrev AreItems : List (List ℕ) → Type 0
AreItems items = AllByRecursion IsItem items

abbrev pieces : List (List ℕ) → Slices
pieces [] = slice [] Semicolon (last [])
pieces (i ∷ []) = slice (map bare i) Semicolon (last [])
pieces (i ∷ j ∷ is) = slice (map bare i) Comma (pieces (j ∷ is))

slices_items : (items : List (List ℕ)) → AreItems items → slices_from (characters_from Outside (with_commas items ++ 59 ∷ [])) true ≡ pieces items
slices_items [] h = refl
slices_items (i ∷ []) h =
    ap (λ ms. slices_from ms true) (marks_more i (59 ∷ []) (plain_in_group i h.0.0))
    ∙ slices_upto true 59 Semicolon [] i refl (no_sign_inside i h.0.0)
slices_items (i ∷ j ∷ is) h =
    let later = with_commas (j ∷ is) ++ 59 ∷ [] in
    ap (λ cs. slices_from (characters_from Outside cs) true) (append_assoc i (44 ∷ with_commas (j ∷ is)) (59 ∷ []))
    ∙ ap (λ ms. slices_from ms true) (marks_more i (44 ∷ later) (plain_in_group i h.0.0))
    ∙ slices_upto true 44 Comma (characters_from Outside later) i refl (no_sign_inside i h.0.0)
    ∙ ap (slice (map bare i) Comma) (slices_items (j ∷ is) h.1)

abbrev item_characters : List (List ℕ) → List (List AddressCharacter)
item_characters [] = [] ∷ []
item_characters (i ∷ []) = map bare i ∷ []
item_characters (i ∷ j ∷ is) = map bare i ∷ item_characters (j ∷ is)

-- what follows the group: no item
abbrev nothing : Entry
nothing = record { name = None; items = [] ∷ [] }

entries_items : (name : List AddressCharacter) (items : List (List ℕ))
    → entries_from (pieces items) (Some name) ≡ record { name = Some name; items = item_characters items } ∷ nothing ∷ []
entries_items name [] = refl
entries_items name (i ∷ []) = refl
entries_items name (i ∷ j ∷ is) = ap (with_item (map bare i)) (entries_items name (j ∷ is))

abbrev item_address : List ℕ → Address
item_address i = plain_address (trimmed (encode_utf8_all i))

addresses_items : (items : List (List ℕ)) → AreItems items → flat_map address_of (item_characters items) ≡ map item_address items
addresses_items [] h = refl
addresses_items (i ∷ []) h = ap (λ out. out ++ []) (address_plain (encode_utf8_all i) i refl h.0.1)
addresses_items (i ∷ j ∷ is) h =
    ap (λ out. out ++ flat_map address_of (item_characters (j ∷ is))) (address_plain (encode_utf8_all i) i refl h.0.1)
    ∙ ap (λ out. item_address i ∷ out) (addresses_items (j ∷ is) h.1)

-- ---- the group

pub all_said : (cs : List ℕ) → map (λ (m : AddressCharacter). m.character) (filter (in_part Phrase) (map bare cs)) ≡ cs
all_said [] = refl
all_said (c ∷ cs) = ap (λ t. c ∷ t) (all_said cs)

abbrev the_group : List ℕ → List (List ℕ) → Group
the_group name items = record { name = Some (decoded_words (trimmed (encode_utf8_all name))); addresses = map item_address items }

slices_group : (name : List ℕ) (items : List (List ℕ)) → ArePlain name → AreItems items
    → slices_from (characters_from Outside (group_text name items)) false ≡ slice (map bare name) Colon (pieces items)
slices_group name items plain good =
    let later = with_commas items ++ 59 ∷ [] in
    ap (λ ms. slices_from ms false) (marks_more name (58 ∷ later) plain)
    ∙ slices_upto false 58 Colon (characters_from Outside later) name refl (no_sign_outside name plain)
    ∙ ap (slice (map bare name) Colon) (slices_items items good)

pub one_group : (text name : List ℕ) (items : List (List ℕ)) → chars text ≡ group_text name items → ArePlain name → AreItems items
    → groups_in text ≡ the_group name items ∷ []
one_group text name items is plain good =
    ap (λ cs. groups_by (characters_from Outside cs)) is
    ∙ ap (λ s. filter is_shown (map group_of (entries_from s None))) (slices_group name items plain good)
    ∙ ap (λ es. filter is_shown (map group_of (record { name = None; items = [] } ∷ es))) (entries_items (map bare name) items)
    ∙ ap (λ out. record { name = Some (phrase_of Phrase (map bare name)); addresses = out } ∷ []) (addresses_items items good)
    ∙ ap (λ cs. record { name = Some (decoded_words (trimmed (encode_utf8_all cs))); addresses = map item_address items } ∷ []) (all_said name)
