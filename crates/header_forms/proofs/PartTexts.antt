-- The text of a part, a character at a time, and the last comment.
use Rattle.std.proofs.Common.{◌≡◌, ℕ, true, false, ◌||◌, cond, List, [], ◌∷◌, ◌++◌, map, filter, refl}
use Rattle.std.specs.List.{list_any}
use Rattle.std.specs.Str.{encode_utf8_all}
use Rattle.std.proofs.lemmas.Str.{encodes-append}
use Rattle.header_forms.specs.declared.address_characters.AddressCharacter.{AddressCharacter}
use Rattle.header_forms.specs.declared.address_characters.Part.{Part}
use Rattle.header_forms.specs.Addresses.{in_part, part_text, opens_comment, last_comment}

abbrev characters_text : List AddressCharacter → List ℕ
characters_text ms = encode_utf8_all (map (λ m. m.character) ms)

pub part_text_first : (part : Part) (m : AddressCharacter) (ms : List AddressCharacter) → part_text part (m ∷ ms) ≡ part_text part (m ∷ []) ++ part_text part ms
part_text_first part m ms = elim (in_part part m) as (λ v. characters_text (cond v (m ∷ filter (in_part part) ms) (filter (in_part part) ms)) ≡ characters_text (cond v (m ∷ []) []) ++ part_text part ms) [
  | true ↦ encodes-append (m.character ∷ []) (map (λ m. m.character) (filter (in_part part) ms))
  | false ↦ refl
]

-- the last comment, where this follows the last one that was found up to here
abbrev pub comment_from : List AddressCharacter → List AddressCharacter → List AddressCharacter
comment_from found rest = cond (list_any opens_comment rest) (last_comment rest) found

pub comment_begun : (ms : List AddressCharacter) → comment_from [] ms ≡ last_comment ms
comment_begun [] = refl
comment_begun (m ∷ ms) =
    let w = opens_comment m in
    elim (list_any opens_comment ms) as (λ v. cond (w || v) (cond v (last_comment ms) (cond w ms [])) [] ≡ cond v (last_comment ms) (cond w ms [])) [
      | true ↦ elim (opens_comment m) as (λ w. cond (w || true) (last_comment ms) [] ≡ last_comment ms) [ true ↦ refl | false ↦ refl ]
      | false ↦ elim (opens_comment m) as (λ w. cond (w || false) (cond w ms []) [] ≡ cond w ms []) [ true ↦ refl | false ↦ refl ]
    ]

pub comment_passed : (found : List AddressCharacter) (m : AddressCharacter) (ms : List AddressCharacter) → comment_from (cond (opens_comment m) ms found) ms ≡ comment_from found (m ∷ ms)
comment_passed found m ms =
    let w = opens_comment m in
    elim (list_any opens_comment ms) as (λ v. cond v (last_comment ms) (cond w ms found) ≡ cond (w || v) (cond v (last_comment ms) (cond w ms [])) found) [
      | true ↦ elim (opens_comment m) as (λ w. last_comment ms ≡ cond (w || true) (last_comment ms) found) [ true ↦ refl | false ↦ refl ]
      | false ↦ elim (opens_comment m) as (λ w. cond w ms found ≡ cond (w || false) (cond w ms []) found) [ true ↦ refl | false ↦ refl ]
    ]
