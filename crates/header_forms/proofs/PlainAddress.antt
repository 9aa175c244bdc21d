-- A text of plain characters is one address.
use Rattle.std.proofs.Common.{◌≡◌, ℕ, suc, ◌<◌, ◌+◌, Bool, true, false, ◌&&◌, not, cond, eqb, ltb, List, [], ◌∷◌, ◌++◌, length, map, Some, None, refl, sym, ap, ◌∙◌, arith}
use Rattle.std.specs.Prelude.{filter}
use Rattle.std.specs.List.{list_all, list_any, position_or_len, before_first, flat_map}
use Rattle.std.specs.Str.{IsUtf8, chars, encode_utf8_all}
use Rattle.std.proofs.Math.Bool.{and-false}
use Rattle.std.proofs.lemmas.Bool.{true≢false, not-true, le-ltb}
use Rattle.std.proofs.lemmas.Str.{encodes-chars}
use Rattle.mail_text.specs.Texts.{trimmed}
use Rattle.header_forms.specs.declared.address_characters.AddressCharacter.{AddressCharacter}
use Rattle.header_forms.specs.declared.address_characters.Context.TheVariants.{Bare}
use Rattle.header_forms.specs.declared.address_characters.State.TheVariants.{Outside}
use Rattle.header_forms.specs.declared.address_characters.Part.TheVariants.{Plain, Remark, Phrase, Whole}
use Rattle.header_forms.specs.declared.address.Address.{Address}
use Rattle.header_forms.specs.declared.address.Group.{Group}
use Rattle.header_forms.specs.AddressCharacters.{characters_from}
use Rattle.header_forms.specs.Groups.{last, onto, sliced, sign_of, slices_from, entries_from}
use Rattle.header_forms.specs.Addresses.{in_part, part_text, within_bracket, phrase_of, is_shown, group_of, opens_bracket, has_bracket, email_of, if_some, or_else, comment_name, opens_comment, last_comment, name_of, address_of, if_address, groups_by, addresses_in}
use Rattle.header_forms.specs.PlainAddresses.{is_plain}

pub and_first : (p q : Bool) → (p && q) ≡ true → p ≡ true
and_first true q h = refl
and_first false q h = h

pub and_second : (p q : Bool) → (p && q) ≡ true → q ≡ true
and_second true q h = h
and_second false q h = absurd (true≢false (sym h))

pub record IsPlain (c : ℕ) : Type 0 where
  pub quote : eqb c 34 ≡ false
  pub parenthesis : eqb c 40 ≡ false
  pub comma : eqb c 44 ≡ false
  pub colon : eqb c 58 ≡ false
  pub bracket : eqb c 60 ≡ false

pub plain_is : (c : ℕ) → is_plain c ≡ true → IsPlain c
plain_is c h =
    let a = and_second (not (eqb c 34)) (not (eqb c 40) && (not (eqb c 44) && (not (eqb c 58) && not (eqb c 60)))) h in
    let b = and_second (not (eqb c 40)) (not (eqb c 44) && (not (eqb c 58) && not (eqb c 60))) a in
    let d = and_second (not (eqb c 44)) (not (eqb c 58) && not (eqb c 60)) b in
    record {
      quote = not-true (eqb c 34) (and_first (not (eqb c 34)) (not (eqb c 40) && (not (eqb c 44) && (not (eqb c 58) && not (eqb c 60)))) h);
      parenthesis = not-true (eqb c 40) (and_first (not (eqb c 40)) (not (eqb c 44) && (not (eqb c 58) && not (eqb c 60))) a);
      comma = not-true (eqb c 44) (and_first (not (eqb c 44)) (not (eqb c 58) && not (eqb c 60)) b);
      colon = not-true (eqb c 58) (and_first (not (eqb c 58)) (not (eqb c 60)) d);
      bracket = not-true (eqb c 60) (and_second (not (eqb c 58)) (not (eqb c 60)) d);
    }

-- a character outside quotes, comments and brackets
abbrev pub bare : ℕ → AddressCharacter
bare c = record { character = c; context = Bare; said = true }

abbrev pub ArePlain : List ℕ → Type 0
ArePlain cs = list_all is_plain cs ≡ true

marks_plain : (cs : List ℕ) → ArePlain cs → characters_from Outside cs ≡ map bare cs
marks_plain [] h = refl
marks_plain (c ∷ cs) h =
    let p = plain_is c (and_first (is_plain c) (list_all is_plain cs) h) in
    rw (p.quote, p.parenthesis, p.bracket) (ap (λ ms. bare c ∷ ms) (marks_plain cs (and_second (is_plain c) (list_all is_plain cs) h)))

no_sign : (c : ℕ) → IsPlain c → sign_of false (bare c) ≡ None
no_sign c p = rw (p.comma, p.colon, and-false (eqb c 59)) refl

slices_plain : (cs : List ℕ) → ArePlain cs → slices_from (map bare cs) false ≡ last (map bare cs)
slices_plain [] h = refl
slices_plain (c ∷ cs) h =
    ap (λ s. sliced s (bare c) false (slices_from (map bare cs))) (no_sign c (plain_is c (and_first (is_plain c) (list_all is_plain cs) h)))
    ∙ ap (onto (bare c)) (slices_plain cs (and_second (is_plain c) (list_all is_plain cs) h))

one_more : (n m : ℕ) → n ≡ m → 1 + n ≡ suc m
one_more n m e = omega (arith, e)

bracket_end : (cs : List ℕ) → position_or_len opens_bracket (map bare cs) ≡ length (map bare cs)
bracket_end [] = refl
bracket_end (c ∷ cs) = one_more (position_or_len opens_bracket (map bare cs)) (length (map bare cs)) (bracket_end cs)

no_bracket : (cs : List ℕ) → has_bracket (map bare cs) ≡ false
no_bracket cs =
    ap (λ n. ltb n (length (map bare cs))) (bracket_end cs) ∙ le-ltb (length (map bare cs)) (length (map bare cs)) (omega arith)

all_said : (cs : List ℕ) → map (λ (m : AddressCharacter). m.character) (filter (in_part Plain) (map bare cs)) ≡ cs
all_said [] = refl
all_said (c ∷ cs) = ap (λ t. c ∷ t) (all_said cs)

no_comments : (cs : List ℕ) → list_any opens_comment (map bare cs) ≡ false
no_comments [] = refl
no_comments (c ∷ cs) = no_comments cs

comment_none : (cs : List ℕ) → last_comment (map bare cs) ≡ []
comment_none [] = refl
comment_none (c ∷ cs) = ap (λ v. cond v (last_comment (map bare cs)) []) (no_comments cs)

name_none : (cs : List ℕ) → name_of (map bare cs) ≡ None
name_none cs =
    ap (λ v. or_else (cond v (if_some (phrase_of Phrase (before_first opens_bracket (map bare cs)))) None) (comment_name (map bare cs))) (no_bracket cs)
    ∙ ap (λ ms. if_some (phrase_of Remark ms)) (comment_none cs)

email_all : (cs : List ℕ) → email_of (map bare cs) ≡ trimmed (encode_utf8_all cs)
email_all cs =
    ap (λ v. cond v (trimmed (part_text Whole (within_bracket (map bare cs)))) (trimmed (part_text Plain (map bare cs)))) (no_bracket cs) ∙ ap (λ t. trimmed (encode_utf8_all t)) (all_said cs)

some_text : (t : List ℕ) → 0 < length t → if_some t ≡ Some t
some_text [] h = absurd (omega (arith, h))
some_text (b ∷ bs) h = refl

abbrev pub plain_address : List ℕ → Address
plain_address text = record { email = text; name = None }

pub address_plain : (text cs : List ℕ) → encode_utf8_all cs ≡ text → 0 < length (trimmed text) → address_of (map bare cs) ≡ plain_address (trimmed text) ∷ []
address_plain text cs e some =
    ap (λ o. if_address (if_some (email_of (map bare cs))) o) (name_none cs)
    ∙ ap (λ o. if_address o None) (ap if_some (email_all cs ∙ ap trimmed e) ∙ some_text (trimmed text) some)

pub one_address : (text : List ℕ) → IsUtf8 text → list_all is_plain (chars text) ≡ true → 0 < length (trimmed text)
    → addresses_in text ≡ plain_address (trimmed text) ∷ []
one_address text u plain some =
    let cs = chars text in
    ap (λ ms. flat_map (λ (g : Group). g.addresses) (groups_by ms)) (marks_plain cs plain)
    ∙ ap (λ s. flat_map (λ (g : Group). g.addresses) (filter is_shown (map group_of (entries_from s None)))) (slices_plain cs plain)
    ∙ ap (λ a. flat_map (λ (g : Group). g.addresses) (filter is_shown (record { name = None; addresses = a ++ [] } ∷ []))) (address_plain text cs (encodes-chars text u) some)
