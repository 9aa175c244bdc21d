-- Addresses that are written are read back.
use Rattle.std.proofs.Common.{◌≡◌, ℕ, ◌<◌, Bool, true, false, cond, eqb, ltb, ◌||◌, not, List, [], ◌∷◌, ◌++◌, length, get_or, map, filter, Option, Some, None, refl, sym, ap, ◌∙◌, append_assoc, length-append, arith}
use Rattle.std.specs.List.{AllByRecursion, flat_map, list_all, list_any, before_first}
use Rattle.std.specs.Str.{IsUtf8, encode_utf8_all}
use Rattle.std.proofs.Math.Bool.{and-false}
use Rattle.std.proofs.lemmas.Bool.{lt-ltb}
use Rattle.std.proofs.lemmas.List.{append-nil}
use Rattle.std.proofs.lemmas.Str.{chars-IsAscii, encodes-IsAscii}
use lib.Utf8.{encode}
use Rattle.mail_text.specs.Texts.{trimmed}
use Rattle.mime_lines.specs.Written.{fold, is_inline, parted_by}
use Rattle.mime_lines.proofs.Unfolds.{not_true}
use Rattle.mime_lines.proofs.FoldedTexts.{Folds, folds_both, folds_fold, folds_inline}
use Rattle.mime_words.specs.Words.{decoded_words}
use Rattle.mime_words.specs.WrittenWords.{words_by, words_text}
use Rattle.mime_words.proofs.WordTexts.{words_fold}
use Rattle.header_forms.specs.declared.address_characters.AddressCharacter.{AddressCharacter}
use Rattle.header_forms.specs.declared.address_characters.State.TheVariants.{Outside, InBracket}
use Rattle.header_forms.specs.declared.address_characters.Part.TheVariants.{Whole, Plain, Phrase, Remark}
use Rattle.header_forms.specs.declared.address_characters.Sign.TheVariants.{Comma}
use Rattle.header_forms.specs.declared.address.Address.{Address}
use Rattle.header_forms.specs.declared.address.Group.{Group}
use Rattle.header_forms.specs.Texts.{on_one_line}
use Rattle.header_forms.specs.AddressCharacters.{characters_from}
use Rattle.header_forms.specs.Groups.{last, slice, onto, sliced, sign_of, slices_from, Entry, with_item, entries_from}
use Rattle.header_forms.specs.Addresses.{part_text, opens_bracket, closes_bracket, has_bracket, within_bracket, email_of, phrase_of, if_some, or_else, comment_name, opens_comment, name_of, address_of, if_address, is_shown, group_of, addresses_in}
use Rattle.header_forms.specs.PlainAddresses.{is_plain, is_inner}
use Rattle.header_forms.specs.WrittenForms.{angled, is_name_character, is_plain_name, name_text, address_text, is_in_words, lead, addresses_value, is_address_character, IsName, IsMailbox}
use Rattle.header_forms.proofs.PlainAddress.{ArePlain, and_first, and_second, plain_is, bare}
use Rattle.header_forms.proofs.PlainGroup.{marks_more, all_said}
use Rattle.header_forms.proofs.QuotedName.{inner, bracket, none_inner, first_at, before_is, after_is, all_inner, no_comment, or_none, some_text}
use Rattle.header_forms.proofs.WrittenTexts.{both_all, all_weaker, IsWritten, is_written, written_ascii, printed_written, printed_inline, words_written, one_line}
use Rattle.header_forms.proofs.WrittenNames.{address_line, dark_all, email_dark, email_inner, email_printed, is_dark, is_printed, name_line, name_printed, plain_parts, said, said_name, trim_both, trim_dark}

-- ---- an address on one line

record Line (x y : List ℕ) : Type 0 where
  folds : Folds x y
  written : IsWritten x

line_both : (a b c d : List ℕ) → Line a b → Line c d → Line (a ++ c) (b ++ d)
line_both a b c d f g = record { folds = folds_both a b c d f.folds g.folds; written = both_all is_written a c f.written g.written }

line_printed : (t : List ℕ) → list_all is_printed t ≡ true → Line t t
line_printed t h = record { folds = folds_inline t (all_weaker is_printed is_inline printed_inline t h); written = all_weaker is_printed is_written printed_written t h }

line_fold : Line fold (32 ∷ [])
line_fold = record { folds = folds_fold; written = refl }

line_words : (name : List ℕ) → IsUtf8 name → Line (words_text name) (words_by (32 ∷ []) name)
line_words name u = record { folds = words_fold name u; written = words_written name u }

line_name : (o : Option (List ℕ)) → IsName o → Line (name_text o) (name_line o)
line_name None h = line_printed [] refl
line_name (Some name) h = elim (is_plain_name name) as (λ v. is_plain_name name ≡ v → Line (cond v (name ++ 32 ∷ []) (words_text name ++ fold)) (cond v name (words_by (32 ∷ []) name) ++ 32 ∷ [])) [
  | true ↦ λ e. line_printed (name ++ 32 ∷ []) (both_all is_printed name (32 ∷ []) (all_weaker is_name_character is_printed name_printed name (plain_parts name e).1) refl)
  | false ↦ λ _. line_both (words_text name) (words_by (32 ∷ []) name) fold (32 ∷ []) (line_words name h.0.utf8) line_fold
] refl

line_address : (a : Address) → IsMailbox a → Line (address_text a) (address_line a)
line_address a h =
    line_both (name_text a.name) (name_line a.name) (angled a.email) (angled a.email) (line_name a.name h.name)
    (line_printed (angled a.email) (both_all is_printed a.email (62 ∷ []) (all_weaker is_address_character is_printed email_printed a.email h.each) refl))

abbrev AllMailboxes : List Address → Type 0
AllMailboxes as' = AllByRecursion IsMailbox as'

abbrev parted : List Address → List ℕ
parted items = parted_by (44 ∷ 32 ∷ []) (map address_line items)

line_items : (items : List Address) → AllMailboxes items → Line (parted_by (44 ∷ fold) (map address_text items)) (parted items)
line_items [] h = line_printed [] refl
line_items (a ∷ []) h = line_address a h.0
line_items (a ∷ b ∷ bs) h =
    line_both (address_text a) (address_line a) ((44 ∷ fold) ++ parted_by (44 ∷ fold) (map address_text (b ∷ bs))) ((44 ∷ 32 ∷ []) ++ parted (b ∷ bs)) (line_address a h.0)
    (line_both (44 ∷ fold) (44 ∷ 32 ∷ []) (parted_by (44 ∷ fold) (map address_text (b ∷ bs))) (parted (b ∷ bs))
    (line_both (44 ∷ []) (44 ∷ []) fold (32 ∷ []) (line_printed (44 ∷ []) refl) line_fold) (line_items (b ∷ bs) h.1))

line_lead : (items : List Address) → Line (lead items) (32 ∷ [])
line_lead [] = line_printed (32 ∷ []) refl
line_lead (a ∷ later) = elim (is_in_words a.name) as (λ v. Line (cond v fold (32 ∷ [])) (32 ∷ [])) [ true ↦ line_fold | false ↦ line_printed (32 ∷ []) refl ]

line_value : (items : List Address) → AllMailboxes items → Line (addresses_value items) (32 ∷ parted items)
line_value items h = line_both (lead items) (32 ∷ []) (parted_by (44 ∷ fold) (map address_text items)) (parted items) (line_lead items) (line_items items h)

-- what is on one line is written too
written_name : (o : Option (List ℕ)) → IsName o → IsWritten (name_line o)
written_name None h = refl
written_name (Some name) h = both_all is_written (said name) (32 ∷ []) (said_name name h.0 h.1).written refl

written_address : (a : Address) → IsMailbox a → IsWritten (address_line a)
written_address a h =
    both_all is_written (name_line a.name) (angled a.email) (written_name a.name h.name)
    (all_weaker is_printed is_written printed_written (angled a.email) (both_all is_printed a.email (62 ∷ []) (all_weaker is_address_character is_printed email_printed a.email h.each) refl))

written_items : (items : List Address) → AllMailboxes items → IsWritten (parted items)
written_items [] h = refl
written_items (a ∷ []) h = written_address a h.0
written_items (a ∷ b ∷ bs) h = both_all is_written (address_line a) (44 ∷ 32 ∷ parted (b ∷ bs)) (written_address a h.0) (written_items (b ∷ bs) h.1)

-- ---- its characters

abbrev closing : List ℕ → List AddressCharacter
closing email = map inner email ++ bracket 62 ∷ []

-- a name and what parts it from the bracket, and the bracket
abbrev item : List ℕ → List ℕ → List AddressCharacter
item front email = map bare front ++ bracket 60 ∷ closing email

in_bracket : (email rest : List ℕ) → list_all is_inner email ≡ true → characters_from InBracket (email ++ 62 ∷ rest) ≡ map inner email ++ bracket 62 ∷ characters_from Outside rest
in_bracket [] rest h = refl
in_bracket (c ∷ cs) rest h =
    let p = and_first (is_inner c) (list_all is_inner cs) h in
    let quote = not_true (eqb c 34) (and_first (not (eqb c 34)) (not (eqb c 62)) p) in
    let close = not_true (eqb c 62) (and_second (not (eqb c 34)) (not (eqb c 62)) p) in
    rw (close, quote) (ap (λ ms. inner c ∷ ms) (in_bracket cs rest (and_second (is_inner c) (list_all is_inner cs) h)))

item_marks : (front email rest : List ℕ) → ArePlain front → list_all is_inner email ≡ true
    → characters_from Outside (front ++ (angled email ++ rest)) ≡ item front email ++ characters_from Outside rest
item_marks front email rest p h =
    let later = characters_from Outside rest in
    marks_more front (angled email ++ rest) p
    ∙ ap (λ t. map bare front ++ bracket 60 ∷ characters_from InBracket t) (append_assoc email (62 ∷ []) rest)
    ∙ ap (λ ms. map bare front ++ bracket 60 ∷ ms) (in_bracket email rest h ∙ sym (append_assoc (map inner email) (bracket 62 ∷ []) later))
    ∙ sym (append_assoc (map bare front) (bracket 60 ∷ closing email) later)

-- the text before an address's bracket, with the space before it
abbrev front_of : Address → List ℕ
front_of a = 32 ∷ name_line a.name

abbrev item_of : Address → List AddressCharacter
item_of a = item (front_of a) a.email

plain_line : (o : Option (List ℕ)) → IsName o → ArePlain (name_line o)
plain_line None h = refl
plain_line (Some name) h = both_all is_plain (said name) (32 ∷ []) (said_name name h.0 h.1).plain refl

inner_email : (a : Address) → IsMailbox a → list_all is_inner a.email ≡ true
inner_email a h = all_weaker is_address_character is_inner email_inner a.email h.each

address_marks : (a : Address) (rest : List ℕ) → IsMailbox a → characters_from Outside (32 ∷ (address_line a ++ rest)) ≡ item_of a ++ characters_from Outside rest
address_marks a rest h =
    ap (λ t. characters_from Outside (32 ∷ t)) (append_assoc (name_line a.name) (angled a.email) rest)
    ∙ item_marks (front_of a) a.email rest (plain_line a.name h.name) (inner_email a h)

-- several
abbrev items_marks : Address → List Address → List AddressCharacter
items_marks a [] = item_of a
items_marks a (b ∷ bs) = item_of a ++ bare 44 ∷ items_marks b bs

marks_are : (a : Address) (later : List Address) → AllMailboxes (a ∷ later) → characters_from Outside (32 ∷ parted (a ∷ later)) ≡ items_marks a later
marks_are a [] h =
    ap (λ t. characters_from Outside (32 ∷ t)) (sym (append-nil (address_line a))) ∙ address_marks a [] h.0 ∙ append-nil (item_of a)
marks_are a (b ∷ bs) h =
    address_marks a (44 ∷ 32 ∷ parted (b ∷ bs)) h.0 ∙ ap (λ ms. item_of a ++ bare 44 ∷ ms) (marks_are b bs h.1)

-- ---- cut at commas

abbrev AreSilent : List AddressCharacter → Type 0
AreSilent ms = AllByRecursion (λ m. sign_of false m ≡ None) ms

silent_both : (xs ys : List AddressCharacter) → AreSilent xs → AreSilent ys → AreSilent (xs ++ ys)
silent_both [] ys h k = k
silent_both (x ∷ xs) ys h k = (h.0, silent_both xs ys h.1 k)

silent_bare : (cs : List ℕ) → ArePlain cs → AreSilent (map bare cs)
silent_bare [] h = tt
silent_bare (c ∷ cs) h =
    let p = plain_is c (and_first (is_plain c) (list_all is_plain cs) h) in
    (rw (p.comma, p.colon, and-false (eqb c 59)) refl, silent_bare cs (and_second (is_plain c) (list_all is_plain cs) h))

silent_inner : (cs : List ℕ) → AreSilent (map inner cs)
silent_inner [] = tt
silent_inner (c ∷ cs) = (refl, silent_inner cs)

silent_item : (a : Address) → IsMailbox a → AreSilent (item_of a)
silent_item a h =
    silent_both (map bare (front_of a)) (bracket 60 ∷ closing a.email) (silent_bare (front_of a) (plain_line a.name h.name))
    (refl, silent_both (map inner a.email) (bracket 62 ∷ []) (silent_inner a.email) (refl, tt))

slices_last : (ms : List AddressCharacter) → AreSilent ms → slices_from ms false ≡ last ms
slices_last [] h = refl
slices_last (m ∷ ms) h = ap (λ s. sliced s m false (slices_from ms)) h.0 ∙ ap (onto m) (slices_last ms h.1)

slices_comma : (ms more : List AddressCharacter) → AreSilent ms → slices_from (ms ++ bare 44 ∷ more) false ≡ slice ms Comma (slices_from more false)
slices_comma [] more h = refl
slices_comma (m ∷ ms) more h = ap (λ s. sliced s m false (slices_from (ms ++ bare 44 ∷ more))) h.0 ∙ ap (onto m) (slices_comma ms more h.1)

abbrev entry_of : List (List AddressCharacter) → List Entry
entry_of items = record { name = None; items = items } ∷ []

entries_are : (a : Address) (later : List Address) → AllMailboxes (a ∷ later)
    → entries_from (slices_from (items_marks a later) false) None ≡ entry_of (map item_of (a ∷ later))
entries_are a [] h = ap (λ s. entries_from s None) (slices_last (item_of a) (silent_item a h.0))
entries_are a (b ∷ bs) h =
    ap (λ s. entries_from s None) (slices_comma (item_of a) (items_marks b bs) (silent_item a h.0))
    ∙ ap (with_item (item_of a)) (entries_are b bs h.1)

-- ---- one address

none_bare : (test : AddressCharacter → Bool) (cs : List ℕ) (more : List AddressCharacter) → ((c : ℕ) → test (bare c) ≡ false) → list_any test (map bare cs ++ more) ≡ list_any test more
none_bare test [] more f = refl
none_bare test (c ∷ cs) more f = ap (λ b. b || list_any test (map bare cs ++ more)) (f c) ∙ none_bare test cs more f

none_front : (test : AddressCharacter → Bool) (cs : List ℕ) → ((c : ℕ) → test (bare c) ≡ false) → list_any test (map bare cs) ≡ false
none_front test cs f = ap (list_any test) (sym (append-nil (map bare cs))) ∙ none_bare test cs [] f

has_one : (front email : List ℕ) → has_bracket (item front email) ≡ true
has_one front email =
    ap (λ n. ltb n (length (item front email))) (first_at opens_bracket (map bare front) (bracket 60) (closing email) (none_front opens_bracket front (λ c. refl)) refl)
    ∙ lt-ltb (length (map bare front)) (length (item front email)) (omega (arith, length-append (map bare front) (bracket 60 ∷ closing email)))

within : (front email : List ℕ) → within_bracket (item front email) ≡ map inner email
within front email =
    ap (before_first closes_bracket) (after_is opens_bracket (map bare front) (bracket 60) (closing email) (none_front opens_bracket front (λ c. refl)) refl)
    ∙ before_is closes_bracket (map inner email) (bracket 62) []
    (ap (list_any closes_bracket) (sym (append-nil (map inner email))) ∙ none_inner closes_bracket email [] (λ c. refl)) refl

no_comments : (front email : List ℕ) → list_any opens_comment (item front email) ≡ false
no_comments front email = none_bare opens_comment front (bracket 60 ∷ closing email) (λ c. refl) ∙ none_inner opens_comment email (bracket 62 ∷ []) (λ c. refl)

name_is : (front email : List ℕ) → name_of (item front email) ≡ if_some (decoded_words (trimmed (encode_utf8_all front)))
name_is front email =
    let whole = item front email in
    ap (λ v. or_else (cond v (if_some (phrase_of Phrase (before_first opens_bracket whole))) None) (comment_name whole)) (has_one front email)
    ∙ ap (λ ms. or_else (if_some (phrase_of Phrase ms)) (comment_name whole)) (before_is opens_bracket (map bare front) (bracket 60) (closing email) (none_front opens_bracket front (λ c. refl)) refl)
    ∙ ap (λ ms. or_else (if_some (phrase_of Phrase (map bare front))) (if_some (phrase_of Remark ms))) (no_comment whole (no_comments front email))
    ∙ or_none (if_some (phrase_of Phrase (map bare front)))
    ∙ ap (λ t. if_some (decoded_words (trimmed (encode_utf8_all t)))) (all_said front)

email_is : (front email : List ℕ) → email_of (item front email) ≡ trimmed (encode_utf8_all email)
email_is front email =
    ap (λ v. cond v (trimmed (part_text Whole (within_bracket (item front email)))) (trimmed (part_text Plain (item front email)))) (has_one front email)
    ∙ ap (λ ms. trimmed (part_text Whole ms)) (within front email)
    ∙ ap (λ t. trimmed (encode_utf8_all t)) (all_inner email)

email_back : (a : Address) → IsMailbox a → email_of (item_of a) ≡ a.email
email_back a h =
    let printed = all_weaker is_address_character is_printed email_printed a.email h.each in
    email_is (front_of a) a.email
    ∙ ap trimmed (encodes-IsAscii a.email (written_ascii a.email (all_weaker is_printed is_written printed_written a.email printed)))
    ∙ trim_dark a.email (dark_all a.email h.some (all_weaker is_address_character is_dark email_dark a.email h.each))

name_told : (o : Option (List ℕ)) → IsName o → if_some (decoded_words (trimmed (32 ∷ name_line o))) ≡ o
name_told None h = refl
name_told (Some name) h =
    let s = said_name name h.0 h.1 in
    ap (λ t. if_some (decoded_words t)) (trim_both (said name) s.dark) ∙ ap if_some s.is ∙ some_text name h.1

name_back : (a : Address) → IsMailbox a → name_of (item_of a) ≡ a.name
name_back a h =
    name_is (front_of a) a.email
    ∙ ap (λ t. if_some (decoded_words (trimmed t))) (encodes-IsAscii (front_of a) (written_ascii (front_of a) (written_name a.name h.name)))
    ∙ name_told a.name h.name

address_back : (a : Address) → IsMailbox a → address_of (item_of a) ≡ a ∷ []
address_back a h =
    ap (λ o. if_address (if_some (email_of (item_of a))) o) (name_back a h)
    ∙ ap (λ o. if_address o a.name) (ap if_some (email_back a h) ∙ some_text a.email h.some)

all_back : (items : List Address) → AllMailboxes items → flat_map address_of (map item_of items) ≡ items
all_back [] h = refl
all_back (a ∷ later) h = ap (λ t. t ++ flat_map address_of (map item_of later)) (address_back a h.0) ∙ ap (λ t. a ∷ t) (all_back later h.1)

-- ---- all

abbrev shown_of : List Entry → List Address
shown_of es = flat_map (λ (g : Group). g.addresses) (filter is_shown (map group_of es))

some_back : (a : Address) (later : List Address) → AllMailboxes (a ∷ later) → addresses_in (32 ∷ parted (a ∷ later)) ≡ a ∷ later
some_back a later h =
    let line = 32 ∷ parted (a ∷ later) in
    ap (λ cs. shown_of (entries_from (slices_from (characters_from Outside cs) false) None)) (chars-IsAscii line (written_ascii line (written_items (a ∷ later) h)))
    ∙ ap (λ ms. shown_of (entries_from (slices_from ms false) None)) (marks_are a later h)
    ∙ ap shown_of (entries_are a later h)
    ∙ ap (λ as'. flat_map (λ (g : Group). g.addresses) (filter is_shown (record { name = None; addresses = as' } ∷ []))) (all_back (a ∷ later) h)
    ∙ append-nil (a ∷ later)

none_back : addresses_in (32 ∷ []) ≡ []
unfolding encode
none_back =
    let ascii : (i : ℕ) → get_or (32 ∷ []) i 0 < 128 = written_ascii (32 ∷ []) refl in
    ap (λ cs. shown_of (entries_from (slices_from (characters_from Outside cs) false) None)) (chars-IsAscii (32 ∷ []) ascii)

pub addresses_back : (items : List Address) → AllMailboxes items → addresses_in (on_one_line (addresses_value items)) ≡ items
addresses_back [] h = ap addresses_in (one_line (addresses_value []) (32 ∷ []) refl (line_value [] h).folds) ∙ none_back
addresses_back (a ∷ later) h =
    let line = line_value (a ∷ later) h in
    ap addresses_in (one_line (addresses_value (a ∷ later)) (32 ∷ parted (a ∷ later)) line.written line.folds) ∙ some_back a later h
