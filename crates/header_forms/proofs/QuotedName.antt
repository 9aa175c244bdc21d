-- A display-name between quote marks is read as what was quoted.
use Rattle.std.proofs.Common.{◌≡◌, ℕ, suc, ◌<◌, ◌+◌, Bool, true, false, ◌&&◌, ◌||◌, not, cond, eqb, ltb, List, [], ◌∷◌, ◌++◌, length, map, take, drop, Option, Some, None, refl, sym, ap, ◌∙◌, arith, length-append, append_assoc}
use Rattle.std.specs.Prelude.{filter}
use Rattle.std.specs.List.{list_all, list_any, position_or_len, before_first, after_first, flat_map}
use Rattle.std.specs.Str.{chars, encode_utf8_all}
use Rattle.std.proofs.lemmas.Bool.{true≢false, not-true, lt-ltb}
use Rattle.std.proofs.lemmas.List.{append-nil, take_at, drop_at}
use Rattle.mime_words.specs.Words.{decoded_words}
use Rattle.mail_text.specs.Texts.{trimmed}
use Rattle.header_forms.specs.declared.address_characters.AddressCharacter.{AddressCharacter}
use Rattle.header_forms.specs.declared.address_characters.Context.TheVariants.{Quoted, Bracket}
use Rattle.header_forms.specs.declared.address_characters.State.TheVariants.{Outside, InQuotes, InBracket}
use Rattle.header_forms.specs.declared.address_characters.Part.TheVariants.{Whole, Plain, Phrase, Remark}
use Rattle.header_forms.specs.declared.address.Address.{Address}
use Rattle.header_forms.specs.declared.address.Group.{Group}
use Rattle.header_forms.specs.AddressCharacters.{characters_from}
use Rattle.header_forms.specs.Groups.{is_bare, bare_sign, last, onto, sliced, slices_from, entries_from}
use Rattle.header_forms.specs.Addresses.{in_part, part_text, opens_bracket, closes_bracket, has_bracket, within_bracket, email_of, phrase_of, if_some, or_else, comment_name, opens_comment, last_comment, name_of, address_of, if_address, is_shown, group_of, groups_by, addresses_in}
use Rattle.header_forms.specs.PlainAddresses.{quoted, is_inner}

and_first : (p q : Bool) → (p && q) ≡ true → p ≡ true
and_first true q h = refl
and_first false q h = h

and_second : (p q : Bool) → (p && q) ≡ true → q ≡ true
and_second true q h = h
and_second false q h = absurd (true≢false (sym h))

-- a character between quote marks, and a sign there
abbrev said : ℕ → AddressCharacter
said c = record { character = c; context = Quoted; said = true }

abbrev sign : ℕ → AddressCharacter
sign c = record { character = c; context = Quoted; said = false }

-- a character in a bracket, and a sign there
abbrev pub inner : ℕ → AddressCharacter
inner c = record { character = c; context = Bracket; said = true }

abbrev pub bracket : ℕ → AddressCharacter
bracket c = record { character = c; context = Bracket; said = false }

abbrev name_characters : List ℕ → List AddressCharacter
name_characters [] = []
name_characters (c ∷ cs) = cond (eqb c 34 || eqb c 92) (sign 92 ∷ said c ∷ name_characters cs) (said c ∷ name_characters cs)

in_quotes : (cs rest : List ℕ) → characters_from (InQuotes false) (quoted cs ++ 34 ∷ rest) ≡ name_characters cs ++ sign 34 ∷ characters_from Outside rest
in_quotes [] rest = refl
in_quotes (c ∷ cs) rest =
    elim (eqb c 34) as (λ v. eqb c 34 ≡ v → characters_from (InQuotes false) (quoted (c ∷ cs) ++ 34 ∷ rest) ≡ name_characters (c ∷ cs) ++ sign 34 ∷ characters_from Outside rest) [
      | true ↦ λ h. rw h (ap (λ ms. sign 92 ∷ said c ∷ ms) (in_quotes cs rest))
      | false ↦ λ h. elim (eqb c 92) as (λ v. eqb c 92 ≡ v → characters_from (InQuotes false) (quoted (c ∷ cs) ++ 34 ∷ rest) ≡ name_characters (c ∷ cs) ++ sign 34 ∷ characters_from Outside rest) [
        | true ↦ λ k. rw (h, k) (ap (λ ms. sign 92 ∷ said c ∷ ms) (in_quotes cs rest))
        | false ↦ λ k. rw (h, k) (rw (h, k) (ap (λ ms. said c ∷ ms) (in_quotes cs rest)))
      ] refl
    ] refl

in_bracket : (cs : List ℕ) → list_all is_inner cs ≡ true → characters_from InBracket (cs ++ 62 ∷ []) ≡ map inner cs ++ bracket 62 ∷ []
in_bracket [] h = refl
in_bracket (c ∷ cs) h =
    let p = and_first (is_inner c) (list_all is_inner cs) h in
    let quote = not-true (eqb c 34) (and_first (not (eqb c 34)) (not (eqb c 62)) p) in
    let close = not-true (eqb c 62) (and_second (not (eqb c 34)) (not (eqb c 62)) p) in
    rw (close, quote) (ap (λ ms. inner c ∷ ms) (in_bracket cs (and_second (is_inner c) (list_all is_inner cs) h)))

abbrev front : List ℕ → List AddressCharacter
front name = sign 34 ∷ (name_characters name ++ sign 34 ∷ [])

abbrev rest : List ℕ → List AddressCharacter
rest address = map inner address ++ bracket 62 ∷ []

abbrev item : List ℕ → List ℕ → List AddressCharacter
item name address = front name ++ bracket 60 ∷ rest address

all_marks : (name address : List ℕ) → list_all is_inner address ≡ true
    → characters_from Outside (34 ∷ (quoted name ++ 34 ∷ 60 ∷ (address ++ 62 ∷ []))) ≡ item name address
all_marks name address h =
    ap (λ ms. sign 34 ∷ ms) (in_quotes name (60 ∷ (address ++ 62 ∷ [])))
    ∙ ap (λ ms. sign 34 ∷ (name_characters name ++ sign 34 ∷ bracket 60 ∷ ms)) (in_bracket address h)
    ∙ ap (λ ms. sign 34 ∷ ms) (sym (append_assoc (name_characters name) (sign 34 ∷ []) (bracket 60 ∷ rest address)))

-- a test that no character of a name passes, and none of an address
none_in : (test : AddressCharacter → Bool) (cs : List ℕ) (more : List AddressCharacter) → ((c : ℕ) → test (said c) ≡ false) → ((c : ℕ) → test (sign c) ≡ false)
    → list_any test (name_characters cs ++ more) ≡ list_any test more
none_in test [] more f g = refl
none_in test (c ∷ cs) more f g =
    elim (eqb c 34 || eqb c 92) as (λ v. list_any test (cond v (sign 92 ∷ said c ∷ name_characters cs) (said c ∷ name_characters cs) ++ more) ≡ list_any test more) [
      | true ↦ ap (λ b. b || (test (said c) || list_any test (name_characters cs ++ more))) (g 92) ∙ ap (λ b. b || list_any test (name_characters cs ++ more)) (f c) ∙ none_in test cs more f g
      | false ↦ ap (λ b. b || list_any test (name_characters cs ++ more)) (f c) ∙ none_in test cs more f g
    ]

pub none_inner : (test : AddressCharacter → Bool) (cs : List ℕ) (more : List AddressCharacter) → ((c : ℕ) → test (inner c) ≡ false) → list_any test (map inner cs ++ more) ≡ list_any test more
none_inner test [] more f = refl
none_inner test (c ∷ cs) more f = ap (λ b. b || list_any test (map inner cs ++ more)) (f c) ∙ none_inner test cs more f

one_more : (n m : ℕ) → n ≡ m → 1 + n ≡ suc m
one_more n m e = omega (arith, e)

or_false : (p q : Bool) → (p || q) ≡ false → (p ≡ false) × (q ≡ false)
or_false true q h = absurd (true≢false h)
or_false false q h = (refl, h)

-- the first character that passes a test follows those that don't
pub first_at : (test : AddressCharacter → Bool) (ms : List AddressCharacter) (m : AddressCharacter) (more : List AddressCharacter) → list_any test ms ≡ false → test m ≡ true
    → position_or_len test (ms ++ m ∷ more) ≡ length ms
first_at test [] m more none is = rw is refl
first_at test (x ∷ xs) m more none is =
    let both = or_false (test x) (list_any test xs) none in
    rw both.0 (one_more (position_or_len test (xs ++ m ∷ more)) (length xs) (first_at test xs m more both.1 is))

pub before_is : (test : AddressCharacter → Bool) (ms : List AddressCharacter) (m : AddressCharacter) (more : List AddressCharacter) → list_any test ms ≡ false → test m ≡ true → before_first test (ms ++ m ∷ more) ≡ ms
before_is test ms m more none is = ap (λ n. take n (ms ++ m ∷ more)) (first_at test ms m more none is) ∙ take_at ms (m ∷ more) (length ms) refl

drop_one : (ms : List AddressCharacter) (m : AddressCharacter) (more : List AddressCharacter) → drop (length ms + 1) (ms ++ m ∷ more) ≡ more
drop_one ms m more = ap (λ t. drop (length ms + 1) t) (sym (append_assoc ms (m ∷ []) more)) ∙ drop_at (ms ++ m ∷ []) more (length ms + 1) (omega (arith, length-append ms (m ∷ [])))

pub after_is : (test : AddressCharacter → Bool) (ms : List AddressCharacter) (m : AddressCharacter) (more : List AddressCharacter) → list_any test ms ≡ false → test m ≡ true → after_first test (ms ++ m ∷ more) ≡ more
after_is test ms m more none is = ap (λ n. drop (n + 1) (ms ++ m ∷ more)) (first_at test ms m more none is) ∙ drop_one ms m more

front_opens : (name : List ℕ) → list_any opens_bracket (front name) ≡ false
front_opens name = none_in opens_bracket name (sign 34 ∷ []) (λ c. refl) (λ c. refl)

has_one : (name address : List ℕ) → has_bracket (item name address) ≡ true
has_one name address =
    ap (λ n. ltb n (length (item name address))) (first_at opens_bracket (front name) (bracket 60) (rest address) (front_opens name) refl)
    ∙ lt-ltb (length (front name)) (length (item name address)) (omega (arith, length-append (front name) (bracket 60 ∷ rest address)))

within : (name address : List ℕ) → within_bracket (item name address) ≡ map inner address
within name address =
    ap (before_first closes_bracket) (after_is opens_bracket (front name) (bracket 60) (rest address) (front_opens name) refl)
    ∙ before_is closes_bracket (map inner address) (bracket 62) []
    (ap (list_any closes_bracket) (sym (append-nil (map inner address))) ∙ none_inner closes_bracket address [] (λ c. refl)) refl

pub all_inner : (cs : List ℕ) → map (λ (m : AddressCharacter). m.character) (filter (in_part Whole) (map inner cs)) ≡ cs
all_inner [] = refl
all_inner (c ∷ cs) = ap (λ t. c ∷ t) (all_inner cs)

name_said : (cs : List ℕ) → map (λ (m : AddressCharacter). m.character) (filter (in_part Phrase) (name_characters cs ++ sign 34 ∷ [])) ≡ cs
name_said [] = refl
name_said (c ∷ cs) =
    elim (eqb c 34 || eqb c 92) as (λ v. map (λ (m : AddressCharacter). m.character) (filter (in_part Phrase) (cond v (sign 92 ∷ said c ∷ name_characters cs) (said c ∷ name_characters cs) ++ sign 34 ∷ [])) ≡ c ∷ cs) [
      | true ↦ ap (λ t. c ∷ t) (name_said cs)
      | false ↦ ap (λ t. c ∷ t) (name_said cs)
    ]

-- no sign that cuts a list
slices_whole : (ms : List AddressCharacter) → list_any (λ (m : AddressCharacter). is_bare m.context) ms ≡ false → slices_from ms false ≡ last ms
slices_whole [] h = refl
slices_whole (m ∷ ms) h =
    let both = or_false (is_bare m.context) (list_any (λ (x : AddressCharacter). is_bare x.context) ms) h in
    ap (λ v. sliced (cond v (bare_sign false m.character) None) m false (slices_from ms)) both.0
    ∙ ap (onto m) (slices_whole ms both.1)

item_none : (test : AddressCharacter → Bool) (name address : List ℕ) → ((c : ℕ) → test (said c) ≡ false) → ((c : ℕ) → test (sign c) ≡ false)
    → ((c : ℕ) → test (inner c) ≡ false) → ((c : ℕ) → test (bracket c) ≡ false) → list_any test (item name address) ≡ false
item_none test name address f g h k =
    ap (λ b. b || list_any test ((name_characters name ++ sign 34 ∷ []) ++ bracket 60 ∷ rest address)) (g 34)
    ∙ ap (list_any test) (append_assoc (name_characters name) (sign 34 ∷ []) (bracket 60 ∷ rest address))
    ∙ none_in test name (sign 34 ∷ bracket 60 ∷ rest address) f g
    ∙ ap (λ b. b || (test (bracket 60) || list_any test (rest address))) (g 34)
    ∙ ap (λ b. b || list_any test (rest address)) (k 60)
    ∙ none_inner test address (bracket 62 ∷ []) h
    ∙ ap (λ b. b || false) (k 62)

pub no_comment : (ms : List AddressCharacter) → list_any opens_comment ms ≡ false → last_comment ms ≡ []
no_comment [] h = refl
no_comment (m ∷ ms) h =
    let both = or_false (opens_comment m) (list_any opens_comment ms) h in
    ap (λ v. cond v (last_comment ms) (cond (opens_comment m) ms [])) both.1 ∙ ap (λ v. cond v ms []) both.0

pub or_none : (o : Option (List ℕ)) → or_else o None ≡ o
or_none None = refl
or_none (Some t) = refl

abbrev meant : List ℕ → Option (List ℕ)
meant name = if_some (decoded_words (trimmed (encode_utf8_all name)))

name_is : (name address : List ℕ) → name_of (item name address) ≡ meant name
name_is name address =
    ap (λ v. or_else (cond v (if_some (phrase_of Phrase (before_first opens_bracket (item name address)))) None) (comment_name (item name address))) (has_one name address)
    ∙ ap (λ ms. or_else (if_some (phrase_of Phrase ms)) (comment_name (item name address))) (before_is opens_bracket (front name) (bracket 60) (rest address) (front_opens name) refl)
    ∙ ap (λ ms. or_else (if_some (phrase_of Phrase (front name))) (if_some (phrase_of Remark ms))) (no_comment (item name address) (item_none opens_comment name address (λ c. refl) (λ c. refl) (λ c. refl) (λ c. refl)))
    ∙ or_none (if_some (phrase_of Phrase (front name)))
    ∙ ap meant (name_said name)

email_is : (name address : List ℕ) → email_of (item name address) ≡ trimmed (encode_utf8_all address)
email_is name address =
    ap (λ v. cond v (trimmed (part_text Whole (within_bracket (item name address)))) (trimmed (part_text Plain (item name address)))) (has_one name address)
    ∙ ap (λ ms. trimmed (part_text Whole ms)) (within name address)
    ∙ ap (λ t. trimmed (encode_utf8_all t)) (all_inner address)

pub some_text : (t : List ℕ) → 0 < length t → if_some t ≡ Some t
some_text [] h = absurd (omega (arith, h))
some_text (b ∷ bs) h = refl

abbrev found : List ℕ → List ℕ → Address
found name address = record { email = trimmed (encode_utf8_all address); name = meant name }

address_is : (name address : List ℕ) → 0 < length (trimmed (encode_utf8_all address)) → address_of (item name address) ≡ found name address ∷ []
address_is name address some =
    ap (λ o. if_address (if_some (email_of (item name address))) o) (name_is name address)
    ∙ ap (λ o. if_address o (meant name)) (ap if_some (email_is name address) ∙ some_text (trimmed (encode_utf8_all address)) some)

pub quoted_name : (text name address : List ℕ) → chars text ≡ 34 ∷ (quoted name ++ 34 ∷ 60 ∷ (address ++ 62 ∷ [])) → list_all is_inner address ≡ true
    → 0 < length (trimmed (encode_utf8_all address)) → addresses_in text ≡ found name address ∷ []
quoted_name text name address is plain some =
    ap (λ ms. flat_map (λ (g : Group). g.addresses) (groups_by ms)) (ap (characters_from Outside) is ∙ all_marks name address plain)
    ∙ ap (λ s. flat_map (λ (g : Group). g.addresses) (filter is_shown (map group_of (entries_from s None))))
    (slices_whole (item name address) (item_none (λ (m : AddressCharacter). is_bare m.context) name address (λ c. refl) (λ c. refl) (λ c. refl) (λ c. refl)))
    ∙ ap (λ a. flat_map (λ (g : Group). g.addresses) (filter is_shown (record { name = None; addresses = a ++ [] } ∷ []))) (address_is name address some)
