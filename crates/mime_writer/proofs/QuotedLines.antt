-- A step of writing quoted-printable.
use Rattle.std.proofs.Common.{◌≡◌, ℕ, ◌+◌, ◌≤◌, ◌<◌, Bool, true, false, cond, eqb, leb, ◌&&◌, ◌||◌, not, List, [], ◌∷◌, ◌++◌, length, map, refl, sym, ap, ◌∙◌, append_assoc, length-append, arith}
use Rattle.std.specs.List.{concat, onto_first, slice_split}
use Rattle.std.proofs.lemmas.Bool.{le-leb, lt-leb, ne_eqb}
use Rattle.mime_lines.specs.Written.{crlf, parted_by}
use Rattle.mime_codec.specs.QuotedText.{broken, byte_text, byte_texts, escape, has_room, is_lf, is_literal, last_byte_text, line_text, quoted_printable_text, soft_break}
use Rattle.mime_writer.specs.QuotedBytes.{is_plain, room_of, text_if_plain, text_of_byte}

last_is : (b : ℕ) → last_byte_text b ≡ text_of_byte true b
last_is b = elim (eqb b 32) as (λ v. cond v (escape b) (byte_text b) ≡ cond (is_literal b && not v) (b ∷ []) (escape b)) [
  | true ↦ elim (is_literal b) as (λ w. escape b ≡ cond (w && false) (b ∷ []) (escape b)) [ true ↦ refl | false ↦ refl ]
  | false ↦ elim (is_literal b) as (λ w. cond w (b ∷ []) (escape b) ≡ cond (w && true) (b ∷ []) (escape b)) [ true ↦ refl | false ↦ refl ]
]

inner_is : (b : ℕ) → byte_text b ≡ text_of_byte false b
inner_is b = elim (is_literal b) as (λ w. cond w (b ∷ []) (escape b) ≡ cond (w && true) (b ∷ []) (escape b)) [ true ↦ refl | false ↦ refl ]

some_text : (last : Bool) (b : ℕ) → 0 < length (text_of_byte last b)
some_text last b = elim (is_plain last b) as (λ v. 0 < length (cond v (b ∷ []) (escape b))) [ true ↦ omega arith | false ↦ omega arith ]

some_texts : (c : ℕ) (cs : List ℕ) → 0 < length (concat (byte_texts (c ∷ cs)))
some_texts c [] = omega (arith, some_text true c, ap length (last_is c), length-append (last_byte_text c) [])
some_texts c (d ∷ ds) = omega (arith, some_text false c, ap length (inner_is c), length-append (byte_text c) (concat (byte_texts (d ∷ ds))))

-- the text of a byte that this follows on its line
abbrev pub this_text : ℕ → List ℕ → List ℕ
this_text b more = text_of_byte (eqb (length more) 0) b

more_no : (c : ℕ) (cs : List ℕ) → eqb (length (c ∷ cs)) 0 ≡ false
more_no c cs = ne_eqb (length (c ∷ cs)) 0 (λ e. omega (arith, e))

texts_more : (b : ℕ) (more : List ℕ) → byte_texts (b ∷ more) ≡ this_text b more ∷ byte_texts more
texts_more b [] = ap (λ t. t ∷ []) (last_is b)
texts_more b (c ∷ cs) = ap (λ t. t ∷ byte_texts (c ∷ cs)) (inner_is b ∙ ap (λ v. text_of_byte v b) (sym (more_no c cs)))

abbrev room : List ℕ → ℕ
room more = room_of (eqb (length more) 0)

has : (column : ℕ) (t more : List ℕ) → column + length t ≤ room more → has_room column t (byte_texts more) ≡ true
has column t [] h =
    rw (le-leb (column + length (t ++ [])) 76 (omega (arith, h, length-append t []))) (or_true (leb (column + length t) 75))
  where
    or_true : (v : Bool) → (v || true) ≡ true
    or_true true = refl
    or_true false = refl
has column t (c ∷ cs) h =
    let most : room (c ∷ cs) ≡ 75 = ap room_of (more_no c cs) in
    rw (le-leb (column + length t) 75 (omega (arith, h, most))) refl

has_not : (column : ℕ) (t more : List ℕ) → room more < column + length t → has_room column t (byte_texts more) ≡ false
has_not column t [] h =
    rw (lt-leb (column + length t) 75 (omega (arith, h)), lt-leb (column + length (t ++ [])) 76 (omega (arith, h, length-append t []))) refl
has_not column t (c ∷ cs) h =
    let most : room (c ∷ cs) ≡ 75 = ap room_of (more_no c cs) in
    rw (
      lt-leb (column + length t) 75 (omega (arith, h, most)),
      lt-leb (column + length (t ++ concat (byte_texts (c ∷ cs)))) 76 (omega (arith, h, most, length-append t (concat (byte_texts (c ∷ cs))), some_texts c cs)),
    ) refl

pub line_stays : (column b : ℕ) (more : List ℕ) → column + length (this_text b more) ≤ room_of (eqb (length more) 0)
    → broken column (byte_texts (b ∷ more)) ≡ this_text b more ++ broken (column + length (this_text b more)) (byte_texts more)
line_stays column b more h =
    let t = this_text b more in
    ap (broken column) (texts_more b more)
    ∙ ap (λ v. cond v (t ++ broken (column + length t) (byte_texts more)) (soft_break ++ (t ++ broken (length t) (byte_texts more)))) (has column t more h)

pub line_breaks : (column b : ℕ) (more : List ℕ) → room_of (eqb (length more) 0) < column + length (this_text b more)
    → broken column (byte_texts (b ∷ more)) ≡ soft_break ++ (this_text b more ++ broken (length (this_text b more)) (byte_texts more))
line_breaks column b more h =
    let t = this_text b more in
    ap (broken column) (texts_more b more)
    ∙ ap (λ v. cond v (t ++ broken (column + length t) (byte_texts more)) (soft_break ++ (t ++ broken (length t) (byte_texts more)))) (has_not column t more h)

-- what a step writes
pub byte_breaks : (old mid new more : List ℕ) (column b size room : ℕ) (last plain : Bool) → last ≡ eqb (length more) 0 → plain ≡ is_plain last b
    → size ≡ length (text_if_plain plain b) → room ≡ room_of last → room < column + size → mid ≡ old ++ soft_break → new ≡ mid ++ text_if_plain plain b
    → new ++ broken size (byte_texts more) ≡ old ++ broken column (byte_texts (b ∷ more))
byte_breaks old mid new more column b size room last plain la pl sz rm h e f =
    let rest = byte_texts more in
    let same : text_if_plain plain b ≡ this_text b more = ap (λ p. text_if_plain p b) (pl ∙ ap (λ l. is_plain l b) la) in
    let long : size ≡ length (this_text b more) = sz ∙ ap length same in
    let most : room ≡ room_of (eqb (length more) 0) = rm ∙ ap room_of la in
    ap (λ x. x ++ broken size rest) f ∙ append_assoc mid (text_if_plain plain b) (broken size rest)
    ∙ ap (λ x. x ++ (text_if_plain plain b ++ broken size rest)) e ∙ append_assoc old soft_break (text_if_plain plain b ++ broken size rest)
    ∙ ap (λ x. old ++ (soft_break ++ (x ++ broken size rest))) same ∙ ap (λ n. old ++ (soft_break ++ (this_text b more ++ broken n rest))) long
    ∙ ap (λ x. old ++ x) (sym (line_breaks column b more (omega (arith, h, long, most))))

pub byte_stays : (old new more : List ℕ) (column b size room : ℕ) (last plain : Bool) → last ≡ eqb (length more) 0 → plain ≡ is_plain last b
    → size ≡ length (text_if_plain plain b) → room ≡ room_of last → column + size ≤ room → new ≡ old ++ text_if_plain plain b
    → new ++ broken (column + size) (byte_texts more) ≡ old ++ broken column (byte_texts (b ∷ more))
byte_stays old new more column b size room last plain la pl sz rm h f =
    let rest = byte_texts more in
    let same : text_if_plain plain b ≡ this_text b more = ap (λ p. text_if_plain p b) (pl ∙ ap (λ l. is_plain l b) la) in
    let long : size ≡ length (this_text b more) = sz ∙ ap length same in
    let most : room ≡ room_of (eqb (length more) 0) = rm ∙ ap room_of la in
    ap (λ x. x ++ broken (column + size) rest) f ∙ append_assoc old (text_if_plain plain b) (broken (column + size) rest)
    ∙ ap (λ x. old ++ (x ++ broken (column + size) rest)) same ∙ ap (λ n. old ++ (this_text b more ++ broken (column + n) rest)) long
    ∙ ap (λ x. old ++ x) (sym (line_stays column b more (omega (arith, h, long, most))))

-- ---- lines

parted_split : (t bs : List ℕ) → parted_by crlf (map line_text (t ∷ slice_split is_lf bs)) ≡ line_text t ++ (crlf ++ quoted_printable_text bs)
parted_split t bs = parted_some t (slice_split is_lf bs) (some_split bs)
  where
    some_onto : (b : ℕ) (ls : List (List ℕ)) → 0 < length (onto_first b ls)
    some_onto b [] = omega arith
    some_onto b (l ∷ ls) = omega arith

    some_split : (bs : List ℕ) → 0 < length (slice_split is_lf bs)
    some_split [] = omega arith
    some_split (b ∷ bs) = elim (eqb b 10) as (λ v. 0 < length (cond v ([] ∷ slice_split is_lf bs) (onto_first b (slice_split is_lf bs)))) [
      | true ↦ omega arith
      | false ↦ some_onto b (slice_split is_lf bs)
    ]

    parted_some : (t : List ℕ) (ls : List (List ℕ)) → 0 < length ls → parted_by crlf (map line_text (t ∷ ls)) ≡ line_text t ++ (crlf ++ parted_by crlf (map line_text ls))
    parted_some t [] h = absurd (omega (arith, h))
    parted_some t (l ∷ ls) h = refl

pub text_more : (t more bytes : List ℕ) → slice_split is_lf bytes ≡ t ∷ slice_split is_lf more → quoted_printable_text bytes ≡ line_text t ++ (crlf ++ quoted_printable_text more)
text_more t more bytes e = ap (λ ls. parted_by crlf (map line_text ls)) e ∙ parted_split t more

pub text_last : (bytes : List ℕ) → slice_split is_lf bytes ≡ bytes ∷ [] → quoted_printable_text bytes ≡ line_text bytes
text_last bytes e = ap (λ ls. parted_by crlf (map line_text ls)) e
