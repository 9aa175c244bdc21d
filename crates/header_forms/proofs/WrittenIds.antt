-- Identifiers that are written in angle brackets are read back.
use Rattle.std.proofs.Common.{◌≡◌, ℕ, zero, suc, ◌<◌, Bool, true, cond, eqb, leb, ◌&&◌, not, List, [], ◌∷◌, ◌++◌, length, map, filter, refl, sym, ap, ◌∙◌, append_assoc, arith}
use Rattle.std.specs.List.{AllByRecursion, list_all}
use Rattle.std.specs.Char.{is_ascii_whitespace}
use Rattle.std.specs.Str.{encode_utf8_all}
use Rattle.std.proofs.lemmas.Bool.{leb-true, true≢false}
use Rattle.std.proofs.lemmas.Str.{chars-IsAscii, encodes-IsAscii}
use Rattle.mime_lines.specs.Written.{fold, is_inline, parted_by}
use Rattle.mime_lines.proofs.Unfolds.{both_true}
use Rattle.mime_lines.proofs.FoldedTexts.{AllFold, folds_both, folds_fold, folds_inline, folds_parted}
use Rattle.mime_codec.specs.Quoted.{is_between}
use Rattle.header_forms.specs.Texts.{without, on_one_line}
use Rattle.header_forms.specs.Angles.{read, has_some, shown_texts, angle_texts}
use Rattle.header_forms.specs.WrittenForms.{angled, ids_value, is_id_character, IsId}
use Rattle.header_forms.proofs.Angled.{Lacks, first_angle}
use Rattle.header_forms.proofs.WrittenTexts.{IsWritten, by_table, is_written, written_ascii, both_all, all_weaker, printed_written, printed_inline, one_line}

-- what is said of a character of an identifier
id_small : (b : ℕ) → is_id_character b ≡ true → b < 127
id_small b h =
    let four = both_true (leb 33 b && leb b 126 && not (eqb b 60)) (not (eqb b 62)) h in
    let three = both_true (leb 33 b && leb b 126) (not (eqb b 60)) four.0 in
    let two = both_true (leb 33 b) (leb b 126) three.0 in
    omega (arith, leb-true b 126 two.1)

abbrev pub is_printed : ℕ → Bool
is_printed b = is_between 32 126 b

abbrev is_dark : ℕ → Bool
is_dark b = not (is_ascii_whitespace b)

abbrev is_no_open : ℕ → Bool
is_no_open b = not (eqb b 60)

abbrev is_no_close : ℕ → Bool
is_no_close b = not (eqb b 62)

id_printed : (b : ℕ) → is_id_character b ≡ true → is_printed b ≡ true
id_printed b h = by_table is_id_character is_printed refl b (id_small b h) h

id_dark : (b : ℕ) → is_id_character b ≡ true → is_dark b ≡ true
id_dark b h = by_table is_id_character is_dark refl b (id_small b h) h

id_no_close : (b : ℕ) → is_id_character b ≡ true → is_no_close b ≡ true
id_no_close b h = by_table is_id_character is_no_close refl b (id_small b h) h

lacks_close : (t : List ℕ) → list_all is_no_close t ≡ true → Lacks 62 t
lacks_close [] h k low e = omega (arith, low)
lacks_close (b ∷ bs) h zero low e =
    true≢false (sym (both_true (is_no_close b) (list_all is_no_close bs) h).0 ∙ ap is_no_close e)
lacks_close (b ∷ bs) h (suc k) low e = lacks_close bs (both_true (is_no_close b) (list_all is_no_close bs) h).1 k (omega arith) e

-- ---- on one line

abbrev pub AllIds : List (List ℕ) → Type 0
AllIds ids = AllByRecursion IsId ids

abbrev angles : List (List ℕ) → List (List ℕ)
angles ids = map angled ids

pub printed_angled : (id : List ℕ) → IsId id → list_all is_printed (angled id) ≡ true
printed_angled id h = both_all is_printed id (62 ∷ []) (all_weaker is_id_character is_printed id_printed id h.each) refl

angled_fold : (ids : List (List ℕ)) → AllIds ids → AllFold (angles ids) (angles ids)
angled_fold [] h = tt
angled_fold (i ∷ is) h = (folds_inline (angled i) (all_weaker is_printed is_inline printed_inline (angled i) (printed_angled i h.0)), angled_fold is h.1)

parted_written : (ids : List (List ℕ)) → AllIds ids → IsWritten (parted_by fold (angles ids))
parted_written [] h = refl
parted_written (i ∷ []) h = all_weaker is_printed is_written printed_written (angled i) (printed_angled i h.0)
parted_written (i ∷ j ∷ js) h =
    both_all is_written (angled i) (fold ++ parted_by fold (angles (j ∷ js)))
    (all_weaker is_printed is_written printed_written (angled i) (printed_angled i h.0)) (parted_written (j ∷ js) h.1)

ids_line : (ids : List (List ℕ)) → AllIds ids → on_one_line (ids_value ids) ≡ 32 ∷ parted_by (32 ∷ []) (angles ids)
ids_line ids h =
    one_line (ids_value ids) (32 ∷ parted_by (32 ∷ []) (angles ids)) (parted_written ids h)
    (folds_both (32 ∷ []) (32 ∷ []) (parted_by fold (angles ids)) (parted_by (32 ∷ []) (angles ids)) (folds_inline (32 ∷ []) refl)
    (folds_parted fold (32 ∷ []) (angles ids) (angles ids) folds_fold (angled_fold ids h)))

-- ---- read back

space_first : Lacks 60 (32 ∷ [])
space_first zero low e = true≢false (sym (ap (λ b. eqb b 60) e))
space_first (suc k) low e = omega (arith, low)

read_ids : (ids : List (List ℕ)) → AllIds ids → (read (32 ∷ parted_by (32 ∷ []) (angles ids))).outside ≡ ids
read_ids [] h = refl
read_ids (i ∷ []) h = first_angle (32 ∷ []) i [] space_first (lacks_close i (all_weaker is_id_character is_no_close id_no_close i h.0.each))
read_ids (i ∷ j ∷ js) h =
    let later = 32 ∷ parted_by (32 ∷ []) (angles (j ∷ js)) in
    ap (λ t. (read (32 ∷ 60 ∷ t)).outside) (append_assoc i (62 ∷ []) later)
    ∙ first_angle (32 ∷ []) i later space_first (lacks_close i (all_weaker is_id_character is_no_close id_no_close i h.0.each))
    ∙ ap (λ t. i ∷ t) (read_ids (j ∷ js) h.1)

all_dark : (t : List ℕ) → list_all is_dark t ≡ true → filter is_dark t ≡ t
all_dark [] h = refl
all_dark (b ∷ bs) h =
    let parts = both_true (is_dark b) (list_all is_dark bs) h in
    rw parts.0 (ap (λ t. b ∷ t) (all_dark bs parts.1))

id_stays : (id : List ℕ) → IsId id → without is_ascii_whitespace id ≡ id
id_stays id h =
    let ascii = written_ascii id (all_weaker is_printed is_written printed_written id (all_weaker is_id_character is_printed id_printed id h.each)) in
    ap (λ t. encode_utf8_all (filter is_dark t)) (chars-IsAscii id ascii)
    ∙ ap encode_utf8_all (all_dark id (all_weaker is_id_character is_dark id_dark id h.each)) ∙ encodes-IsAscii id ascii

has_first : (id : List ℕ) → 0 < length id → has_some id ≡ true
has_first [] h = absurd (omega (arith, h))
has_first (b ∷ bs) h = refl

ids_shown : (ids : List (List ℕ)) → AllIds ids → shown_texts ids ≡ ids
ids_shown [] h = refl
ids_shown (i ∷ is) h =
    ap (λ t. filter has_some (t ∷ map (without is_ascii_whitespace) is)) (id_stays i h.0)
    ∙ ap (λ v. cond v (i ∷ shown_texts is) (shown_texts is)) (has_first i h.0.some)
    ∙ ap (λ t. i ∷ t) (ids_shown is h.1)

pub ids_back : (ids : List (List ℕ)) → AllIds ids → angle_texts (on_one_line (ids_value ids)) ≡ ids
ids_back ids h = ap angle_texts (ids_line ids h) ∙ ap shown_texts (read_ids ids h) ∙ ids_shown ids h
