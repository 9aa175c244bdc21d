-- The fields of a written head can be written, and what their values are on one line.
use Rattle.std.proofs.Common.{◌≡◌, ℕ, ◌<◌, Bool, true, false, eqb, leb, ◌&&◌, not, IsTrue, List, [], ◌∷◌, ◌++◌, length, codes, Option, None, Some, option_map, refl, sym, subst, ◌∙◌, arith}
use Rattle.std.specs.List.{AllByRecursion, list_all}
use Rattle.std.proofs.lemmas.Bool.{true≢false}
use Rattle.std.proofs.lemmas.List.Folds.{list_all-append}
use Rattle.mime_lines.specs.Fields.{is_name_byte}
use Rattle.mime_lines.specs.FieldTexts.{FieldText}
use Rattle.mime_lines.specs.Written.{IsField, fold, parted_by}
use Rattle.mime_codec.specs.declared.coding.Coding.{Coding}
use Rattle.mime_codec.specs.declared.coding.Coding.TheVariants.{Plain, Quoted, Base64, Unknown}
use Rattle.mime_type.specs.Characters.{is_token}
use Rattle.mime_type.specs.Grammar.{Pair}
use Rattle.mime_type.specs.TypeText.{IsToken}
use Rattle.mime_type.specs.HeadText.{HeadText, between_quotes, parameter_if, parameters_text, name_text, type_parameters, type_value, disposition_value, cid_value, language_value, location_value, coding_value, field_if, part_fields, IsOtherField, is_name_character, is_label_character, IsLabel, IfThere, IsNameLine, IsBoundary, AreTags, IsHead}
use Rattle.mime_type.proofs.WrittenValues.{is_printed, all_weaker, Value, value_both, value_printed, value_fold, value_folded}
use Rattle.mime_type.proofs.WrittenLabels.{label_printed, token_printed, is_all}

pub both_all : (test : ℕ → Bool) (a b : List ℕ) → list_all test a ≡ true → list_all test b ≡ true → list_all test (a ++ b) ≡ true
both_all test a b h k = list_all-append test a b ∙ rw (h, k) refl

-- ---- values

name_printed : (b : ℕ) → is_name_character b ≡ true → is_printed b ≡ true
name_printed b h = both_first (leb 32 b && leb b 126) (not (eqb b 34)) (not (eqb b 92)) h
  where
    both_first : (p q r : Bool) → (p && q && r) ≡ true → p ≡ true
    both_first true q r h = refl
    both_first false q r h = absurd (true≢false (sym h))

token_value : (t : List ℕ) → IsToken t → Value t t
token_value t h = value_printed t (all_weaker is_token is_printed token_printed t (is_all t h.each))

abbrev pub AreLines : List (List ℕ) → Type 0
AreLines lines = AllByRecursion IsNameLine lines

lines_value : (lines : List (List ℕ)) → AreLines lines → Value (parted_by fold lines) (parted_by (32 ∷ []) lines)
lines_value [] h = value_printed [] refl
lines_value (l ∷ []) h = value_printed l (all_weaker is_name_character is_printed name_printed l h.0)
lines_value (l ∷ m ∷ ms) h =
    value_both l l (fold ++ parted_by fold (m ∷ ms)) (32 ∷ parted_by (32 ∷ []) (m ∷ ms)) (value_printed l (all_weaker is_name_character is_printed name_printed l h.0))
    (value_both fold (32 ∷ []) (parted_by fold (m ∷ ms)) (parted_by (32 ∷ []) (m ∷ ms)) value_fold (lines_value (m ∷ ms) h.1))

quotes_value : (v line : List ℕ) → Value v line → Value (between_quotes v) (between_quotes line)
quotes_value v line h =
    value_both (34 ∷ []) (34 ∷ []) (v ++ 34 ∷ []) (line ++ 34 ∷ []) (value_printed (34 ∷ []) refl)
    (value_both v line (34 ∷ []) (34 ∷ []) h (value_printed (34 ∷ []) refl))

-- parameters with the same names and with values that are the same on one line
abbrev AllSame : List Pair → List Pair → Type 0
AllSame [] [] = Unit {0}
AllSame [] (q ∷ qs) = ⊥
AllSame (p ∷ ps) [] = ⊥
AllSame (p ∷ ps) (q ∷ qs) = (p.name ≡ q.name) × (list_all is_printed p.name ≡ true) × Value p.value q.value × AllSame ps qs

same_both : (ps qs ps' qs' : List Pair) → AllSame ps qs → AllSame ps' qs' → AllSame (ps ++ ps') (qs ++ qs')
same_both [] [] ps' qs' h k = k
same_both [] (q ∷ qs) ps' qs' h k = absurd h
same_both (p ∷ ps) [] ps' qs' h k = absurd h
same_both (p ∷ ps) (q ∷ qs) ps' qs' h k = (h.0, h.1, h.2, same_both ps qs ps' qs' h.3 k)

parameters_value : (ps qs : List Pair) → AllSame ps qs → Value (parameters_text ps) (parameters_text qs)
parameters_value [] [] h = value_printed [] refl
parameters_value [] (q ∷ qs) h = absurd h
parameters_value (p ∷ ps) [] h = absurd h
parameters_value (p ∷ ps) (q ∷ qs) h =
    let later = value_both p.value q.value (parameters_text ps) (parameters_text qs) h.2 (parameters_value ps qs h.3) in
    let after = value_both (61 ∷ []) (61 ∷ []) (p.value ++ parameters_text ps) (q.value ++ parameters_text qs) (value_printed (61 ∷ []) refl) later in
    subst (λ n. Value (parameters_text (p ∷ ps)) (59 ∷ 32 ∷ (n ++ 61 ∷ (q.value ++ parameters_text qs)))) h.0
    (value_both (59 ∷ 32 ∷ []) (59 ∷ 32 ∷ []) (p.name ++ 61 ∷ (p.value ++ parameters_text ps)) (p.name ++ 61 ∷ (q.value ++ parameters_text qs)) (value_printed (59 ∷ 32 ∷ []) refl)
    (value_both p.name p.name (61 ∷ (p.value ++ parameters_text ps)) (61 ∷ (q.value ++ parameters_text qs)) (value_printed p.name h.1) after))

same_charset : (o : Option (List ℕ)) → IfThere IsToken o → AllSame (parameter_if (codes "charset") o) (parameter_if (codes "charset") o)
same_charset None h = tt
same_charset (Some c) h = (refl, refl, token_value c h, tt)

same_name : (n : List ℕ) (o : Option (List (List ℕ))) → list_all is_printed n ≡ true → IfThere AreLines o
    → AllSame (parameter_if n (name_text fold o)) (parameter_if n (name_text (32 ∷ []) o))
same_name n None p h = tt
same_name n (Some lines) p h = (refl, p, quotes_value (parted_by fold lines) (parted_by (32 ∷ []) lines) (lines_value lines h), tt)

same_boundary : (o : Option (List ℕ)) → IfThere IsBoundary o
    → AllSame (parameter_if (codes "boundary") (option_map between_quotes o)) (parameter_if (codes "boundary") (option_map between_quotes o))
same_boundary None h = tt
same_boundary (Some b) h = (refl, refl, quotes_value b b (value_printed b (all_weaker is_name_character is_printed name_printed b h.each)), tt)

pub type_written : (h : HeadText) → IsHead h → Value (type_value fold h) (type_value (32 ∷ []) h)
type_written h is =
    let ps = type_parameters fold h in
    let qs = type_parameters (32 ∷ []) h in
    let same : AllSame ps qs =
    same_both (parameter_if (codes "charset") h.charset) (parameter_if (codes "charset") h.charset)
    (parameter_if (codes "name") (name_text fold h.name) ++ parameter_if (codes "boundary") (option_map between_quotes h.boundary))
    (parameter_if (codes "name") (name_text (32 ∷ []) h.name) ++ parameter_if (codes "boundary") (option_map between_quotes h.boundary))
    (same_charset h.charset is.charset)
    (same_both (parameter_if (codes "name") (name_text fold h.name)) (parameter_if (codes "name") (name_text (32 ∷ []) h.name))
    (parameter_if (codes "boundary") (option_map between_quotes h.boundary)) (parameter_if (codes "boundary") (option_map between_quotes h.boundary))
    (same_name (codes "name") h.name refl is.name) (same_boundary h.boundary is.boundary)) in
    let tail = value_both h.sub h.sub (parameters_text ps) (parameters_text qs) (token_value h.sub is.sub) (parameters_value ps qs same) in
    value_both (32 ∷ []) (32 ∷ []) (h.main ++ 47 ∷ (h.sub ++ parameters_text ps)) (h.main ++ 47 ∷ (h.sub ++ parameters_text qs)) (value_printed (32 ∷ []) refl)
    (value_both h.main h.main (47 ∷ (h.sub ++ parameters_text ps)) (47 ∷ (h.sub ++ parameters_text qs)) (token_value h.main is.main)
    (value_both (47 ∷ []) (47 ∷ []) (h.sub ++ parameters_text ps) (h.sub ++ parameters_text qs) (value_printed (47 ∷ []) refl) tail))

pub disposition_written : (d : List ℕ) (name : Option (List (List ℕ))) → IsToken d → IfThere AreLines name
    → Value (disposition_value fold name d) (disposition_value (32 ∷ []) name d)
disposition_written d name t h =
    let ps = parameter_if (codes "filename") (name_text fold name) in
    let qs = parameter_if (codes "filename") (name_text (32 ∷ []) name) in
    value_both (32 ∷ []) (32 ∷ []) (d ++ parameters_text ps) (d ++ parameters_text qs) (value_printed (32 ∷ []) refl)
    (value_both d d (parameters_text ps) (parameters_text qs) (token_value d t) (parameters_value ps qs (same_name (codes "filename") name refl h)))

pub label_value : (t : List ℕ) → IsLabel t → Value t t
label_value t h = value_printed t (all_weaker is_label_character is_printed label_printed t h.each)

pub cid_written : (t : List ℕ) → IsLabel t → Value (cid_value t) (cid_value t)
cid_written t h =
    value_both (32 ∷ 60 ∷ []) (32 ∷ 60 ∷ []) (t ++ 62 ∷ []) (t ++ 62 ∷ []) (value_printed (32 ∷ 60 ∷ []) refl)
    (value_both t t (62 ∷ []) (62 ∷ []) (label_value t h) (value_printed (62 ∷ []) refl))

pub tags_written : (tags : List (List ℕ)) → AllByRecursion IsToken tags → Value (parted_by (44 ∷ 32 ∷ []) tags) (parted_by (44 ∷ 32 ∷ []) tags)
tags_written [] h = value_printed [] refl
tags_written (t ∷ []) h = token_value t h.0
tags_written (t ∷ u ∷ us) h =
    value_both t t (44 ∷ 32 ∷ parted_by (44 ∷ 32 ∷ []) (u ∷ us)) (44 ∷ 32 ∷ parted_by (44 ∷ 32 ∷ []) (u ∷ us)) (token_value t h.0)
    (value_both (44 ∷ 32 ∷ []) (44 ∷ 32 ∷ []) (parted_by (44 ∷ 32 ∷ []) (u ∷ us)) (parted_by (44 ∷ 32 ∷ []) (u ∷ us)) (value_printed (44 ∷ 32 ∷ []) refl) (tags_written (u ∷ us) h.1))

pub spaced : (t : List ℕ) → Value t t → Value (32 ∷ t) (32 ∷ t)
spaced t h = value_both (32 ∷ []) (32 ∷ []) t t (value_printed (32 ∷ []) refl) h

pub coding_written : (c : Coding) → Value (coding_value c) (coding_value c)
coding_written Plain = value_printed (coding_value Plain) refl
coding_written Quoted = value_printed (coding_value Quoted) refl
coding_written Base64 = value_printed (coding_value Base64) refl
coding_written Unknown = value_printed (coding_value Unknown) refl

-- ---- fields

abbrev AllGood : List FieldText → Type 0
AllGood fs = AllByRecursion IsField fs

pub good_both : (xs ys : List FieldText) → AllGood xs → AllGood ys → AllGood (xs ++ ys)
good_both [] ys h k = k
good_both (x ∷ xs) ys h k = (h.0, good_both xs ys h.1 k)

-- a name of a field, as it is known
record IsFieldName (n : List ℕ) : Type 0 where
  some : 0 < length n
  each : IsTrue (list_all is_name_byte n)

good_field : (n v line : List ℕ) → IsFieldName n → Value v line → IsField (record { name = n; value = v })
good_field n v line h w = record { some = h.some; name = h.each; value = value_folded v line w }

good_if : {A : Type 0} (n : List ℕ) (P : A → Type 0) (written line : A → List ℕ) → IsFieldName n → ((x : A) → P x → Value (written x) (line x))
    → (o : Option A) → IfThere P o → AllGood (field_if n (option_map written o))
good_if n P written line h w None k = tt
good_if n P written line h w (Some x) k = (good_field n (written x) (line x) h (w x k), tt)

abbrev pub rest_c : HeadText → List FieldText
rest_c h = field_if (codes "Content-Location") (option_map location_value h.location) ++ field_if (codes "Content-Transfer-Encoding") (option_map coding_value h.coding)

abbrev pub rest_b : HeadText → List FieldText
rest_b h = field_if (codes "Content-Language") (option_map language_value h.language) ++ rest_c h

abbrev pub rest_a : HeadText → List FieldText
rest_a h = field_if (codes "Content-ID") (option_map cid_value h.cid) ++ rest_b h

any : {A : Type 0} (o : Option A) → IfThere (λ (x : A). Unit {0}) o
any None = tt
any (Some x) = tt

pub part_good : (h : HeadText) → IsHead h → AllGood (part_fields h)
part_good h is = (
  good_field (codes "Content-Type") (type_value fold h) (type_value (32 ∷ []) h) (record { some = omega arith; each = refl }) (type_written h is),
  good_both (field_if (codes "Content-Disposition") (option_map (disposition_value fold h.name) h.disposition)) (rest_a h)
      (good_if (codes "Content-Disposition") IsToken (disposition_value fold h.name) (disposition_value (32 ∷ []) h.name) (record { some = omega arith; each = refl }) (λ d t. disposition_written d h.name t is.name) h.disposition is.disposition)
      (good_both (field_if (codes "Content-ID") (option_map cid_value h.cid)) (rest_b h)
      (good_if (codes "Content-ID") IsLabel cid_value cid_value (record { some = omega arith; each = refl }) cid_written h.cid is.cid)
      (good_both (field_if (codes "Content-Language") (option_map language_value h.language)) (rest_c h)
      (good_if (codes "Content-Language") AreTags language_value language_value (record { some = omega arith; each = refl }) (λ ts t. spaced (parted_by (44 ∷ 32 ∷ []) ts) (tags_written ts t.each)) h.language is.language)
      (good_both (field_if (codes "Content-Location") (option_map location_value h.location)) (field_if (codes "Content-Transfer-Encoding") (option_map coding_value h.coding))
      (good_if (codes "Content-Location") IsLabel location_value location_value (record { some = omega arith; each = refl }) (λ l t. spaced l (label_value l t)) h.location is.location)
      (good_if (codes "Content-Transfer-Encoding") (λ c. Unit {0}) coding_value coding_value (record { some = omega arith; each = refl }) (λ c t. coding_written c) h.coding (any h.coding))))),
)

pub others_good : (fs : List FieldText) → AllByRecursion IsOtherField fs → AllGood fs
others_good [] h = tt
others_good (f ∷ fs) h = (h.0.field, others_good fs h.1)
