-- The head that is written for a part is read as what was meant.
use Rattle.std.proofs.Common.{◌≡◌, ℕ, ◌+◌, Bool, true, false, cond, ◌&&◌, not, List, [], ◌∷◌, ◌++◌, length, codes, Option, None, Some, option_map, unwrap_or, is_some, refl, ap, ◌∙◌, bytes_eq, arith}
use Rattle.std.specs.List.{AllByRecursion, list_all}
use Rattle.std.specs.Option.{option_or}
use Rattle.std.proofs.lemmas.Bool.{ne_eqb}
use Rattle.mail_text.specs.Texts.{trimmed}
use Rattle.mime_lines.specs.Fields.{body_of}
use Rattle.mime_lines.specs.FieldOffsets.{lowered}
use Rattle.mime_lines.specs.FieldTexts.{FieldText}
use Rattle.mime_lines.specs.Written.{fold, header_and_body, parted_by}
use Rattle.mime_codec.specs.declared.coding.Coding.{Coding}
use Rattle.mime_codec.specs.declared.coding.Coding.TheVariants.{Plain}
use Rattle.mime_type.specs.Grammar.{Pair, Kind, type_at, disposition_at, first_named}
use Rattle.mime_type.specs.Content.{plain_type, type_of, disposition_of, default_charset, charset_of, is_multipart, if_any, boundary_of, media_of, name_of, coding_of}
use Rattle.mime_type.specs.Labels.{id_in, languages_in, coding_in}
use Rattle.mime_type.specs.Head.{field_text, kind_in, shown_in, head_at}
use Rattle.mime_type.specs.TypeText.{IsToken}
use Rattle.mime_type.specs.HeadText.{HeadText, between_quotes, parameter_if, name_text, type_parameters, type_value, disposition_value, cid_value, language_value, location_value, coding_value, field_if, part_fields, IsOtherField, is_name_character, IsLabel, IfThere, IsBoundary, AreTags, media_of_head, IsHead, node_of_head}
use Rattle.mime_type.proofs.Same.{same_node}
use Rattle.mime_type.proofs.WrittenValues.{last_of, last_both, IsContent, none_of, all_weaker, value_read, said_in, field_said}
use Rattle.mime_type.proofs.WrittenTypes.{AllMean, mean_both, quoted_means, token_means, type_means, disposition_means, is_unquoted, name_unquoted}
use Rattle.mime_type.proofs.WrittenLabels.{location_back, cid_back, languages_back, coding_back}
use Rattle.mime_type.proofs.WrittenFields.{both_all, AreLines, type_written, disposition_written, label_value, cid_written, tags_written, spaced, coding_written, good_both, rest_c, rest_b, rest_a, part_good, others_good}

-- ---- each field by its name

abbrev is_same : List ℕ → List ℕ → Bool
is_same n name = bytes_eq (lowered n) (lowered name)

last_if : (name n : List ℕ) (o : Option (List ℕ)) → last_of name (field_if n o) ≡ cond (is_same n name) o None
last_if name n None = let none : Option (List ℕ) = None in elim (is_same n name) as (λ v. none ≡ cond v none none) [ true ↦ refl | false ↦ refl ]
last_if name n (Some x) = refl

abbrev disposition_if : HeadText → Option (List ℕ)
disposition_if h = option_map (disposition_value fold h.name) h.disposition

abbrev chosen : List ℕ → List ℕ → Option (List ℕ) → Option (List ℕ)
chosen name n o = cond (is_same n name) o None

abbrev all_chosen : List ℕ → HeadText → Option (List ℕ)
all_chosen name h =
    option_or (option_or (option_or (option_or (option_or
    (chosen name (codes "Content-Transfer-Encoding") (option_map coding_value h.coding))
    (chosen name (codes "Content-Location") (option_map location_value h.location)))
    (chosen name (codes "Content-Language") (option_map language_value h.language)))
    (chosen name (codes "Content-ID") (option_map cid_value h.cid)))
    (chosen name (codes "Content-Disposition") (disposition_if h)))
    (chosen name (codes "Content-Type") (Some (type_value fold h)))

last_part : (name : List ℕ) (h : HeadText) → last_of name (part_fields h) ≡ all_chosen name h
last_part name h =
    let e = field_if (codes "Content-Transfer-Encoding") (option_map coding_value h.coding) in
    let d = field_if (codes "Content-Location") (option_map location_value h.location) in
    let c = field_if (codes "Content-Language") (option_map language_value h.language) in
    let b = field_if (codes "Content-ID") (option_map cid_value h.cid) in
    let a = field_if (codes "Content-Disposition") (disposition_if h) in
    let t = chosen name (codes "Content-Type") (Some (type_value fold h)) in
    ap (λ o. option_or o t) (
    last_both name a (rest_a h)
    ∙ ap (option_or (last_of name (rest_a h))) (last_if name (codes "Content-Disposition") (disposition_if h))
    ∙ ap (λ o. option_or o (chosen name (codes "Content-Disposition") (disposition_if h))) (
    last_both name b (rest_b h)
    ∙ ap (option_or (last_of name (rest_b h))) (last_if name (codes "Content-ID") (option_map cid_value h.cid))
    ∙ ap (λ o. option_or o (chosen name (codes "Content-ID") (option_map cid_value h.cid))) (
    last_both name c (rest_c h)
    ∙ ap (option_or (last_of name (rest_c h))) (last_if name (codes "Content-Language") (option_map language_value h.language))
    ∙ ap (λ o. option_or o (chosen name (codes "Content-Language") (option_map language_value h.language))) (
    last_both name d e
    ∙ ap (option_or (last_of name e)) (last_if name (codes "Content-Location") (option_map location_value h.location))
    ∙ ap (λ o. option_or o (chosen name (codes "Content-Location") (option_map location_value h.location)))
    (last_if name (codes "Content-Transfer-Encoding") (option_map coding_value h.coding))))))

or_none : (o : Option (List ℕ)) → option_or o None ≡ o
or_none None = refl
or_none (Some x) = refl

two_none : (o : Option (List ℕ)) → option_or (option_or o None) None ≡ o
two_none None = refl
two_none (Some x) = refl

three_none : (o : Option (List ℕ)) → option_or (option_or (option_or o None) None) None ≡ o
three_none None = refl
three_none (Some x) = refl

four_none : (o : Option (List ℕ)) → option_or (option_or (option_or (option_or o None) None) None) None ≡ o
four_none None = refl
four_none (Some x) = refl

five_none : (o : Option (List ℕ)) → option_or (option_or (option_or (option_or (option_or o None) None) None) None) None ≡ o
five_none None = refl
five_none (Some x) = refl

abbrev message : List FieldText → HeadText → List ℕ → List ℕ
message before h body = header_and_body (before ++ part_fields h) body

abbrev AllOther : List FieldText → Type 0
AllOther fs = AllByRecursion IsOtherField fs

said_field : (name : List ℕ) (before : List FieldText) (h : HeadText) (body : List ℕ) → IsContent name → AllOther before → IsHead h
    → field_text name (message before h body) ≡ said_in (all_chosen name h)
said_field name before h body c others is =
    field_said name (before ++ part_fields h) body (good_both before (part_fields h) (others_good before others) (part_good h is))
    ∙ ap said_in (last_both name before (part_fields h) ∙ ap (option_or (last_of name (part_fields h))) (none_of name before c others) ∙ or_none (last_of name (part_fields h)) ∙ last_part name h)

-- ---- the type and the disposition

abbrev name_line : Option (List (List ℕ)) → Option (List ℕ)
name_line o = option_map (parted_by (32 ∷ [])) o

abbrev meant_parameters : HeadText → List Pair
meant_parameters h = parameter_if (codes "charset") h.charset ++ (parameter_if (codes "name") (name_line h.name) ++ parameter_if (codes "boundary") h.boundary)

abbrev meant_type : HeadText → Kind
meant_type h = record { kind = media_of_head h; params = meant_parameters h }

lines_unquoted : (lines : List (List ℕ)) → AreLines lines → list_all is_unquoted (parted_by (32 ∷ []) lines) ≡ true
lines_unquoted [] h = refl
lines_unquoted (l ∷ []) h = all_weaker is_name_character is_unquoted name_unquoted l h.0
lines_unquoted (l ∷ m ∷ ms) h =
    both_all is_unquoted l (32 ∷ parted_by (32 ∷ []) (m ∷ ms)) (all_weaker is_name_character is_unquoted name_unquoted l h.0) (lines_unquoted (m ∷ ms) h.1)

name_means : (n : List ℕ) (o : Option (List (List ℕ))) → IsToken n → lowered n ≡ n → IfThere AreLines o → AllMean (parameter_if n (name_text (32 ∷ []) o)) (parameter_if n (name_line o))
name_means n None t low h = tt
name_means n (Some lines) t low h = (quoted_means n (parted_by (32 ∷ []) lines) t low (lines_unquoted lines h), tt)

charset_means : (o : Option (List ℕ)) → IfThere IsToken o → AllMean (parameter_if (codes "charset") o) (parameter_if (codes "charset") o)
charset_means None h = tt
charset_means (Some c) h = (token_means (codes "charset") c (record { some = omega arith; each = refl }) refl h, tt)

boundary_means : (o : Option (List ℕ)) → IfThere IsBoundary o → AllMean (parameter_if (codes "boundary") (option_map between_quotes o)) (parameter_if (codes "boundary") o)
boundary_means None h = tt
boundary_means (Some b) h =
    (quoted_means (codes "boundary") b (record { some = omega arith; each = refl }) refl (all_weaker is_name_character is_unquoted name_unquoted b h.each), tt)

type_meant : (h : HeadText) → IsHead h → type_at (type_value (32 ∷ []) h) ≡ Some (meant_type h)
type_meant h is =
    type_means h.main h.sub (type_parameters (32 ∷ []) h) (meant_parameters h) is.main is.sub
    (mean_both (parameter_if (codes "charset") h.charset) (parameter_if (codes "charset") h.charset)
    (parameter_if (codes "name") (name_text (32 ∷ []) h.name) ++ parameter_if (codes "boundary") (option_map between_quotes h.boundary))
    (parameter_if (codes "name") (name_line h.name) ++ parameter_if (codes "boundary") h.boundary)
    (charset_means h.charset is.charset)
    (mean_both (parameter_if (codes "name") (name_text (32 ∷ []) h.name)) (parameter_if (codes "name") (name_line h.name))
    (parameter_if (codes "boundary") (option_map between_quotes h.boundary)) (parameter_if (codes "boundary") h.boundary)
    (name_means (codes "name") h.name (record { some = omega arith; each = refl }) refl is.name) (boundary_means h.boundary is.boundary)))

abbrev meant_disposition : HeadText → List ℕ → Kind
meant_disposition h d = record { kind = lowered d; params = parameter_if (codes "filename") (name_line h.name) }

type_is : (digest : Bool) (before : List FieldText) (h : HeadText) (body : List ℕ) → AllOther before → IsHead h → kind_in digest (message before h body) ≡ meant_type h
type_is digest before h body others is =
    ap (type_of digest) (said_field (codes "content-type") before h body refl others is)
    ∙ ap (λ v. type_of digest (Some v)) (value_read (type_value fold h) (type_value (32 ∷ []) h) (type_written h is))
    ∙ ap (λ o. unwrap_or o (plain_type (codes "text/plain"))) (type_meant h is)

disposition_told : (h : HeadText) (o : Option (List ℕ)) → IfThere AreLines h.name → IfThere IsToken o
    → disposition_of (said_in (option_map (disposition_value fold h.name) o)) ≡ option_map (meant_disposition h) o
disposition_told h None lines t = refl
disposition_told h (Some d) lines t =
    ap disposition_at (value_read (disposition_value fold h.name d) (disposition_value (32 ∷ []) h.name d) (disposition_written d h.name t lines))
    ∙ disposition_means d (parameter_if (codes "filename") (name_text (32 ∷ []) h.name)) (parameter_if (codes "filename") (name_line h.name)) t
    (name_means (codes "filename") h.name (record { some = omega arith; each = refl }) refl lines)

shown_is : (before : List FieldText) (h : HeadText) (body : List ℕ) → AllOther before → IsHead h → shown_in (message before h body) ≡ option_map (meant_disposition h) h.disposition
shown_is before h body others is =
    ap disposition_of (said_field (codes "content-disposition") before h body refl others is ∙ ap said_in (or_none (disposition_if h)))
    ∙ disposition_told h h.disposition is.name is.disposition

-- ---- what they say

charset_found : (c n b : Option (List ℕ)) → first_named (codes "charset") (parameter_if (codes "charset") c ++ (parameter_if (codes "name") n ++ parameter_if (codes "boundary") b)) ≡ c
charset_found (Some c) n b = refl
charset_found None None None = refl
charset_found None None (Some b) = refl
charset_found None (Some n) None = refl
charset_found None (Some n) (Some b) = refl

name_found : (c n b : Option (List ℕ)) → first_named (codes "name") (parameter_if (codes "charset") c ++ (parameter_if (codes "name") n ++ parameter_if (codes "boundary") b)) ≡ n
name_found None None None = refl
name_found None None (Some b) = refl
name_found None (Some n) b = refl
name_found (Some c) None None = refl
name_found (Some c) None (Some b) = refl
name_found (Some c) (Some n) b = refl

boundary_found : (c n b : Option (List ℕ)) → first_named (codes "boundary") (parameter_if (codes "charset") c ++ (parameter_if (codes "name") n ++ parameter_if (codes "boundary") b)) ≡ b
boundary_found None None None = refl
boundary_found None None (Some b) = refl
boundary_found None (Some n) None = refl
boundary_found None (Some n) (Some b) = refl
boundary_found (Some c) None None = refl
boundary_found (Some c) None (Some b) = refl
boundary_found (Some c) (Some n) None = refl
boundary_found (Some c) (Some n) (Some b) = refl

charset_is : (h : HeadText) → charset_of (meant_type h) ≡ option_or (option_map lowered h.charset) (default_charset (media_of_head h))
charset_is h = ap (λ o. option_or (option_map lowered o) (default_charset (media_of_head h))) (charset_found h.charset (name_line h.name) h.boundary)

any_boundary : (o : Option (List ℕ)) → IfThere IsBoundary o → if_any o ≡ o
any_boundary None h = refl
any_boundary (Some b) h = rw (ne_eqb (length b) 0 (λ e. let some = h.some in omega (arith, e, some))) refl

boundary_is : (h : HeadText) → IsHead h → boundary_of (meant_type h) ≡ cond (is_multipart (media_of_head h)) h.boundary None
boundary_is h is =
    ap (λ o. cond (is_multipart (media_of_head h)) o None) (ap if_any (boundary_found h.charset (name_line h.name) h.boundary) ∙ any_boundary h.boundary is.boundary)

media_is : (h : HeadText) → IsHead h → media_of (meant_type h) ≡ media_of_head h
media_is h is =
    let m = is_multipart (media_of_head h) in
    ap (λ o. cond (m && not (is_some o)) (codes "application/octet-stream") (media_of_head h)) (boundary_is h is)
    ∙ (elim m as (λ v. m ≡ v → cond (v && not (is_some (cond v h.boundary None))) (codes "application/octet-stream") (media_of_head h) ≡ media_of_head h) [
      | true ↦ λ e. ap (λ v. cond (not v) (codes "application/octet-stream") (media_of_head h)) (is.cuts e)
      | false ↦ λ _. refl
    ] refl)

or_same : (o : Option (List ℕ)) → option_or o o ≡ o
or_same None = refl
or_same (Some x) = refl

filename_found : (o : Option (List ℕ)) → first_named (codes "filename") (parameter_if (codes "filename") o) ≡ o
filename_found None = refl
filename_found (Some x) = refl

name_told : (h : HeadText) (d : Option (List ℕ)) → name_of (option_map (meant_disposition h) d) (meant_type h) ≡ name_line h.name
name_told h None = name_found h.charset (name_line h.name) h.boundary
name_told h (Some d) =
    ap (λ o. option_or o (first_named (codes "name") (meant_parameters h))) (filename_found (name_line h.name))
    ∙ ap (option_or (name_line h.name)) (name_found h.charset (name_line h.name) h.boundary) ∙ or_same (name_line h.name)

kinds_told : (h : HeadText) (d : Option (List ℕ)) → option_map (λ (k : Kind). k.kind) (option_map (meant_disposition h) d) ≡ option_map lowered d
kinds_told h None = refl
kinds_told h (Some d) = refl

-- ---- labels

cid_told : (o : Option (List ℕ)) → IfThere IsLabel o → option_map id_in (said_in (option_map cid_value o)) ≡ o
cid_told None h = refl
cid_told (Some c) h = ap (λ v. Some (id_in v)) (value_read (cid_value c) (cid_value c) (cid_written c h)) ∙ ap (λ v. Some v) (cid_back c)

language_told : (o : Option (List (List ℕ))) → IfThere AreTags o → option_map languages_in (said_in (option_map language_value o)) ≡ o
language_told None h = refl
language_told (Some ts) h =
    ap (λ v. Some (languages_in v)) (value_read (language_value ts) (language_value ts) (spaced (parted_by (44 ∷ 32 ∷ []) ts) (tags_written ts h.each)))
    ∙ ap (λ v. Some v) (languages_back ts h.each h.some)

location_told : (o : Option (List ℕ)) → IfThere IsLabel o → option_map trimmed (said_in (option_map location_value o)) ≡ o
location_told None h = refl
location_told (Some l) h =
    ap (λ v. Some (trimmed v)) (value_read (location_value l) (location_value l) (spaced l (label_value l h))) ∙ ap (λ v. Some v) (location_back l h)

coding_told : (o : Option Coding) → coding_of (said_in (option_map coding_value o)) ≡ unwrap_or o Plain
coding_told None = refl
coding_told (Some c) = ap coding_in (value_read (coding_value c) (coding_value c) (coding_written c)) ∙ coding_back c

pub head_back : (start : ℕ) (before : List FieldText) (h : HeadText) (body : List ℕ) → (digest : Bool) → AllOther before → IsHead h
    → head_at start (message before h body) digest ≡ node_of_head start (start + body_of (message before h body)) (start + length (message before h body)) h
unfolding head_at
head_back start before h body digest others is =
    let bytes = message before h body in
    let kind = type_is digest before h body others is in
    let shown = shown_is before h body others is in
    same_node start
    (start + body_of bytes) (start + body_of bytes) refl
    (start + length bytes) (start + length bytes) refl
    (media_of (kind_in digest bytes)) (media_of_head h) (ap media_of kind ∙ media_is h is)
    (charset_of (kind_in digest bytes)) (option_or (option_map lowered h.charset) (default_charset (media_of_head h))) (ap charset_of kind ∙ charset_is h)
    (boundary_of (kind_in digest bytes)) (cond (is_multipart (media_of_head h)) h.boundary None) (ap boundary_of kind ∙ boundary_is h is)
    (option_map (λ (d : Kind). d.kind) (shown_in bytes)) (option_map lowered h.disposition) (ap (option_map (λ (d : Kind). d.kind)) shown ∙ kinds_told h h.disposition)
    (name_of (shown_in bytes) (kind_in digest bytes)) (name_line h.name)
    (ap (λ s. name_of s (kind_in digest bytes)) shown ∙ ap (name_of (option_map (meant_disposition h) h.disposition)) kind ∙ name_told h h.disposition)
    (option_map id_in (field_text (codes "content-id") bytes)) h.cid
    (ap (option_map id_in) (said_field (codes "content-id") before h body refl others is ∙ ap said_in (two_none (option_map cid_value h.cid))) ∙ cid_told h.cid is.cid)
    (option_map languages_in (field_text (codes "content-language") bytes)) h.language
    (ap (option_map languages_in) (said_field (codes "content-language") before h body refl others is ∙ ap said_in (three_none (option_map language_value h.language))) ∙ language_told h.language is.language)
    (option_map trimmed (field_text (codes "content-location") bytes)) h.location
    (ap (option_map trimmed) (said_field (codes "content-location") before h body refl others is ∙ ap said_in (four_none (option_map location_value h.location))) ∙ location_told h.location is.location)
    (coding_of (field_text (codes "content-transfer-encoding") bytes)) (unwrap_or h.coding Plain)
    (ap coding_of (said_field (codes "content-transfer-encoding") before h body refl others is ∙ ap said_in (five_none (option_map coding_value h.coding))) ∙ coding_told h.coding)
