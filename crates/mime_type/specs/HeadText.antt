-- The head of a part as a careful writer writes it (RFC 2045; RFC 2046, section 5.1; RFC 2183).
use Rattle.std.specs.Prelude.{◌≡◌, ℕ, ◌<◌, Bool, true, false, ◌&&◌, not, ◌==◌, nat_le, List, [], ◌∷◌, ◌++◌, length, Option, None, Some, option_map, unwrap_or, is_some, codes, nat_eq, if◌then◌else◌}
use Rattle.std.specs.List.{AllByRecursion, list_all, starts_with}
use Rattle.std.specs.Option.{option_or}
use Rattle.mime_lines.specs.FieldOffsets.{lowered}
use Rattle.mime_lines.specs.FieldTexts.{FieldText}
use Rattle.mime_lines.specs.Written.{IsField, fold, parted_by}
use Rattle.mime_codec.specs.declared.coding.Coding.{Coding}
use Rattle.mime_codec.specs.declared.coding.Coding.TheVariants.{Plain, Quoted, Base64, Unknown}
use Rattle.mime_type.specs.PartTrees.{Node}
use Rattle.mime_type.specs.Grammar.{Pair}
use Rattle.mime_type.specs.Content.{default_charset, is_multipart}
use Rattle.mime_type.specs.TypeText.{IsToken}

-- What a head says of a part. `main` and `sub` are its type. `name` is its name as it stands
-- between quote marks, in one text for each line that it takes.
pub record HeadText : Type 0 where
  pub main : List ℕ
  pub sub : List ℕ
  pub charset : Option (List ℕ)
  pub name : Option (List (List ℕ))
  pub boundary : Option (List ℕ)
  pub disposition : Option (List ℕ)
  pub cid : Option (List ℕ)
  pub language : Option (List (List ℕ))
  pub location : Option (List ℕ)
  pub coding : Option Coding

abbrev pub between_quotes : List ℕ → List ℕ
between_quotes text = 34 ∷ (text ++ 34 ∷ [])

-- a parameter, if it has a value
abbrev pub parameter_if : List ℕ → Option (List ℕ) → List Pair
parameter_if name None = []
parameter_if name (Some value) = record { name = name; value = value } ∷ []

-- parameters with their values as they are written
abbrev pub parameters_text : List Pair → List ℕ
parameters_text [] = []
parameters_text (p ∷ ps) = 59 ∷ 32 ∷ (p.name ++ 61 ∷ (p.value ++ parameters_text ps))

-- a name between quote marks, with this between its lines
abbrev pub name_text : List ℕ → Option (List (List ℕ)) → Option (List ℕ)
name_text between name = option_map (λ lines. between_quotes (parted_by between lines)) name

abbrev pub type_parameters : List ℕ → HeadText → List Pair
type_parameters between h =
    parameter_if (codes "charset") h.charset
    ++ (parameter_if (codes "name") (name_text between h.name)
    ++ parameter_if (codes "boundary") (option_map between_quotes h.boundary))

-- Content-Type
abbrev pub type_value : List ℕ → HeadText → List ℕ
type_value between h =
    32 ∷ (h.main ++ 47 ∷ (h.sub ++ parameters_text (type_parameters between h)))

-- Content-Disposition
abbrev pub disposition_value : List ℕ → Option (List (List ℕ)) → List ℕ → List ℕ
disposition_value between name disposition =
    32 ∷ (disposition
    ++ parameters_text (parameter_if (codes "filename") (name_text between name)))

-- Content-ID
abbrev pub cid_value : List ℕ → List ℕ
cid_value cid = 32 ∷ 60 ∷ (cid ++ 62 ∷ [])

-- Content-Language
abbrev pub language_value : List (List ℕ) → List ℕ
language_value tags = 32 ∷ parted_by (44 ∷ 32 ∷ []) tags

-- Content-Location
abbrev pub location_value : List ℕ → List ℕ
location_value location = 32 ∷ location

-- the name of a transfer encoding
abbrev pub coding_name : Coding → List ℕ
coding_name Plain = codes "8bit"
coding_name Quoted = codes "quoted-printable"
coding_name Base64 = codes "base64"
coding_name Unknown = codes "x-unknown"

-- Content-Transfer-Encoding
abbrev pub coding_value : Coding → List ℕ
coding_value coding = 32 ∷ coding_name coding

abbrev pub field_if : List ℕ → Option (List ℕ) → List FieldText
field_if name None = []
field_if name (Some value) = record { name = name; value = value } ∷ []

-- the fields of a part's head, in their order
abbrev pub part_fields : HeadText → List FieldText
part_fields h =
    record { name = codes "Content-Type"; value = type_value fold h }
    ∷ (field_if (codes "Content-Disposition")
    (option_map (disposition_value fold h.name) h.disposition)
    ++ (field_if (codes "Content-ID") (option_map cid_value h.cid)
    ++ (field_if (codes "Content-Language") (option_map language_value h.language)
    ++ (field_if (codes "Content-Location") (option_map location_value h.location)
    ++ field_if (codes "Content-Transfer-Encoding") (option_map coding_value h.coding)))))

-- whether a field is one of a part's head
abbrev pub is_content_field : FieldText → Bool
is_content_field f = starts_with nat_eq (lowered f.name) (codes "content-")

-- a field that a message may have before those of its part
pub record IsOtherField (f : FieldText) : Type 0 where
  pub field : IsField f
  pub other : is_content_field f ≡ false

-- a character of a name between quote marks: from space to ~, but neither a quote mark nor a
-- backslash
abbrev pub is_name_character : ℕ → Bool
is_name_character b = nat_le 32 b && nat_le b 126 && not (b == 34) && not (b == 92)

-- a character of a Content-ID or a Content-Location: from ! to ~, but no angle bracket
abbrev pub is_label_character : ℕ → Bool
is_label_character b = nat_le 33 b && nat_le b 126 && not (b == 60) && not (b == 62)

pub record IsLabel (t : List ℕ) : Type 0 where
  pub some : 0 < length t
  pub each : list_all is_label_character t ≡ true

abbrev pub IfThere : {A : Type 0} → (A → Type 0) → Option A → Type 0
IfThere P None = Unit {0}
IfThere P (Some x) = P x

abbrev pub IsNameLine : List ℕ → Type 0
IsNameLine t = list_all is_name_character t ≡ true

pub record IsBoundary (t : List ℕ) : Type 0 where
  pub some : 0 < length t
  pub each : list_all is_name_character t ≡ true

pub record AreTags (tags : List (List ℕ)) : Type 0 where
  pub some : 0 < length tags
  pub each : AllByRecursion IsToken tags

-- the type, as it is read
abbrev pub media_of_head : HeadText → List ℕ
media_of_head h = lowered (h.main ++ 47 ∷ h.sub)

-- a head that can be written; a multipart has a boundary
pub record IsHead (h : HeadText) : Type 0 where
  pub main : IsToken h.main
  pub sub : IsToken h.sub
  pub charset : IfThere IsToken h.charset
  pub name : IfThere (AllByRecursion IsNameLine) h.name
  pub boundary : IfThere IsBoundary h.boundary
  pub cuts : is_multipart (media_of_head h) ≡ true → is_some h.boundary ≡ true
  pub disposition : IfThere IsToken h.disposition
  pub cid : IfThere IsLabel h.cid
  pub language : IfThere AreTags h.language
  pub location : IfThere IsLabel h.location

-- the part that a head means: its type, its charset and its disposition in lower case, and its name
-- on one line
abbrev pub node_of_head : ℕ → ℕ → ℕ → HeadText → Node
node_of_head start body end h = record {
  start = start;
  body = body;
  end = end;
  number = None;
  media = media_of_head h;
  charset = option_or (option_map lowered h.charset) (default_charset (media_of_head h));
  boundary = if is_multipart (media_of_head h) then h.boundary else None;
  disposition = option_map lowered h.disposition;
  name = option_map (parted_by (32 ∷ [])) h.name;
  cid = h.cid;
  language = h.language;
  location = h.location;
  coding = unwrap_or h.coding Plain;
}
