-- The head of a part that a client describes.
use Rattle.std.specs.Prelude.{ℕ, Bool, ◌&&◌, List, [], ◌∷◌, map, Option, None, Some, option_map, codes, if◌then◌else◌}
use Rattle.std.specs.List.{list_all}
use Rattle.mime_lines.specs.Written.{field_line, fold}
use Rattle.mime_codec.specs.declared.coding.Coding.{Coding}
use Rattle.mime_words.specs.WrittenWords.{is_plain_text, pieces, word_text}
use Rattle.mime_type.specs.HeadText.{HeadText, between_quotes, cid_value, coding_value, disposition_value, is_name_character, language_value, location_value, name_text, parameter_if, parameters_text, type_value}
use Rattle.mime_writer.specs.declared.heads.PartHead.{PartHead}

-- whether a name is written as it is between quote marks; every other is written in encoded-words
-- (RFC 2047, section 5, has none there; readers decode them)
abbrev pub is_plain : List ℕ → Bool
is_plain name = is_plain_text name && list_all is_name_character name

-- a name between quote marks, each encoded-word on a line of its own
abbrev pub name_lines : List ℕ → List (List ℕ)
name_lines name = if is_plain name then name ∷ [] else map word_text (pieces name)

-- the head, with a boundary and a transfer encoding
abbrev pub head_text : PartHead → Option (List ℕ) → Option Coding → HeadText
head_text h boundary coding = record {
  main = h.main;
  sub = h.sub;
  charset = h.charset;
  name = option_map name_lines h.name;
  boundary = boundary;
  disposition = h.disposition;
  cid = h.cid;
  language = h.language;
  location = h.location;
  coding = coding;
}

-- parameters, each with what is before it
abbrev pub name_parameter : List ℕ → Option (List ℕ) → List ℕ
name_parameter parameter name =
    parameters_text (parameter_if parameter (name_text fold (option_map name_lines name)))

abbrev pub boundary_parameter : Option (List ℕ) → List ℕ
boundary_parameter boundary =
    parameters_text (parameter_if (codes "boundary") (option_map between_quotes boundary))

-- a field with its line end, if it has a value
abbrev pub field_text : List ℕ → Option (List ℕ) → List ℕ
field_text name None = []
field_text name (Some value) = field_line (record { name = name; value = value })

abbrev pub type_field : HeadText → List ℕ
type_field h = field_text (codes "Content-Type") (Some (type_value fold h))

-- with the name of a file
abbrev pub disposition_field : Option (List ℕ) → Option (List ℕ) → List ℕ
disposition_field disposition name =
    field_text (codes "Content-Disposition")
    (option_map (disposition_value fold (option_map name_lines name)) disposition)

abbrev pub cid_field : Option (List ℕ) → List ℕ
cid_field cid = field_text (codes "Content-ID") (option_map cid_value cid)

abbrev pub language_field : Option (List (List ℕ)) → List ℕ
language_field tags = field_text (codes "Content-Language") (option_map language_value tags)

abbrev pub location_field : Option (List ℕ) → List ℕ
location_field location =
    field_text (codes "Content-Location") (option_map location_value location)

abbrev pub coding_field : Option Coding → List ℕ
coding_field coding =
    field_text (codes "Content-Transfer-Encoding") (option_map coding_value coding)
