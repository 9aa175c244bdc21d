-- The head of a part: what its header says of it (RFC 2045; RFC 2046, section 5.1; RFC 2183; RFC
-- 8621, section 4.1.4).
use Rattle.std.specs.Prelude.{ℕ, ◌+◌, Bool, List, length, Option, None, option_map, codes}
use Rattle.std.specs.Str.Lossy.{utf8_lossy}
use Rattle.mime_lines.specs.Lines.{unfolded}
use Rattle.mime_lines.specs.Fields.{fields_of, body_of}
use Rattle.mime_lines.specs.FieldOffsets.{last_value_of}
use Rattle.mime_type.specs.PartTrees.{Node}
use Rattle.mime_type.specs.Grammar.{Kind}
use Rattle.mime_type.specs.Content.{type_of, disposition_of, charset_of, boundary_of, media_of, name_of, coding_of}
use Rattle.mime_type.specs.Labels.{id_in, languages_in}
use Rattle.mail_text.specs.Texts.{trimmed}

-- what the last field of a name says, on one line; bytes that are no UTF-8 become U+FFFD
unfoldable pub field_text : List ℕ → List ℕ → Option (List ℕ)
field_text name bytes =
    option_map (λ value. utf8_lossy (unfolded value)) (last_value_of bytes name (fields_of bytes))

-- the type and the disposition of a part with these bytes
abbrev pub kind_in : Bool → List ℕ → Kind
kind_in digest bytes = type_of digest (field_text (codes "content-type") bytes)

abbrev pub shown_in : List ℕ → Option Kind
shown_in bytes = disposition_of (field_text (codes "content-disposition") bytes)

-- a part that begins at `start` of a message and has these bytes. `digest` says that it is in a
-- multipart/digest. A multipart that names no boundary is application/octet-stream, so `boundary`
-- is there for each part that is to be cut. The name isn't decoded by RFC 2047, and no number is
-- known yet.
unfoldable pub head_at : ℕ → List ℕ → Bool → Node
head_at start bytes digest =
    let kind = kind_in digest bytes in
    let shown = shown_in bytes in
    record {
      start = start;
      body = start + body_of bytes;
      end = start + length bytes;
      number = None;
      media = media_of kind;
      charset = charset_of kind;
      boundary = boundary_of kind;
      disposition = option_map (λ d. d.kind) shown;
      name = name_of shown kind;
      cid = option_map id_in (field_text (codes "content-id") bytes);
      language = option_map languages_in (field_text (codes "content-language") bytes);
      location = option_map trimmed (field_text (codes "content-location") bytes);
      coding = coding_of (field_text (codes "content-transfer-encoding") bytes);
    }
