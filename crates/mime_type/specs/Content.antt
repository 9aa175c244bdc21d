-- What the fields of a part's head say of its content (RFC 2045, sections 5 and 6; RFC 2046,
-- section 5.1; RFC 2183).
use Rattle.std.specs.Prelude.{ℕ, Bool, ◌&&◌, not, List, [], ◌==◌, length, Option, Some, None, option_map, unwrap_or, codes, is_some, nat_eq, if◌then◌else◌}
use Rattle.std.specs.Option.{option_or, option_and_then}
use Rattle.std.specs.List.{starts_with}
use Rattle.mime_lines.specs.FieldOffsets.{lowered}
use Rattle.mime_codec.specs.declared.coding.Coding.{Coding}
use Rattle.mime_codec.specs.declared.coding.Coding.TheVariants.{Plain}
use Rattle.mime_type.specs.Grammar.{Kind, type_at, disposition_at, first_named}
use Rattle.mime_type.specs.Labels.{coding_in}

abbrev pub plain_type : List ℕ → Kind
plain_type kind = record { kind = kind; params = [] }

-- the type of a part by its Content-Type: without the field text/plain, or in a digest
-- message/rfc822; text/plain too if the field is invalid
abbrev pub type_of : Bool → Option (List ℕ) → Kind
type_of digest None = plain_type (if digest then codes "message/rfc822" else codes "text/plain")
type_of digest (Some text) = unwrap_or (type_at text) (plain_type (codes "text/plain"))

-- the disposition by Content-Disposition; a field that begins with no token says nothing
abbrev pub disposition_of : Option (List ℕ) → Option Kind
disposition_of field = option_and_then disposition_at field

-- the charset of a type: its parameter in lower case; a text without one has us-ascii, other types
-- have none
abbrev pub default_charset : List ℕ → Option (List ℕ)
default_charset kind =
    if starts_with nat_eq kind (codes "text/") then Some (codes "us-ascii") else None

abbrev pub charset_of : Kind → Option (List ℕ)
charset_of k =
    option_or (option_map lowered (first_named (codes "charset") k.params)) (default_charset k.kind)

abbrev pub is_multipart : List ℕ → Bool
is_multipart kind = starts_with nat_eq kind (codes "multipart/")

-- a boundary isn't empty
abbrev pub if_any : Option (List ℕ) → Option (List ℕ)
if_any None = None
if_any (Some b) = if length b == 0 then None else Some b

-- the boundary of a multipart; other types have none
abbrev pub boundary_of : Kind → Option (List ℕ)
boundary_of k =
    if is_multipart k.kind then if_any (first_named (codes "boundary") k.params) else None

-- the type that a part is read as: a multipart that names no boundary can't be cut, and is
-- application/octet-stream
abbrev pub media_of : Kind → List ℕ
media_of k = if is_multipart k.kind && not (is_some (boundary_of k))
    then codes "application/octet-stream" else k.kind

abbrev pub filename_of : Option Kind → Option (List ℕ)
filename_of None = None
filename_of (Some d) = first_named (codes "filename") d.params

-- the name of a part: the disposition's filename, else the type's name
abbrev pub name_of : Option Kind → Kind → Option (List ℕ)
name_of shown k = option_or (filename_of shown) (first_named (codes "name") k.params)

-- the transfer encoding of the body: without the field, the body is as it is
abbrev pub coding_of : Option (List ℕ) → Coding
coding_of None = Plain
coding_of (Some text) = coding_in text
