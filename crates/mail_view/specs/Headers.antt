-- The JSON view of header fields (RFC 8621, 4.1.2 and 4.1.3).
use Rattle.std.specs.Prelude.{ℕ, List, [], ◌∷◌, map, filter, Option, Some, None, codes, if◌then◌else◌}
use Rattle.std.specs.Str.Lossy.{utf8_lossy}
use Rattle.jm_json.specs.Tree.{Tree, null, text}
use Rattle.mime_lines.specs.Fields.{fields_of}
use Rattle.mime_lines.specs.FieldOffsets.{name_in, value_in, is_named, last_value_of}
use Rattle.mime_lines.specs.declared.field.Field.{Field}
use Rattle.header_forms.specs.Forms.{form_tree}
use Rattle.header_forms.specs.declared.form.Form.{Form}
use Rattle.header_forms.specs.declared.form.Form.TheVariants.{Raw}
use Rattle.mail_view.specs.Objects.{members_tree, list_tree}
use Rattle.get_args.specs.declared.property.HeaderProperty.{HeaderProperty}

-- the values of all fields of this name, in their order
abbrev pub values_of : List ℕ → List ℕ → List Field → List (List ℕ)
values_of bytes name fields = map (value_in bytes) (filter (is_named bytes name) fields)

abbrev pub value_or_null : Form → Option (List ℕ) → Tree
value_or_null form None = null
value_or_null form (Some value) = form_tree form value

-- a field that is asked for, of these fields: all its values, or its last one
abbrev pub header_among : List ℕ → List Field → HeaderProperty → Tree
header_among bytes fields asked =
    if asked.all then list_tree (map (form_tree asked.form) (values_of bytes asked.field fields))
    else value_or_null asked.form (last_value_of bytes asked.field fields)

-- a field that is asked for, of a message or a part with these bytes
abbrev pub header_tree : List ℕ → HeaderProperty → Tree
header_tree bytes asked = header_among bytes (fields_of bytes) asked

-- a field with its name, which is ASCII, and its raw value
abbrev pub field_tree : List ℕ → Field → Tree
field_tree bytes f =
    members_tree
    ((codes "name", text (utf8_lossy (name_in bytes f)))
    ∷ (codes "value", form_tree Raw (value_in bytes f))
    ∷ [])

-- all fields, in their order
abbrev pub headers_tree : List ℕ → Tree
headers_tree bytes = list_tree (map (field_tree bytes) (fields_of bytes))
