-- The identifiers by which a message is linked to others (RFC 8621, section 3).
use Rattle.std.specs.Prelude.{ℕ, Bool, nat_lt, nat_le, List, [], ◌∷◌, ◌++◌, length, filter, Option, Some, None, codes, if◌then◌else◌}
use Rattle.std.specs.Ordering.{nat_cmp}
use Rattle.std.specs.declared.cmp.Ordering.{Ordering}
use Rattle.std.specs.declared.cmp.Ordering.TheVariants.{Less, Equal, Greater}
use Rattle.std.specs.Cmp.Lexicographic.{slice_cmp}
use Rattle.mime_lines.specs.Fields.{fields_of}
use Rattle.mime_lines.specs.FieldOffsets.{last_value_of}
use Rattle.header_forms.specs.Texts.{on_one_line}
use Rattle.header_forms.specs.Angles.{angle_texts}
use Rattle.mail_records.specs.declared.limits.TheConstants.{MAX_LINKS_PER_EMAIL}
use Rattle.mail_summary.specs.declared.links.TheConstants.{MAX_LINK_BYTES}

abbrev pub if_value : Option (List ℕ) → List (List ℕ)
if_value None = []
if_value (Some value) = angle_texts (on_one_line value)

-- the identifiers of the last field that has this name
abbrev pub ids_of : List ℕ → List ℕ → List (List ℕ)
ids_of bytes name = if_value (last_value_of bytes name (fields_of bytes))

-- the identifiers that may link, in the order in which they are read
abbrev pub all_ids : List ℕ → List (List ℕ)
all_ids bytes = ids_of bytes (codes "Message-ID")
    ++ (ids_of bytes (codes "In-Reply-To") ++ ids_of bytes (codes "References"))

-- an identifier of more than `MAX_LINK_BYTES` links nothing
abbrev pub is_short : List ℕ → Bool
is_short id = nat_le (length id) MAX_LINK_BYTES

-- an identifier at its index in byte order, before or after the first of some texts; one that is
-- there already isn't repeated
abbrev pub put_by : Ordering → List ℕ → List ℕ → List (List ℕ) → List (List ℕ) → List (List ℕ)
put_by Less id x xs later = id ∷ x ∷ xs
put_by Equal id x xs later = x ∷ xs
put_by Greater id x xs later = x ∷ later

abbrev pub put : List ℕ → List (List ℕ) → List (List ℕ)
put id [] = id ∷ []
put id (x ∷ xs) = put_by (slice_cmp nat_cmp id x) id x xs (put id xs)

abbrev pub put_if_few : List ℕ → List (List ℕ) → List (List ℕ)
put_if_few id kept = if nat_lt (length kept) MAX_LINKS_PER_EMAIL then put id kept else kept

-- each once and in byte order, the first `MAX_LINKS_PER_EMAIL` of them
abbrev pub gathered : List (List ℕ) → List (List ℕ) → List (List ℕ)
gathered kept [] = kept
gathered kept (id ∷ ids) = gathered (put_if_few id kept) ids

abbrev pub links : List ℕ → List (List ℕ)
links bytes = gathered [] (filter is_short (all_ids bytes))
