-- Content-Id, Content-Language, Content-Location and Content-Transfer-Encoding (RFC 2045, sections
-- 6 and 7; RFC 3282, section 2; RFC 2557, section 4). White space is ASCII's: space, tab, LF, CR,
-- FF.
use Rattle.std.specs.Prelude.{ℕ, ◌-◌, Bool, true, false, filter, map, ◌==◌, List, [], ◌∷◌, length, get_or, take, codes, bytes_eq, if◌then◌else◌}
use Rattle.std.specs.List.{slice_split}
use Rattle.mail_text.specs.Texts.{trimmed}
use Rattle.mime_lines.specs.FieldOffsets.{lowered}
use Rattle.mime_codec.specs.declared.coding.Coding.{Coding}
use Rattle.mime_codec.specs.declared.coding.Coding.TheVariants.{Plain, Quoted, Base64, Unknown}

-- without the angle bracket at the beginning
abbrev pub without_open : List ℕ → List ℕ
without_open [] = []
without_open (b ∷ bs) = if b == 60 then bs else b ∷ bs

-- without the angle bracket at the end
abbrev pub without_close : List ℕ → List ℕ
without_close text =
    if get_or text (length text - 1) 0 == 62 then take (length text - 1) text else text

-- the identifier that a Content-Id names
abbrev pub id_in : List ℕ → List ℕ
id_in text = without_close (without_open (trimmed text))

-- whether there is something in a text
abbrev pub is_some_text : List ℕ → Bool
is_some_text [] = false
is_some_text (b ∷ bs) = true

-- the texts that have something in them, without the white space around each
abbrev pub items : List (List ℕ) → List (List ℕ)
items texts = filter is_some_text (map trimmed texts)

-- the tags that a Content-Language lists between commas
abbrev pub languages_in : List ℕ → List (List ℕ)
languages_in text = items (slice_split (λ b. b == 44) text)

-- the transfer encoding of a name in lower case (RFC 2045, section 6.1)
abbrev pub coding_named : List ℕ → Coding
coding_named name =
    if bytes_eq name (codes "quoted-printable") then Quoted
    else (if bytes_eq name (codes "base64") then Base64
    else (if bytes_eq name (codes "7bit") then Plain
    else (if bytes_eq name (codes "8bit") then Plain
    else (if bytes_eq name (codes "binary") then Plain else Unknown))))

abbrev pub coding_in : List ℕ → Coding
coding_in text = coding_named (lowered (trimmed text))
