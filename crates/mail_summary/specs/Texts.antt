-- The texts of a message's bodies (RFC 8621, sections 4.1.4 and 4.2).
use Rattle.std.specs.Prelude.{◌≡◌, ℕ, Bool, true, false, ◌&&◌, ◌||◌, not, ◌==◌, nat_lt, List, [], ◌∷◌, ◌++◌, take, length, Option, Some, None, unwrap_or, codes, if◌then◌else◌}
use Rattle.std.specs.Char.{is_ascii_whitespace}
use Rattle.std.specs.Str.{chars, encode_utf8_all}
use Rattle.std.specs.Fmt.Cut.{floor_char_boundary}
use Rattle.mime_codec.specs.declared.coding.Coding.{Coding}
use Rattle.mime_codec.specs.declared.coding.Coding.TheVariants.{Plain, Quoted, Base64, Unknown}
use Rattle.mime_type.specs.PartTrees.{Node}
use Rattle.mime_tree.specs.PartLimit.{parts_of}
use Rattle.mime_words.specs.Charsets.{charset_named, decoded_text, has_problem}
use Rattle.body_lists.specs.Lists.{is_html, lists_in}
use Rattle.mail_summary.specs.Leaves.{body_bytes, first_text}
use Rattle.mail_summary.specs.declared.characters.TheConstants.{MAX_SHOWN_CHARACTERS}

-- the charset of a part; a part without one has us-ascii
abbrev pub charset_name : Node → List ℕ
charset_name x = unwrap_or x.charset (codes "us-ascii")

-- a part's body as text
abbrev pub body_text : List ℕ → Node → List ℕ
body_text bytes x = decoded_text (charset_named (charset_name x)) (body_bytes bytes x)

abbrev pub is_unknown : Coding → Bool
is_unknown Plain = false
is_unknown Quoted = false
is_unknown Base64 = false
is_unknown Unknown = true

-- an encoding problem (RFC 8621, section 4.1.4): of the charset, or a transfer encoding that isn't
-- known
abbrev pub body_problem : List ℕ → Node → Bool
body_problem bytes x =
    is_unknown x.coding || has_problem (charset_named (charset_name x)) (body_bytes bytes x)

-- CRLF becomes LF
abbrev pub is_line_feed : List ℕ → Bool
is_line_feed [] = false
is_line_feed (b ∷ bs) = b == 10

abbrev pub with_line_feeds : List ℕ → List ℕ
with_line_feeds [] = []
with_line_feeds (b ∷ bs) =
    if b == 13 && is_line_feed bs then with_line_feeds bs else b ∷ with_line_feeds bs

-- at most this many bytes of a text, and no part of a character; 0 means all
abbrev pub is_cut : ℕ → List ℕ → Bool
is_cut most text = not (most == 0) && nat_lt most (length text)

abbrev pub cut_to : ℕ → List ℕ → List ℕ
cut_to most text = if is_cut most text then take (floor_char_boundary text most) text else text

-- an entry of bodyValues
pub record Value : Type 0 where
  pub value : List ℕ
  pub problem : Bool
  pub truncated : Bool

abbrev pub body_value : List ℕ → ℕ → Node → Value
body_value bytes most x = let text = with_line_feeds (body_text bytes x) in record {
  value = cut_to most text;
  problem = body_problem bytes x;
  truncated = is_cut most text;
}

-- a list begins with another one
abbrev pub Begins : List ℕ → List ℕ → Type 0
Begins front whole = (later : List ℕ) × (whole ≡ front ++ later)

-- a text of these characters, at most `MAX_SHOWN_CHARACTERS` of them
abbrev pub brief : List ℕ → List ℕ
brief characters = encode_utf8_all (take MAX_SHOWN_CHARACTERS characters)

-- a space before characters, unless there is one, or nothing
abbrev pub with_gap : List ℕ → List ℕ
with_gap [] = []
with_gap (c ∷ cs) = if c == 32 then c ∷ cs else 32 ∷ c ∷ cs

-- one space for each run of white space, and none at the end
abbrev pub spaced : List ℕ → List ℕ
spaced [] = []
spaced (c ∷ cs) = if is_ascii_whitespace c then with_gap (spaced cs) else c ∷ spaced cs

-- a gap before a text, if there is one
abbrev pub with_gap_if : Bool → List ℕ → List ℕ
with_gap_if gap characters = if gap then with_gap characters else characters

abbrev pub without_space : List ℕ → List ℕ
without_space [] = []
without_space (c ∷ cs) = if c == 32 then cs else c ∷ cs

-- and none at the beginning
abbrev pub one_spaced : List ℕ → List ℕ
one_spaced characters = without_space (spaced characters)

-- HTML read from a byte offset on: `outside` is its text if no tag is open there; `inside`, if one
-- is open there, is the text after the first bracket that closes it
pub record Read : Type 0 where
  pub outside : List ℕ
  pub inside : Option (List ℕ)

-- a bracket that isn't closed stays
abbrev pub opened : List ℕ → Option (List ℕ) → List ℕ
opened outside None = 60 ∷ outside
opened outside (Some rest) = 32 ∷ rest

abbrev pub read : List ℕ → Read
read [] = record { outside = []; inside = None }
read (b ∷ bs) = let later = read bs in record {
  outside = if b == 60 then opened later.outside later.inside else b ∷ later.outside;
  inside = if b == 62 then Some later.outside else later.inside;
}

-- a space for each tag
abbrev pub without_tags : List ℕ → List ℕ
without_tags text = (read text).outside

abbrev pub shown_text : Node → List ℕ → List ℕ
shown_text x text = if is_html x then without_tags text else text

abbrev pub preview_by : List ℕ → Option Node → List ℕ
preview_by bytes None = []
preview_by bytes (Some x) = brief (one_spaced (chars (shown_text x (body_text bytes x))))

-- the preview (RFC 8621, section 4.1.4): the first characters of the first text that is shown if
-- HTML isn't
abbrev pub preview : List ℕ → List ℕ
preview bytes = let tree = parts_of bytes in preview_by bytes (first_text tree (lists_in tree).text)
