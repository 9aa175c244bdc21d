-- Values of fields as a careful writer writes them: what follows the colon (RFC 5322, sections
-- 2.2.3 and 3.6).
use Rattle.std.specs.Prelude.{◌≡◌, ℕ, ◌-◌, ◌/◌, ◌%◌, ◌<◌, Bool, true, false, ◌&&◌, ◌||◌, not, ◌==◌, nat_le, List, [], ◌∷◌, ◌++◌, length, map, Option, None, Some, codes, slice_index, slice_index_or, if◌then◌else◌}
use Rattle.std.specs.List.{list_all}
use Rattle.std.specs.Char.{is_ascii_alphanumeric, is_ascii_whitespace}
use Rattle.std.specs.Str.{IsUtf8, chars}
use Rattle.mime_lines.specs.Written.{fold, parted_by}
use Rattle.mime_words.specs.WrittenWords.{is_plain_text, is_shown, max_plain_size, words_text}
use Rattle.header_forms.specs.Dates.{IsReal, two_digits}
use Rattle.header_forms.specs.declared.address.Address.{Address}
use Rattle.header_forms.specs.declared.date_time.ZonedDateTime.{ZonedDateTime}

-- whether no white space is at either end of a text
abbrev pub has_no_outer_white : List ℕ → Bool
has_no_outer_white text = not (is_ascii_whitespace (slice_index text 0))
    && not (is_ascii_whitespace (slice_index text (length text - 1)))

-- a text that a field may have: characters without control characters, and no white space at either
-- end
pub record IsFieldText (text : List ℕ) : Type 0 where
  pub utf8 : IsUtf8 text
  pub shown : list_all is_shown (chars text) ≡ true
  pub dark : has_no_outer_white text ≡ true

-- a text; the first of its encoded-words is on a line of its own
abbrev pub text_value : List ℕ → List ℕ
text_value text = if is_plain_text text then 32 ∷ text else fold ++ words_text text

abbrev pub angled : List ℕ → List ℕ
angled text = 60 ∷ (text ++ 62 ∷ [])

-- identifiers in angle brackets, each but the first on a line of its own
abbrev pub ids_value : List (List ℕ) → List ℕ
ids_value ids = 32 ∷ parted_by fold (map angled ids)

-- a character of an identifier: from ! to ~, but no angle bracket
abbrev pub is_id_character : ℕ → Bool
is_id_character b = nat_le 33 b && nat_le b 126 && not (b == 60) && not (b == 62)

pub record IsId (id : List ℕ) : Type 0 where
  pub some : 0 < length id
  pub each : list_all is_id_character id ≡ true

-- a character of a display-name that is written as it is: a letter, a digit, a hyphen or a space
abbrev pub is_name_character : ℕ → Bool
is_name_character c = is_ascii_alphanumeric c || c == 45 || c == 32

abbrev pub has_two_spaces : List ℕ → Bool
has_two_spaces [] = false
has_two_spaces (b ∷ []) = false
has_two_spaces (b ∷ c ∷ cs) = (b == 32 && c == 32) || has_two_spaces (c ∷ cs)

-- a display-name that is written as it is; every other is written in encoded-words
abbrev pub is_plain_name : List ℕ → Bool
is_plain_name name = nat_le (length name) max_plain_size
    && (list_all is_name_character name && not (has_two_spaces name))

-- a display-name before an angle bracket, and what parts them; after encoded-words that is a line
-- end and a space
abbrev pub name_text : Option (List ℕ) → List ℕ
name_text None = []
name_text (Some name) = if is_plain_name name then name ++ 32 ∷ [] else words_text name ++ fold

abbrev pub address_text : Address → List ℕ
address_text a = name_text a.name ++ angled a.email

-- whether a display-name is written in encoded-words
abbrev pub is_in_words : Option (List ℕ) → Bool
is_in_words None = false
is_in_words (Some name) = not (is_plain_name name)

-- what is before the first address
abbrev pub lead : List Address → List ℕ
lead [] = 32 ∷ []
lead (a ∷ later) = if is_in_words a.name then fold else 32 ∷ []

-- addresses with a comma between each and the next, each on a line of its own
abbrev pub addresses_value : List Address → List ℕ
addresses_value addresses =
    lead addresses ++ parted_by (44 ∷ fold) (map address_text addresses)

-- a character of an address: from ! to ~, but none of < > " ( ) \
abbrev pub is_address_character : ℕ → Bool
is_address_character c = nat_le 33 c && nat_le c 126 && not (c == 60) && not (c == 62)
    && not (c == 34) && not (c == 40) && not (c == 41) && not (c == 92)

-- a display-name that can be written, or none: it isn't empty
abbrev pub IsName : Option (List ℕ) → Type 0
IsName None = Unit {0}
IsName (Some name) = IsFieldText name × (0 < length name)

-- an address that can be written
pub record IsMailbox (a : Address) : Type 0 where
  pub some : 0 < length a.email
  pub each : list_all is_address_character a.email ≡ true
  pub name : IsName a.name

abbrev pub month_names : List (List ℕ)
month_names =
    codes "Jan" ∷ codes "Feb" ∷ codes "Mar" ∷ codes "Apr" ∷ codes "May" ∷ codes "Jun" ∷ codes "Jul"
    ∷ codes "Aug" ∷ codes "Sep" ∷ codes "Oct" ∷ codes "Nov" ∷ codes "Dec" ∷ []

-- the sign, the hours and the minutes of a zone's offset
abbrev pub zone_text : Bool → ℕ → List ℕ
zone_text behind minutes = (if behind then 45 else 43)
    ∷ (two_digits (minutes / 60) ++ two_digits (minutes % 60))

-- a date-time: DD Mon YYYY hh:mm:ss +hhmm
abbrev pub date_value : ZonedDateTime → List ℕ
date_value m =
    32 ∷ (two_digits m.day ++ 32 ∷ (slice_index_or month_names (m.month - 1) [] ++ 32
    ∷ ((two_digits (m.year / 100) ++ two_digits m.year) ++ 32
    ∷ ((two_digits m.time.hour ++ 58 ∷ (two_digits m.time.minute ++ 58 ∷ two_digits m.time.second))
    ++ 32 ∷ zone_text m.offset.behind m.offset.minutes))))

-- a date-time that can be written
pub record IsDateTime (m : ZonedDateTime) : Type 0 where
  pub real : IsReal m
  pub hour : m.time.hour < 24
  pub minute : m.time.minute < 60
  pub second : m.time.second < 60
  pub offset : m.offset.minutes < 6000
