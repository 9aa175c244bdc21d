-- The words of a date-time, read from the beginning.
use Rattle.std.specs.Prelude.{◌≡◌, ℕ, Bool, true, false, ◌&&◌, ◌||◌, not, ◌==◌, List, [], ◌∷◌, Option, Some, None}
use Rattle.std.specs.Char.{is_ascii_whitespace}
use Rattle.mail_text.specs.declared.comment.State.TheVariants.{Outside}
use Rattle.mail_text.specs.Comments.{gap_from}
use Rattle.mime_words.specs.Words.{◌>>=◌}
use Rattle.header_forms.specs.Dates.{words_of}
use Rattle.header_forms.specs.declared.date_time.ZonedDateTime.{ZonedDateTime}

-- a byte between words, where a comment may begin
abbrev pub is_gap : ℕ → Bool
is_gap b = b == 40 || is_ascii_whitespace b

-- a word begins, or the text is at its end
abbrev pub begins_word : List ℕ → Bool
begins_word [] = true
begins_word (b ∷ bs) = not (is_gap b)

-- a byte that continues a word
abbrev pub is_in_word : ℕ → Bool
is_in_word b = not (is_gap b) && not (b == 44)

-- a word that is no comma begins
abbrev pub starts_word : List ℕ → Bool
starts_word [] = false
starts_word (b ∷ bs) = is_in_word b

-- there is no word, or a comment isn't closed
abbrev pub has_no_word : Option (List (List ℕ)) → Bool
has_no_word None = true
has_no_word (Some []) = true
has_no_word (Some (word ∷ words)) = false

-- there is no word, and each comment is closed
abbrev pub is_end : Option (List (List ℕ)) → Bool
is_end None = false
is_end (Some []) = true
is_end (Some (word ∷ words)) = false

-- the date-time of the words of a text; `say` gives the date-time of words
abbrev pub date_time_from : (List (List ℕ) → Option ZonedDateTime) → List ℕ → Option ZonedDateTime
date_time_from say text = words_of text >>= say

-- a text is complete comments, one after another, and nothing else
abbrev pub AreComments : List ℕ → Type 0
AreComments text = gap_from (λ _. false) text Outside ≡ Some []
