-- The characters of an address list (RFC 5322, sections 3.2 and 3.4), each with its context: it is
-- in a quoted-string (`Quoted`), in a comment (`Comment`), in an angle-addr (`Bracket`) or outside
-- these (`Bare`). A character is said unless it only opens, closes or quotes: a quote mark, the
-- parentheses around a comment, an angle bracket, and the backslash before a character between
-- quote marks or in a comment.
use Rattle.std.specs.Prelude.{ℕ, Bool, true, false, not, ◌==◌, List, [], ◌∷◌, if◌then◌else◌}
use Rattle.std.specs.Str.{chars}
use Rattle.header_forms.specs.declared.address_characters.Context.{Context}
use Rattle.header_forms.specs.declared.address_characters.Context.TheVariants.{Bare, Quoted, Comment, Bracket}
use Rattle.header_forms.specs.declared.address_characters.AddressCharacter.{AddressCharacter}
use Rattle.header_forms.specs.declared.address_characters.State.{State}
use Rattle.header_forms.specs.declared.address_characters.State.TheVariants.{Outside, InQuotes, InComment, InBracket, InBracketQuotes}
use Rattle.mail_text.specs.declared.comment.State.{State as Comments}
use Rattle.mail_text.specs.declared.comment.State.TheVariants.{Outside as NoComment, Inside, Escaped}
use Rattle.mail_text.specs.Comments.{next}
use Rattle.mail_text.specs.Comments as comments
use Rattle.header_forms.specs.declared.address_characters.Step.{Step}

-- a character with its context, and what is open after it
abbrev pub step_to : ℕ → Context → Bool → State → Step
step_to c context said next =
    record { character = record { character = c; context = context; said = said }; next = next }

-- a character in quote marks: a quote mark closes them, and a backslash quotes the next character
abbrev pub quoted_step : Context → (Bool → State) → State → ℕ → Step
quoted_step context within after c =
    if c == 34 then step_to c context false after
    else (if c == 92 then step_to c context false (within true)
    else step_to c context true (within false))

-- what is open when comments are in this state, or none is left
abbrev pub in_comment : Comments → State
in_comment NoComment = Outside
in_comment (Inside depth) = InComment (Inside depth)
in_comment (Escaped depth) = InComment (Escaped depth)

-- Whether a character in comments is said; `after` is the state of the comments after it. The
-- parenthesis that closes the last of them isn't said, nor is a backslash that quotes the next
-- character.
abbrev pub is_said_in_comment : Comments → Comments → ℕ → Bool
is_said_in_comment (Escaped depth) after c = true
is_said_in_comment _ NoComment c = false
is_said_in_comment _ after c = not (c == 92)

-- Comments nest. They don't count in brackets; quote marks do, since they hide the bracket that
-- closes.
abbrev pub step : State → ℕ → Step
step Outside c =
    if c == 34 then step_to c Quoted false (InQuotes false)
    else (if c == 40 then step_to c Comment false (InComment (Inside 1))
    else (if c == 60 then step_to c Bracket false InBracket else step_to c Bare true Outside))
step (InQuotes true) c = step_to c Quoted true (InQuotes false)
step (InQuotes false) c = quoted_step Quoted InQuotes Outside c
step (InComment inside) c =
    step_to c Comment (is_said_in_comment inside (next inside c) c) (in_comment (next inside c))
step InBracket c =
    if c == 62 then step_to c Bracket false Outside
    else (if c == 34 then step_to c Bracket false (InBracketQuotes false)
    else step_to c Bracket true InBracket)
step (InBracketQuotes true) c = step_to c Bracket true (InBracketQuotes false)
step (InBracketQuotes false) c = quoted_step Bracket InBracketQuotes InBracket c

abbrev pub characters_from : State → List ℕ → List AddressCharacter
characters_from state [] = []
characters_from state (c ∷ cs) = (step state c).character ∷ characters_from (step state c).next cs

-- what isn't closed extends to the end
abbrev pub address_characters : List ℕ → List AddressCharacter
address_characters text = characters_from Outside (chars text)

-- how many comments are open
abbrev pub depth_of : State → ℕ
depth_of Outside = 0
depth_of (InQuotes escaped) = 0
depth_of (InComment inside) = comments.depth_of inside
depth_of InBracket = 0
depth_of (InBracketQuotes escaped) = 0
