-- Comments and the white space around them (RFC 5322, section 3.2.2). A comment is in parentheses
-- and may hold others; in it a backslash quotes the next byte (quoted-pair; section 3.2.1).
use Rattle.std.specs.Prelude.{ℕ, zero, suc, ◌+◌, Bool, true, false, ◌||◌, ◌==◌, List, [], ◌∷◌, Option, Some, None, if◌then◌else◌}
use Rattle.std.specs.Char.{is_ascii_whitespace}
use Rattle.mail_text.specs.declared.comment.State.{State}
use Rattle.mail_text.specs.declared.comment.State.TheVariants.{Outside, Inside, Escaped}
use Rattle.mail_text.specs.declared.gap.WhiteSpace.{WhiteSpace}
use Rattle.mail_text.specs.declared.gap.WhiteSpace.TheVariants.{SpaceAndTab, Ascii}

-- where the byte after the parenthesis is that closes one of this many comments
abbrev pub closed : ℕ → State
closed zero = Outside
closed (suc zero) = Outside
closed (suc (suc depth)) = Inside (suc depth)

-- where the byte after this one is
abbrev pub next : State → ℕ → State
next Outside b = if b == 40 then Inside 1 else Outside
next (Inside depth) b =
    if b == 40 then Inside (depth + 1)
    else (if b == 41 then closed depth else (if b == 92 then Escaped depth else Inside depth))
next (Escaped depth) b = Inside depth

-- where the byte after this text is
abbrev pub after_text : State → List ℕ → State
after_text state [] = state
after_text state (b ∷ bs) = after_text (next state b) bs

-- how many comments are open
abbrev pub depth_of : State → ℕ
depth_of Outside = 0
depth_of (Inside depth) = depth
depth_of (Escaped depth) = depth

abbrev pub is_outside : State → Bool
is_outside Outside = true
is_outside (Inside depth) = false
is_outside (Escaped depth) = false

-- white space within a line is space and tab; elsewhere it is space, tab, LF, CR and FF
abbrev pub is_blank : ℕ → Bool
is_blank b = b == 32 || b == 9

abbrev pub is_white : WhiteSpace → ℕ → Bool
is_white SpaceAndTab b = is_blank b
is_white Ascii b = is_ascii_whitespace b

-- whether a byte is white space, or in a comment or one of its parentheses
abbrev pub is_in_gap : (ℕ → Bool) → State → ℕ → Bool
is_in_gap white Outside b = b == 40 || white b
is_in_gap white (Inside depth) b = true
is_in_gap white (Escaped depth) b = true

-- at the end of the text each comment must be closed
abbrev pub at_end : State → Option (List ℕ)
at_end Outside = Some []
at_end (Inside depth) = None
at_end (Escaped depth) = None

-- what follows the white space and the comments at the beginning of a text; none if a comment there
-- isn't closed
abbrev pub gap_from : (ℕ → Bool) → List ℕ → State → Option (List ℕ)
gap_from white [] state = at_end state
gap_from white (b ∷ bs) state =
    if is_in_gap white state b then gap_from white bs (next state b) else Some (b ∷ bs)

abbrev pub after_gap : (ℕ → Bool) → List ℕ → Option (List ℕ)
after_gap white text = gap_from white text Outside
