-- What a line is to a multipart's boundary: a delimiter line, a close-delimiter or another line
-- (RFC 2046, section 5.1.1).
use Rattle.std.specs.Prelude.{ℕ, Bool, false, ◌==◌, List, [], ◌∷◌, ◌++◌, Option, None, Some, codes, if◌then◌else◌}
use Rattle.std.specs.List.{list_all}
use Rattle.mime_lines.specs.Lines.{text, is_blank}
use Rattle.mime_cut.specs.declared.line_kind.LineKind.{LineKind}
use Rattle.mime_cut.specs.declared.line_kind.LineKind.TheVariants.{Other, DelimiterLine, CloseDelimiter}

-- what follows a prefix, if the bytes begin with it
abbrev pub after_prefix : List ℕ → List ℕ → Option (List ℕ)
after_prefix [] bytes = Some bytes
after_prefix (f ∷ fs) [] = None
after_prefix (f ∷ fs) (b ∷ bs) = if b == f then after_prefix fs bs else None

-- nothing but transport padding: spaces and tabs (RFC 2046, section 5.1.1)
abbrev pub is_blank_only : Option (List ℕ) → Bool
is_blank_only None = false
is_blank_only (Some rest) = list_all is_blank rest

-- this prefix, followed by transport padding alone (RFC 2046, section 5.1.1)
abbrev pub is_prefix_with_padding : List ℕ → List ℕ → Bool
is_prefix_with_padding prefix text = is_blank_only (after_prefix prefix text)

abbrev pub dashes : List ℕ
dashes = codes "--"

-- A delimiter line is two dashes and the boundary; a close-delimiter is these and two dashes more.
-- Transport padding alone may follow: a line on which anything else follows is neither.
abbrev pub line_kind : List ℕ → List ℕ → LineKind
line_kind boundary line =
    if is_prefix_with_padding (dashes ++ boundary) (text line) then DelimiterLine
    else (if is_prefix_with_padding (dashes ++ (boundary ++ dashes)) (text line) then CloseDelimiter
    else Other)

-- what a line is by what follows its dashes and boundary
abbrev pub kind_by_rest : List ℕ → LineKind
kind_by_rest rest = if list_all is_blank rest then DelimiterLine
    else (if is_prefix_with_padding dashes rest then CloseDelimiter else Other)

-- a choice by what a line is
abbrev pub by_line_kind : {A : Type 0} → LineKind → A → A → A → A
by_line_kind Other plain opens closes = plain
by_line_kind DelimiterLine plain opens closes = opens
by_line_kind CloseDelimiter plain opens closes = closes
