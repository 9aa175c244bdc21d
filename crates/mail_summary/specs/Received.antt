-- When a message was received, by the server that wrote its first trace field (RFC 5322, section
-- 3.6.7).
use Rattle.std.specs.Prelude.{ℕ, Bool, false, ◌==◌, List, [], ◌∷◌, find, Option, Some, None, option_map, codes, if◌then◌else◌}
use Rattle.std.specs.Option.{option_or, option_and_then}
use Rattle.jm_base.specs.declared.identifiers.UtcDate.{UtcDate}
use Rattle.mime_lines.specs.Fields.{fields_of}
use Rattle.mime_lines.specs.FieldOffsets.{is_named, value_in}
use Rattle.header_forms.specs.Texts.{on_one_line}
use Rattle.mail_text.specs.declared.comment.State.{State}
use Rattle.mail_text.specs.declared.comment.State.TheVariants.{Outside, Inside, Escaped}
use Rattle.mail_text.specs.Comments.{next}
use Rattle.header_forms.specs.Dates.{utc_of}

-- the value of the first field that has this name
abbrev pub first_value_of : List ℕ → List ℕ → Option (List ℕ)
first_value_of bytes name =
    option_map (value_in bytes) (find (is_named bytes name) (fields_of bytes))

-- whether a byte is a semicolon outside comments
abbrev pub is_mark : State → ℕ → Bool
is_mark Outside b = b == 59
is_mark (Inside depth) b = false
is_mark (Escaped depth) b = false

-- what follows the last semicolon outside comments
abbrev pub after_last : State → List ℕ → Option (List ℕ)
after_last state [] = None
after_last state (b ∷ bs) =
    option_or (after_last (next state b) bs) (if is_mark state b then Some bs else None)

-- the timestamp after the last semicolon outside comments
abbrev pub timestamp_after : List ℕ → Option UtcDate
timestamp_after value = option_and_then utc_of (after_last Outside (on_one_line value))

abbrev pub received : List ℕ → Option UtcDate
received bytes = option_and_then timestamp_after (first_value_of bytes (codes "Received"))
