-- How many bytes edits take where they are kept.
use Rattle.std.specs.Prelude.{ℕ, ◌-◌, ◌^◌, min, List, length}
use Rattle.std.specs.List.{flat_map}
use Rattle.mail_records.specs.declared.edits.Edit.{Edit}
use Rattle.record_codec.specs.Encoding.{edit}

-- The bytes of the encodings of edits, one after the other: their count and the rest of their
-- commit don't count.
abbrev pub edit_bytes : List Edit → ℕ
edit_bytes es = length (flat_map edit es)

-- a count as a number of 64 bits: where it doesn't fit it is the greatest such number, 2^64 - 1
abbrev pub capped : ℕ → ℕ
capped n = min n (2 ^ 64 - 1)
