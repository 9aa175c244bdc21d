-- The encodings of what histories begin with.
use Rattle.std.specs.Prelude.{ℕ, List}
use Rattle.mail_records.specs.Histories.{History}

-- The bytes are the encoding of the base of a history: of its floor, its kinds' positions there,
-- its content and its blobs there. This format has no bases, so no bytes are.
abbrev pub IsBaseEncodingOf : List ℕ → History → Type 0
IsBaseEncodingOf bytes h = ⊥
