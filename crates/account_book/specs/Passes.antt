-- The passes of a book's entries. Who shares a book has a number, from 1 on, that no other had
-- since the book was opened. The pass of its stamps is that number counted from the greatest pass
-- of the entries that the book was opened with, modulo 2^64. So no pass of an earlier opening comes
-- again while that sum is below 2^64.
use Rattle.std.specs.Prelude.{ℕ, ◌+◌, ◌-◌, ◌%◌, ◌^◌, ◌<◌, List, [], ◌∷◌, max, map}
use Rattle.mail_records.specs.Histories.{Entry, Committed, Refused, History, entry_pass}

-- the greatest pass of entries, or 0
abbrev pub greatest_pass : List Entry → ℕ
greatest_pass [] = 0
greatest_pass (e ∷ es) = max (entry_pass e) (greatest_pass es)

-- the pass of a number, counted from the greatest one; after 2^64 - 1 comes 0
abbrev pub pass_from : ℕ → ℕ → ℕ
pass_from greatest number = (greatest + number) % 2 ^ 64

-- the number of a pass, counted from the greatest one
abbrev pub number_from : ℕ → ℕ → ℕ
number_from greatest pass = (pass + 2 ^ 64 - greatest) % 2 ^ 64

-- the entry under another pass
abbrev pub with_pass : ℕ → Entry → Entry
with_pass pass (Committed commit) =
    Committed (record commit { stamp = record { pass = pass; serial = commit.stamp.serial } })
with_pass pass (Refused stamp) = Refused (record { pass = pass; serial = stamp.serial })

-- the entry with its number in place of its pass
abbrev pub numbered_from : ℕ → Entry → Entry
numbered_from greatest e = with_pass (number_from greatest (entry_pass e)) e

-- the entry with the pass of its number
abbrev pub named_from : ℕ → Entry → Entry
named_from greatest e = with_pass (pass_from greatest (entry_pass e)) e

-- the entries that a history gained since this one, as they were made: each with the pass of its
-- number
abbrev pub named_since : History → List Entry → List Entry
named_since opened entries = map (named_from (greatest_pass opened.entries)) entries

-- the entries that a history gained since this one, each with the number of its pass
abbrev pub numbered_since : History → List Entry → List Entry
numbered_since opened entries = map (numbered_from (greatest_pass opened.entries)) entries

-- the entry's pass is a number of 64 bits
abbrev pub IsPassNumber : Entry → Type 0
IsPassNumber e = entry_pass e < 2 ^ 64
