-- Histories that differ in the stamps of their entries alone.
use Rattle.std.specs.Prelude.{◌≡◌, map}
use Rattle.mail_records.specs.Histories.{History, Entry, Committed, Refused}
use Rattle.mail_records.specs.declared.edits.Stamp.{Stamp}

abbrev pub no_stamp : Stamp
no_stamp = record { pass = 0; serial = 0 }

abbrev pub unstamped_entry : Entry → Entry
unstamped_entry (Committed commit) = Committed (record commit { stamp = no_stamp })
unstamped_entry (Refused stamp) = Refused no_stamp

-- the history with no stamps
abbrev pub unstamped : History → History
unstamped h = record h { entries = map unstamped_entry h.entries }

-- the histories are the same but for stamps
abbrev pub AreAlike : History → History → Type 0
AreAlike h k = unstamped k ≡ unstamped h
