-- The mailboxes of a content that a set has changed: those that it has put, and those that were
-- there at the beginning and that it has not destroyed.
use Rattle.std.specs.Prelude.{ℕ, List, Bool, not, ◌&&◌, Option, None, is_some, if◌then◌else◌}
use Rattle.mail_counts.specs.Touched.{is_one_of}
use Rattle.mail_records.specs.Contents.{mailbox_number}
use Rattle.mail_records.specs.Tables.{lookup}
use Rattle.mail_records.specs.declared.records.Mailbox.{Mailbox}

-- the mailbox of a number: the one that the set has put, or else, if the set has not destroyed it,
-- the one that was there
abbrev pub present_at : List Mailbox → List ℕ → List Mailbox → ℕ → Option Mailbox
present_at changed destroyed base n =
    if is_some (lookup mailbox_number n changed) then lookup mailbox_number n changed
    else (if is_one_of destroyed n then None
    else lookup mailbox_number n base)

-- the set has neither put nor destroyed the mailbox of this number
abbrev pub is_untouched : List Mailbox → List ℕ → ℕ → Bool
is_untouched changed destroyed n =
    not (is_some (lookup mailbox_number n changed)) && not (is_one_of destroyed n)
