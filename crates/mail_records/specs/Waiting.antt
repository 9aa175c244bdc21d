-- A content of which the records of some numbers are still to be dropped.
use Rattle.std.specs.Prelude.{◌≡◌, ℕ, false, List, ⊤}
use Rattle.jm_base.specs.Splices.{has}
use Rattle.mail_records.specs.Contents.{Content, email_number, thread_number}
use Rattle.mail_records.specs.Tables.{without_all}
use Rattle.mail_records.specs.declared.edits.Edit.{Edit}
use Rattle.mail_records.specs.declared.edits.Edit.TheVariants.{PutEmail, DropEmail, PutThread, DropThread}

-- the content without the emails and the threads of these numbers
abbrev pub without_records : Content → List ℕ → List ℕ → Content
without_records c emails threads =
    record c {
      emails = without_all email_number emails c.emails;
      threads = without_all thread_number threads c.threads;
    }

-- the edit is of none of these emails and threads
abbrev pub IsPast : Edit → List ℕ → List ℕ → Type 0
IsPast (PutEmail item was) emails threads = has emails item.number ≡ false
IsPast (DropEmail number thread) emails threads = has emails number ≡ false
IsPast (PutThread item was) emails threads = has threads item.number ≡ false
IsPast (DropThread number) emails threads = has threads number ≡ false
IsPast _ emails threads = ⊤
