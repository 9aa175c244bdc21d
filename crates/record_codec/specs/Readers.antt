-- What each reader reads (the bytes: docs/rules/kept-bytes.md).
use Rattle.std.specs.Prelude.{ℕ, zero, suc, ◌+◌, ◌-◌, Bool, true, false, not, ◌&&◌, ◌||◌, List, [], ◌∷◌, length, take, drop, Option, Some, None, Ok, Err, nat_lt, nat_le, ◌==◌, if◌then◌else◌, pos, ◌-ℤ◌}
use Rattle.std.specs.Int.{w64, from_be_bytes, to_be_bytes}
use Rattle.std.specs.Ordering.{is_lt, nat_cmp}
use Rattle.std.specs.Cmp.Lexicographic.{slice_cmp}
use Rattle.std.specs.Str.{is_utf8}
use Rattle.jm_base.specs.declared.identifiers.UtcDate.{UtcDate}
use Rattle.mail_records.specs.declared.records.Summary.{Summary}
use Rattle.mail_records.specs.declared.records.Mailbox.{Mailbox}
use Rattle.mail_records.specs.declared.records.Email.{Email}
use Rattle.mail_records.specs.declared.records.Thread.{Thread}
use Rattle.mail_records.specs.declared.edits.Edit.{Edit}
use Rattle.mail_records.specs.declared.edits.Edit.TheVariants.{PutMailbox, DropMailbox, PutEmail, DropEmail, PutThread, DropThread}
use Rattle.mail_records.specs.declared.edits.Commit.{Commit}
use Rattle.record_codec.specs.declared.write_fields.TheConstants.{LAST_SECOND, SECONDS_BEFORE_1970}
use Rattle.record_codec.specs.NextBytes.{left_in_word, start, least_length, left_in_text, at_first}
use Rattle.record_codec.specs.Reading.{Read, ◌>>=◌, both, made, items_at}

abbrev pub greatest : ℕ
greatest = 18446744073709551615

-- a number
abbrev pub number_at : List ℕ → Read ℕ
number_at bytes =
    if nat_lt (length bytes) 8 then Err 0 else Ok (from_be_bytes w64 (take 8 bytes), drop 8 bytes)

-- a number between two others
abbrev pub is_between : ℕ → ℕ → List ℕ → Bool
is_between low high bytes = nat_le 8 (length bytes) && nat_le low (from_be_bytes w64 (take 8 bytes))
    && nat_le (from_be_bytes w64 (take 8 bytes)) high

abbrev pub number_between : ℕ → ℕ → List ℕ → Read ℕ
number_between low high bytes =
    if is_between low high bytes then Ok (from_be_bytes w64 (take 8 bytes), drop 8 bytes)
    else Err (left_in_word false false (to_be_bytes w64 low) (to_be_bytes w64 high) bytes)

abbrev pub truth_at : List ℕ → Read Bool
truth_at [] = Err 0
truth_at (zero ∷ rest) = Ok (false, rest)
truth_at (suc zero ∷ rest) = Ok (true, rest)
truth_at (suc (suc b) ∷ rest) = Err (suc (length rest))

abbrev pub optional_at : {A : Type 0} → (List ℕ → Read A) → List ℕ → Read (Option A)
optional_at value [] = Err 0
optional_at value (zero ∷ rest) = Ok (None, rest)
optional_at value (suc zero ∷ rest) = made (λ x. Some x) value rest
optional_at value (suc (suc b) ∷ rest) = Err (suc (length rest))

-- a byte from 1 to the last tag
abbrev pub tag_at : ℕ → List ℕ → Read ℕ
tag_at last [] = Err 0
tag_at last (b ∷ rest) = if b == 0 || nat_lt last b then Err (suc (length rest)) else Ok (b, rest)

-- a date, from its seconds since the beginning of the year 1
abbrev pub date_from : ℕ → UtcDate
date_from n = record { seconds = pos n -ℤ pos SECONDS_BEFORE_1970 }

abbrev pub date_at : List ℕ → Read UtcDate
date_at = made date_from (number_between 0 LAST_SECOND)

-- a blob
abbrev pub bytes_at : ℕ → List ℕ → Read (List ℕ)
bytes_at n bytes = if nat_le n (length bytes) then Ok (take n bytes, drop n bytes) else Err 0

abbrev pub blob_at : List ℕ → Read (List ℕ)
blob_at bytes = number_at bytes >>= λ n. bytes_at n.0 n.1

-- a text, above another where it is tight
abbrev pub is_above : Bool → List ℕ → List ℕ → Bool
is_above tight bound text = not tight || is_lt (slice_cmp nat_cmp bound text)

abbrev pub is_text_above : Bool → List ℕ → List ℕ → Bool
is_text_above tight bound text = is_utf8 text && is_above tight bound text

abbrev pub is_content : ℕ → Bool → List ℕ → List ℕ → Bool
is_content n tight bound bytes = nat_le n (length bytes) && is_text_above tight bound (take n bytes)

abbrev pub content_at : ℕ → Bool → List ℕ → List ℕ → Read (List ℕ)
content_at n tight bound bytes =
    if is_content n tight bound bytes then Ok (take n bytes, drop n bytes)
    else Err (left_in_text (at_first n tight bound) bound bytes)

abbrev pub least_room : Bool → List ℕ → ℕ
least_room tight bound = if tight then least_length (Some start) bound else 0

abbrev pub text_above : Bool → List ℕ → List ℕ → Read (List ℕ)
text_above tight bound bytes =
    number_between (least_room tight bound) greatest bytes >>= λ n. content_at n.0 tight bound n.1

abbrev pub text_at : List ℕ → Read (List ℕ)
text_at = text_above false []

-- lists
abbrev pub listed_at : {S A : Type 0} → (S → ℕ → List ℕ → Read A) → (S → A → S) → S → List ℕ
    → Read (List A)
listed_at item next s bytes = number_at bytes >>= λ n. items_at item next s n.0 n.1

abbrev pub any_at : {A : Type 0} → (List ℕ → Read A) → Unit {0} → ℕ → List ℕ → Read A
any_at read _ left = read

abbrev pub same : {A : Type 0} → Unit {0} → A → Unit {0}
same s _ = s

-- a number that leaves room for those after it
abbrev pub rising_number : ℕ → ℕ → List ℕ → Read ℕ
rising_number low left = number_between low (greatest - left)

abbrev pub number_after : ℕ → ℕ
number_after n = if n == greatest then n else n + 1

abbrev pub next_number : ℕ → ℕ → ℕ
next_number low n = number_after n

abbrev pub rising_text : Bool × List ℕ → ℕ → List ℕ → Read (List ℕ)
rising_text s left = text_above s.0 s.1

abbrev pub next_text : Bool × List ℕ → List ℕ → Bool × List ℕ
next_text s t = (true, t)

abbrev pub numbers_at : List ℕ → Read (List ℕ)
numbers_at = listed_at (any_at number_at) same tt

abbrev pub rising_numbers_at : List ℕ → Read (List ℕ)
rising_numbers_at = listed_at rising_number next_number 0

abbrev pub rising_texts_at : List ℕ → Read (List (List ℕ))
rising_texts_at = listed_at rising_text next_text (false, [])

abbrev pub blobs_at : List ℕ → Read (List (List ℕ))
blobs_at = listed_at (any_at blob_at) same tt

-- records: their fields one after the other
abbrev pub summary_from : List (List ℕ) × (List ℕ × (List ℕ × (List ℕ × (Option UtcDate × Bool))))
    → Summary
summary_from p = record {
  links = p.0;
  subject = p.1.0;
  from = p.1.1.0;
  to = p.1.1.1.0;
  sent = p.1.1.1.1.0;
  attachment = p.1.1.1.1.1;
}

abbrev pub summary_at : List ℕ → Read Summary
summary_at = made summary_from (both rising_texts_at
    (both text_at (both text_at (both text_at (both (optional_at date_at) truth_at)))))

abbrev pub mailbox_from : ℕ × (List ℕ × (Option ℕ
    × (Option (List ℕ) × (ℕ × (Bool × (ℕ × (ℕ × (ℕ × ℕ)))))))) → Mailbox
mailbox_from p = record {
  number = p.0;
  name = p.1.0;
  parent = p.1.1.0;
  role = p.1.1.1.0;
  sort_order = p.1.1.1.1.0;
  subscribed = p.1.1.1.1.1.0;
  total_emails = p.1.1.1.1.1.1.0;
  unread_emails = p.1.1.1.1.1.1.1.0;
  total_threads = p.1.1.1.1.1.1.1.1.0;
  unread_threads = p.1.1.1.1.1.1.1.1.1;
}

abbrev pub counts_at : List ℕ → Read (ℕ × (ℕ × (ℕ × ℕ)))
counts_at = both number_at (both number_at (both number_at number_at))

abbrev pub mailbox_at : List ℕ → Read Mailbox
mailbox_at = made mailbox_from (both number_at
    (both text_at (both (optional_at number_at)
    (both (optional_at text_at) (both number_at (both truth_at counts_at))))))

abbrev pub email_from : ℕ × (ℕ × (ℕ × (List ℕ × (List (List ℕ) × (ℕ × (UtcDate × Summary))))))
    → Email
email_from p = record {
  number = p.0;
  thread = p.1.0;
  blob = p.1.1.0;
  mailboxes = p.1.1.1.0;
  keywords = p.1.1.1.1.0;
  size = p.1.1.1.1.1.0;
  received = p.1.1.1.1.1.1.0;
  summary = p.1.1.1.1.1.1.1;
}

abbrev pub email_at : List ℕ → Read Email
email_at = made email_from (both number_at (both number_at
    (both number_at (both rising_numbers_at (both rising_texts_at
    (both number_at (both date_at summary_at)))))))

abbrev pub thread_from : ℕ × List ℕ → Thread
thread_from p = record { number = p.0; emails = p.1 }

abbrev pub thread_at : List ℕ → Read Thread
thread_at = made thread_from (both number_at numbers_at)

-- what follows an edit's tag
abbrev pub put_mailbox_at : List ℕ → Read Edit
put_mailbox_at = made (λ p. PutMailbox p.0 p.1.0 p.1.1) (both mailbox_at (both truth_at truth_at))

abbrev pub put_email_at : List ℕ → Read Edit
put_email_at = made (λ p. PutEmail p.0 p.1) (both email_at truth_at)

abbrev pub put_thread_at : List ℕ → Read Edit
put_thread_at = made (λ p. PutThread p.0 p.1) (both thread_at truth_at)

abbrev pub drop_mailbox_at : List ℕ → Read Edit
drop_mailbox_at = made (λ n. DropMailbox n) number_at

abbrev pub drop_email_at : List ℕ → Read Edit
drop_email_at = made (λ p. DropEmail p.0 p.1) (both number_at number_at)

abbrev pub drop_thread_at : List ℕ → Read Edit
drop_thread_at = made (λ n. DropThread n) number_at

abbrev pub edit_body : ℕ → List ℕ → Read Edit
edit_body tag = if tag == 1 then put_mailbox_at
    else (if tag == 2 then drop_mailbox_at
    else (if tag == 3 then put_email_at
    else (if tag == 4 then drop_email_at
    else (if tag == 5 then put_thread_at else drop_thread_at))))

abbrev pub edit_at : List ℕ → Read Edit
edit_at bytes = tag_at 6 bytes >>= λ tag. edit_body tag.0 tag.1

abbrev pub edits_at : List ℕ → Read (List Edit)
edits_at = listed_at (any_at edit_at) same tt

abbrev pub commit_from : ℕ × (ℕ × (ℕ × (List (List ℕ) × List Edit))) → Commit
commit_from p = record {
  blobs = p.1.1.1.0;
  edits = p.1.1.1.1;
  stamp = record { pass = p.1.0; serial = p.1.1.0 };
}

abbrev pub commit_at : List ℕ → Read Commit
commit_at =
    made commit_from (both (tag_at 1) (both number_at (both number_at (both blobs_at edits_at))))
