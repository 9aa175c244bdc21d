-- How many bytes the encodings of fields, records and edits take.
use Rattle.std.proofs.Common.{◌≡◌, ℕ, ◌+◌, ◌*◌, ◌≤◌, Bool, true, false, List, [], ◌∷◌, ◌++◌, length, take, flat_map, Some, refl, sym, ap, ◌∙◌, arith, length-append}
use Rattle.std.proofs.lemmas.List.{take_all}
use Rattle.std.proofs.lemmas.List.Concat.{flat_map-append}
use Rattle.mail_records.specs.declared.records.Summary.{Summary}
use Rattle.mail_records.specs.declared.records.Mailbox.{Mailbox}
use Rattle.mail_records.specs.declared.records.Email.{Email}
use Rattle.mail_records.specs.declared.records.Thread.{Thread}
use Rattle.mail_records.specs.declared.edits.Edit.{Edit}
use Rattle.mail_records.specs.declared.edits.Edit.TheVariants.{PutMailbox, DropMailbox, PutEmail, DropEmail, PutThread, DropThread}
use Rattle.mail_records.specs.declared.edits.Commit.{Commit}
use Rattle.record_codec.specs.Sizes.{capped, edit_bytes}
use Rattle.record_codec.specs.Encoding.{number, blob, listed, truth, optional, since_year_one, date, summary, subscribed_and_counts, mailbox, message, email, thread, edit, encoding}

-- ---- fields

pub number_size : (n : ℕ) → length (number n) ≡ 8
unfolding number
number_size n = refl

pub blob_size : (bytes : List ℕ) → length (blob bytes) ≡ 8 + length bytes
blob_size bytes = length-append (number (length bytes)) bytes ∙ ap (λ n. n + length bytes) (number_size (length bytes))

pub truth_size : (b : Bool) → length (truth b) ≡ 1
truth_size true = refl
truth_size false = refl

pub listed_size : {A : Type 0} (item : A → List ℕ) (xs : List A) → length (listed item xs) ≡ 8 + length (flat_map item xs)
listed_size item xs = length-append (number (length xs)) (flat_map item xs) ∙ ap (λ n. n + length (flat_map item xs)) (number_size (length xs))

pub optional_size : {A : Type 0} (value : A → List ℕ) (x : A) → length (optional value (Some x)) ≡ 1 + length (value x)
optional_size value x = omega arith

-- all items
pub listed_done : {A : Type 0} (item : A → List ℕ) (xs : List A) (i sum t : ℕ) → length xs ≤ i → t ≡ capped (sum + (8 + length (flat_map item (take i xs)))) → t ≡ capped (sum + length (listed item xs))
listed_done {A} item xs i sum t le h =
    h ∙ ap (λ (ys : List A). capped (sum + (8 + length (flat_map item ys)))) (take_all i xs le) ∙ ap (λ n. capped (sum + n)) (sym (listed_size item xs))

numbers_in : (xs : List ℕ) → length (flat_map number xs) ≡ 8 * length xs
numbers_in [] = refl
numbers_in (x ∷ xs) = let a = length-append (number x) (flat_map number xs) in omega (arith, a, number_size x, numbers_in xs)

pub numbers_size : (xs : List ℕ) → length (listed number xs) ≡ 8 + 8 * length xs
numbers_size xs = omega (arith, listed_size number xs, numbers_in xs)

-- ---- records

subscribed_and_counts_size : (m : Mailbox) → length (subscribed_and_counts m) ≡ 33
subscribed_and_counts_size m =
    let a = length-append (truth m.subscribed) (number m.total_emails ++ (number m.unread_emails ++ (number m.total_threads ++ number m.unread_threads))) in
    let b = length-append (number m.total_emails) (number m.unread_emails ++ (number m.total_threads ++ number m.unread_threads)) in
    let c = length-append (number m.unread_emails) (number m.total_threads ++ number m.unread_threads) in
    let d = length-append (number m.total_threads) (number m.unread_threads) in
    omega (arith, a, b, c, d, truth_size m.subscribed, number_size m.total_emails, number_size m.unread_emails, number_size m.total_threads, number_size m.unread_threads)

pub mailbox_size : (m : Mailbox) → ((length (blob m.name) + length (optional number m.parent)) + length (optional blob m.role)) + 49 ≡ length (mailbox m)
mailbox_size m =
    let a = length-append (number m.number) (blob m.name ++ (optional number m.parent ++ (optional blob m.role ++ (number m.sort_order ++ subscribed_and_counts m)))) in
    let b = length-append (blob m.name) (optional number m.parent ++ (optional blob m.role ++ (number m.sort_order ++ subscribed_and_counts m))) in
    let c = length-append (optional number m.parent) (optional blob m.role ++ (number m.sort_order ++ subscribed_and_counts m)) in
    let d = length-append (optional blob m.role) (number m.sort_order ++ subscribed_and_counts m) in
    let e = length-append (number m.sort_order) (subscribed_and_counts m) in
    omega (arith, a, b, c, d, e, number_size m.number, number_size m.sort_order, subscribed_and_counts_size m)

pub summary_size : (s : Summary) → ((((length (listed blob s.links) + length (blob s.subject)) + length (blob s.from)) + length (blob s.to)) + length (optional date s.sent)) + 1 ≡ length (summary s)
summary_size s =
    let a = length-append (listed blob s.links) (blob s.subject ++ (blob s.from ++ (blob s.to ++ (optional date s.sent ++ truth s.attachment)))) in
    let b = length-append (blob s.subject) (blob s.from ++ (blob s.to ++ (optional date s.sent ++ truth s.attachment))) in
    let c = length-append (blob s.from) (blob s.to ++ (optional date s.sent ++ truth s.attachment)) in
    let d = length-append (blob s.to) (optional date s.sent ++ truth s.attachment) in
    let e = length-append (optional date s.sent) (truth s.attachment) in
    omega (arith, a, b, c, d, e, truth_size s.attachment)

pub email_size : (e : Email) → ((length (listed number e.mailboxes) + length (listed blob e.keywords)) + length (summary e.summary)) + 40 ≡ length (email e)
email_size e =
    let a = length-append (number e.number) (number e.thread ++ (number e.blob ++ (listed number e.mailboxes ++ (listed blob e.keywords ++ message e)))) in
    let b = length-append (number e.thread) (number e.blob ++ (listed number e.mailboxes ++ (listed blob e.keywords ++ message e))) in
    let c = length-append (number e.blob) (listed number e.mailboxes ++ (listed blob e.keywords ++ message e)) in
    let d = length-append (listed number e.mailboxes) (listed blob e.keywords ++ message e) in
    let f = length-append (listed blob e.keywords) (message e) in
    let g = length-append (number e.size) (date e.received ++ summary e.summary) in
    let h = length-append (date e.received) (summary e.summary) in
    omega (arith, a, b, c, d, f, g, h, number_size e.number, number_size e.thread, number_size e.blob, number_size e.size, number_size (since_year_one e.received.seconds))

pub thread_size : (t : Thread) → length (listed number t.emails) + 8 ≡ length (thread t)
thread_size t = let a = length-append (number t.number) (listed number t.emails) in omega (arith, a, number_size t.number)

-- ---- edits

pub put_mailbox_size : (m : Mailbox) (was counts : Bool) → length (mailbox m) + 3 ≡ length (edit (PutMailbox m was counts))
put_mailbox_size m was counts =
    let a = length-append (mailbox m) (truth was ++ truth counts) in
    let b = length-append (truth was) (truth counts) in
    omega (arith, a, b, truth_size was, truth_size counts)

pub put_email_size : (e : Email) (was : Bool) → length (email e) + 2 ≡ length (edit (PutEmail e was))
put_email_size e was = let a = length-append (email e) (truth was) in omega (arith, a, truth_size was)

pub put_thread_size : (t : Thread) (was : Bool) → length (thread t) + 2 ≡ length (edit (PutThread t was))
put_thread_size t was = let a = length-append (thread t) (truth was) in omega (arith, a, truth_size was)

pub drop_mailbox_size : (n : ℕ) → 9 ≡ length (edit (DropMailbox n))
drop_mailbox_size n = omega (arith, number_size n)

pub drop_email_size : (n t : ℕ) → 17 ≡ length (edit (DropEmail n t))
drop_email_size n t = let a = length-append (number n) (number t) in omega (arith, a, number_size n, number_size t)

pub drop_thread_size : (n : ℕ) → 9 ≡ length (edit (DropThread n))
drop_thread_size n = omega (arith, number_size n)

edit_least : (e : Edit) → 9 ≤ length (edit e)
edit_least (PutMailbox m was counts) = omega (arith, put_mailbox_size m was counts, mailbox_size m)
edit_least (DropMailbox n) = omega (arith, drop_mailbox_size n)
edit_least (PutEmail e was) = omega (arith, put_email_size e was, email_size e)
edit_least (DropEmail n t) = omega (arith, drop_email_size n t)
edit_least (PutThread t was) = omega (arith, put_thread_size t was, thread_size t)
edit_least (DropThread n) = omega (arith, drop_thread_size n)

-- ---- lists of edits

pub edit_bytes-append : (es more : List Edit) → edit_bytes (es ++ more) ≡ edit_bytes es + edit_bytes more
edit_bytes-append es more = ap length (flat_map-append edit es more) ∙ length-append (flat_map edit es) (flat_map edit more)

pub edit_bytes-least : (es : List Edit) → 9 * length es ≤ edit_bytes es
edit_bytes-least [] = omega arith
edit_bytes-least (e ∷ es) = let a = length-append (edit e) (flat_map edit es) in omega (arith, a, edit_least e, edit_bytes-least es)

pub edit_bytes-part : (c : Commit) → length (encoding c) ≡ 25 + length (listed blob c.blobs) + edit_bytes c.edits
edit_bytes-part c =
    let a = length-append (number c.stamp.pass) (number c.stamp.serial ++ (listed blob c.blobs ++ listed edit c.edits)) in
    let b = length-append (number c.stamp.serial) (listed blob c.blobs ++ listed edit c.edits) in
    let d = length-append (listed blob c.blobs) (listed edit c.edits) in
    omega (arith, a, b, d, number_size c.stamp.pass, number_size c.stamp.serial, listed_size edit c.edits)
