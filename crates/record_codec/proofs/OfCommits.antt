-- The encodings of dates, records, edits and commits, none of which begins another.
use Rattle.std.proofs.Common.{◌≡◌, ℕ, ◌^◌, ◌-◌, ◌<◌, ◌≤◌, Bool, List, [], ◌∷◌, ◌++◌, ap, arith}
use Rattle.std.specs.Prelude.{ℤ, pos, negsuc, ◌≤ℤ◌}
use Rattle.std.specs.List.{AllByRecursion}
use Rattle.std.proofs.Math.Facts.{leb_yes}
use Rattle.std.specs.Option.{ForSome}
use Rattle.jm_base.specs.UtcDates.{IsUtcDate}
use Rattle.jm_base.specs.declared.utc_dates.TheConstants.{FIRST_TIMESTAMP, LAST_TIMESTAMP}
use Rattle.mail_records.specs.declared.records.Summary.{Summary}
use Rattle.mail_records.specs.declared.records.Email.{Email}
use Rattle.mail_records.specs.declared.edits.Edit.{Edit}
use Rattle.mail_records.specs.declared.edits.Edit.TheVariants.{PutMailbox, DropMailbox, PutEmail, DropEmail, PutThread, DropThread}
use Rattle.mail_records.specs.declared.edits.Commit.{Commit}
use Rattle.mail_records.specs.Commits.{IsFormedEmail, IsFormedEdit, IsFormed}
use Rattle.record_codec.specs.Encoding.{number, blob, listed, truth, optional, since_year_one, date, summary, mailbox, email, thread, edit, encoding}
use Rattle.record_codec.specs.Widths.{FitsIn64Bits, LengthFitsIn64Bits, AreAll, IsWideSummary, IsWideMailbox, IsWideEmail, IsWideThread, IsWideEdit, IsWide}
use Rattle.record_codec.specs.declared.write_fields.TheConstants.{SECONDS_BEFORE_1970}
use Rattle.record_codec.proofs.OneForm.{OneForm, first, number_one, blob_one, truth_one, optional_one, listed_one}

moment_fits : (s : ℤ) → FIRST_TIMESTAMP ≤ℤ s → s ≤ℤ pos LAST_TIMESTAMP → since_year_one s < 2 ^ 64
moment_fits (pos n) low high =
    let below : n ≤ LAST_TIMESTAMP = leb_yes high.le in
    omega arith
moment_fits (negsuc n) low high = omega arith

moment_one : (s t : ℤ) → FIRST_TIMESTAMP ≤ℤ s → FIRST_TIMESTAMP ≤ℤ t → since_year_one s ≡ since_year_one t → s ≡ t
moment_one (pos m) (pos n) p q e = ap pos (omega (arith, e))
moment_one (pos m) (negsuc n) p q e = absurd (omega (arith, e))
moment_one (negsuc m) (pos n) p q e = absurd (omega (arith, e))
moment_one (negsuc m) (negsuc n) p q e =
    let low : m ≤ SECONDS_BEFORE_1970 - 1 = leb_yes p.le in
    let low' : n ≤ SECONDS_BEFORE_1970 - 1 = leb_yes q.le in
    ap negsuc (omega (arith, e))

pub date_one : OneForm IsUtcDate date
date_one a b x y p q e =
    let n = number_one (since_year_one a.seconds) (since_year_one b.seconds) x y (moment_fits a.seconds p.not_before p.not_after) (moment_fits b.seconds q.not_before q.not_after) e in
    let s : a.seconds ≡ b.seconds = moment_one a.seconds b.seconds p.not_before q.not_before n.0 in
    (λ i. record { seconds = s i }, n.1)

first_truth : (a b : Bool) (r s x y : List ℕ) → (truth a ++ r) ++ x ≡ (truth b ++ s) ++ y → (a ≡ b) × (r ++ x ≡ s ++ y)
first_truth a b r s x y e = first (λ _. Unit {0}) truth (λ c d u v p q f. truth_one c d u v f) a b r s x y tt tt e

abbrev IsGoodSummary : Summary → Type 0
IsGoodSummary s = IsWideSummary s × ForSome s.sent IsUtcDate

texts_one : OneForm (AreAll LengthFitsIn64Bits) (listed blob)
texts_one = listed_one LengthFitsIn64Bits blob blob_one

numbers_one : OneForm (AreAll FitsIn64Bits) (listed number)
numbers_one = listed_one FitsIn64Bits number number_one

pub summary_one : OneForm IsGoodSummary summary
summary_one a b x y p q e =
    let f1 = first (AreAll LengthFitsIn64Bits) (listed blob) texts_one a.links b.links _ _ x y p.0.links q.0.links e in
    let f2 = first LengthFitsIn64Bits blob blob_one a.subject b.subject _ _ x y p.0.subject q.0.subject f1.1 in
    let f3 = first LengthFitsIn64Bits blob blob_one a.from b.from _ _ x y p.0.from q.0.from f2.1 in
    let f4 = first LengthFitsIn64Bits blob blob_one a.to b.to _ _ x y p.0.to q.0.to f3.1 in
    let f5 = first (λ o. ForSome o IsUtcDate) (optional date) (optional_one IsUtcDate date date_one) a.sent b.sent _ _ x y p.1 q.1 f4.1 in
    let f6 = truth_one a.attachment b.attachment x y f5.1 in
    (λ i. record { links = f1.0 i; subject = f2.0 i; from = f3.0 i; to = f4.0 i; sent = f5.0 i; attachment = f6.0 i }, f6.1)

pub mailbox_one : OneForm IsWideMailbox mailbox
mailbox_one a b x y p q e =
    let f1 = first FitsIn64Bits number number_one a.number b.number _ _ x y p.number q.number e in
    let f2 = first LengthFitsIn64Bits blob blob_one a.name b.name _ _ x y p.name q.name f1.1 in
    let f3 = first (λ o. ForSome o FitsIn64Bits) (optional number) (optional_one FitsIn64Bits number number_one) a.parent b.parent _ _ x y p.parent q.parent f2.1 in
    let f4 = first (λ o. ForSome o LengthFitsIn64Bits) (optional blob) (optional_one LengthFitsIn64Bits blob blob_one) a.role b.role _ _ x y p.role q.role f3.1 in
    let f5 = first FitsIn64Bits number number_one a.sort_order b.sort_order _ _ x y p.sort_order q.sort_order f4.1 in
    let f6 = first_truth a.subscribed b.subscribed _ _ x y f5.1 in
    let f7 = first FitsIn64Bits number number_one a.total_emails b.total_emails _ _ x y p.total_emails q.total_emails f6.1 in
    let f8 = first FitsIn64Bits number number_one a.unread_emails b.unread_emails _ _ x y p.unread_emails q.unread_emails f7.1 in
    let f9 = first FitsIn64Bits number number_one a.total_threads b.total_threads _ _ x y p.total_threads q.total_threads f8.1 in
    let f10 = number_one a.unread_threads b.unread_threads x y p.unread_threads q.unread_threads f9.1 in
    (λ i. record { number = f1.0 i; name = f2.0 i; parent = f3.0 i; role = f4.0 i; sort_order = f5.0 i; subscribed = f6.0 i; total_emails = f7.0 i; unread_emails = f8.0 i; total_threads = f9.0 i; unread_threads = f10.0 i }, f10.1)

abbrev IsGoodEmail : Email → Type 0
IsGoodEmail e = IsWideEmail e × IsFormedEmail e

pub email_one : OneForm IsGoodEmail email
email_one a b x y p q e =
    let f1 = first FitsIn64Bits number number_one a.number b.number _ _ x y p.0.number q.0.number e in
    let f2 = first FitsIn64Bits number number_one a.thread b.thread _ _ x y p.0.thread q.0.thread f1.1 in
    let f3 = first FitsIn64Bits number number_one a.blob b.blob _ _ x y p.0.blob q.0.blob f2.1 in
    let f4 = first (AreAll FitsIn64Bits) (listed number) numbers_one a.mailboxes b.mailboxes _ _ x y p.0.mailboxes q.0.mailboxes f3.1 in
    let f5 = first (AreAll LengthFitsIn64Bits) (listed blob) texts_one a.keywords b.keywords _ _ x y p.0.keywords q.0.keywords f4.1 in
    let f6 = first FitsIn64Bits number number_one a.size b.size _ _ x y p.0.size q.0.size f5.1 in
    let f7 = first IsUtcDate date date_one a.received b.received _ _ x y p.1.received q.1.received f6.1 in
    let f8 = summary_one a.summary b.summary x y (p.0.summary, p.1.sent) (q.0.summary, q.1.sent) f7.1 in
    (λ i. record { number = f1.0 i; thread = f2.0 i; blob = f3.0 i; mailboxes = f4.0 i; keywords = f5.0 i; size = f6.0 i; received = f7.0 i; summary = f8.0 i }, f8.1)

pub thread_one : OneForm IsWideThread thread
thread_one a b x y p q e =
    let f1 = first FitsIn64Bits number number_one a.number b.number _ _ x y p.0 q.0 e in
    let f2 = numbers_one a.emails b.emails x y p.1 q.1 f1.1 in
    (λ i. record { number = f1.0 i; emails = f2.0 i }, f2.1)

-- what follows equal first bytes
behind : (a b : ℕ) (x y : List ℕ) → a ∷ x ≡ b ∷ y → x ≡ y
behind a b x y e = cc

abbrev IsGoodEdit : Edit → Type 0
IsGoodEdit e = IsWideEdit e × IsFormedEdit e

pub edit_one : OneForm IsGoodEdit edit
edit_one (PutMailbox i was counts) (PutMailbox j was' counts') x y p q e =
    let f1 = first IsWideMailbox mailbox mailbox_one i j _ _ x y p.0 q.0 (behind _ _ _ _ e) in
    let f2 = first_truth was was' _ _ x y f1.1 in
    let f3 = truth_one counts counts' x y f2.1 in
    (λ k. PutMailbox (f1.0 k) (f2.0 k) (f3.0 k), f3.1)
edit_one (DropMailbox m) (DropMailbox n) x y p q e =
    let f1 = number_one m n x y p.0 q.0 (behind _ _ _ _ e) in
    (ap DropMailbox f1.0, f1.1)
edit_one (PutEmail i was) (PutEmail j was') x y p q e =
    let f1 = first IsGoodEmail email email_one i j _ _ x y p q (behind _ _ _ _ e) in
    let f2 = truth_one was was' x y f1.1 in
    (λ k. PutEmail (f1.0 k) (f2.0 k), f2.1)
edit_one (DropEmail m t) (DropEmail n u) x y p q e =
    let f1 = first FitsIn64Bits number number_one m n _ _ x y p.0.0 q.0.0 (behind _ _ _ _ e) in
    let f2 = number_one t u x y p.0.1 q.0.1 f1.1 in
    (λ k. DropEmail (f1.0 k) (f2.0 k), f2.1)
edit_one (PutThread i was) (PutThread j was') x y p q e =
    let f1 = first IsWideThread thread thread_one i j _ _ x y p.0 q.0 (behind _ _ _ _ e) in
    let f2 = truth_one was was' x y f1.1 in
    (λ k. PutThread (f1.0 k) (f2.0 k), f2.1)
edit_one (DropThread m) (DropThread n) x y p q e =
    let f1 = number_one m n x y p.0 q.0 (behind _ _ _ _ e) in
    (ap DropThread f1.0, f1.1)
edit_one _ _ x y p q e = absurd cc

both_all : {A : Type 0} (P Q : A → Type 0) (xs : List A) → AllByRecursion P xs → AllByRecursion Q xs → AllByRecursion (λ x. P x × Q x) xs
both_all P Q [] p q = tt
both_all P Q (x ∷ xs) p q = ((p.0, q.0), both_all P Q xs p.1 q.1)

abbrev IsGood : Commit → Type 0
IsGood c = IsWide c × IsFormed c

pub commit_one : OneForm IsGood encoding
commit_one a b x y p q e =
    let f1 = first FitsIn64Bits number number_one a.stamp.pass b.stamp.pass _ _ x y p.0.pass q.0.pass (behind _ _ _ _ e) in
    let f2 = first FitsIn64Bits number number_one a.stamp.serial b.stamp.serial _ _ x y p.0.serial q.0.serial f1.1 in
    let f3 = first (AreAll LengthFitsIn64Bits) (listed blob) texts_one a.blobs b.blobs _ _ x y p.0.blobs q.0.blobs f2.1 in
    let pa = both_all IsWideEdit IsFormedEdit a.edits p.0.edits.1 p.1 in
    let pb = both_all IsWideEdit IsFormedEdit b.edits q.0.edits.1 q.1 in
    let f4 = listed_one IsGoodEdit edit edit_one a.edits b.edits x y (p.0.edits.0, pa) (q.0.edits.0, pb) f3.1 in
    (λ i. record { blobs = f3.0 i; edits = f4.0 i; stamp = record { pass = f1.0 i; serial = f2.0 i } }, f4.1)
