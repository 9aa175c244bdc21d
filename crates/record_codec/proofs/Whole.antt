-- Records, edits and commits: they are read exactly.
use Rattle.std.proofs.Common.{◌≡◌, ℕ, suc, ◌-◌, ◌^◌, ◌<◌, ◌≤◌, Bool, List, [], ◌∷◌, ◌++◌, length, get_or, take, Option, Ok, Err, refl, sym, ap, subst, ◌∙◌, inl, inr, append_assoc, length-append, arith, lit<, lit≤}
use Rattle.std.specs.List.{AllByRecursion}
use Rattle.std.specs.Option.{ForSome}
use Rattle.std.specs.Str.{IsUtf8}
use Rattle.std.proofs.lemmas.Bool.{cases_eq}
use Rattle.std.proofs.lemmas.List.{append-nil, take_at}
use Rattle.jm_base.specs.UtcDates.{IsUtcDate}
use Rattle.mail_records.specs.declared.records.Summary.{Summary}
use Rattle.mail_records.specs.declared.records.Mailbox.{Mailbox}
use Rattle.mail_records.specs.declared.records.Email.{Email}
use Rattle.mail_records.specs.declared.records.Thread.{Thread}
use Rattle.mail_records.specs.declared.edits.Edit.{Edit}
use Rattle.mail_records.specs.declared.edits.Edit.TheVariants.{PutMailbox, DropMailbox, PutEmail, DropEmail, PutThread, DropThread}
use Rattle.mail_records.specs.declared.edits.Commit.{Commit}
use Rattle.mail_records.specs.Commits.{TextsRise, IsFormedEmail, IsFormedEdit}
use Rattle.record_codec.specs.Encoding.{number, blob, listed, truth, optional, date, summary, mailbox, email, thread, edit, encoding}
use Rattle.record_codec.specs.Widths.{FitsIn64Bits, LengthFitsIn64Bits, AreAll, IsWideSummary, IsWideMailbox, IsWideEmail, IsWideThread, IsWideEdit}
use Rattle.record_codec.specs.Offsets.{AreBytes, HasTextsInSummary, HasTextsInMailbox, HasTextsInEdit, HasEncoding, IsEncodingOf, IsFaultOffset}
use Rattle.record_codec.specs.Reading.{Read, then, both, made}
use Rattle.record_codec.specs.Readers.{number_at, optional_at, tag_at, date_at, blob_at, text_at, numbers_at, blobs_at, summary_from, summary_at, mailbox_from, mailbox_at, email_from, email_at, thread_from, thread_at, put_mailbox_at, put_email_at, put_thread_at, drop_mailbox_at, drop_email_at, drop_thread_at, edit_body, edit_at, edits_at, commit_from, commit_at}
use Rattle.record_codec.proofs.Exact.{IsInput, Encoded, Field, then_one, then_exact, made_one, made_exact, both_field, made_field}
use Rattle.record_codec.proofs.Items.{exact_same, second_of, list_field}
use Rattle.record_codec.proofs.Between.{number_exact}
use Rattle.record_codec.proofs.Rising.{IsText, rising_numbers_field, rising_texts_field, text_field}
use Rattle.record_codec.proofs.Wide.{all_bytes}
use Rattle.record_codec.proofs.Flags.{number_field, IsBlob, blob_field, IsTruth, truth_field, optional_field, date_field, IsTag, tag, tag_field}

abbrev Has : {A : Type 0} → (A → Type 0) → Option A → Type 0
Has P o = ForSome o P

number_option : Field (Has FitsIn64Bits) (optional number) (optional_at number_at)
number_option = optional_field FitsIn64Bits number number_at number_field

text_option : Field (Has IsText) (optional blob) (optional_at text_at)
text_option = optional_field IsText blob text_at text_field

date_option : Field (Has IsUtcDate) (optional date) (optional_at date_at)
date_option = optional_field IsUtcDate date date_at date_field

numbers_field : Field (AreAll FitsIn64Bits) (listed number) numbers_at
numbers_field = list_field FitsIn64Bits number number_at number_exact number_field

blobs_field : Field (AreAll IsBlob) (listed blob) blobs_at
blobs_field = list_field IsBlob blob blob_at number_exact blob_field

-- two fields in a row, which the types tell
pair : {A B : Type 0} {P : A → Type 0} {encode : A → List ℕ} {read : List ℕ → Read A} {Q : B → Type 0} {encode' : B → List ℕ} {read' : List ℕ → Read B}
    → Field P encode read → Field Q encode' read' → Field (λ (p : A × B). P p.0 × Q p.1) (λ p. encode p.0 ++ encode' p.1) (both read read')
pair {A} {B} {P} {encode} {read} {Q} {encode'} {read'} f g = both_field P encode read Q encode' read' f g

make : {A B : Type 0} {P : A → Type 0} {encode : A → List ℕ} {read : List ℕ → Read A} (Q : B → Type 0) (encode' : B → List ℕ) (making : A → B)
    → ((a : A) → P a → Q (making a) × (encode' (making a) ≡ encode a)) → ((b : B) → Q b → (a : A) × P a × (making a ≡ b)) → Field P encode read → Field Q encode' (made making read)
make {A} {B} {P} {encode} {read} Q encode' making to from f = made_field P encode read Q encode' making to from f

-- ---- summaries
pub record SummaryFits (s : Summary) : Type 0 where
  pub wide : IsWideSummary s
  pub links : TextsRise s.links
  pub sent : ForSome s.sent IsUtcDate
  pub texts : HasTextsInSummary s

summary_field : Field SummaryFits summary summary_at
summary_field = make SummaryFits summary summary_from
    (λ p h. (
      record {
        wide = record { links = h.0.0.0; subject = h.1.0.0; from = h.1.1.0.0; to = h.1.1.1.0.0 };
        links = h.0.1;
        sent = h.1.1.1.1.0;
        texts = (h.0.0.1, h.1.0.1, h.1.1.0.1, h.1.1.1.0.1);
      },
      refl,
    ))
    (λ s h. (
      (s.links, (s.subject, (s.from, (s.to, (s.sent, s.attachment))))),
      (((h.wide.links, h.texts.0), h.links), ((h.wide.subject, h.texts.1), ((h.wide.from, h.texts.2), ((h.wide.to, h.texts.3), (h.sent, tt))))),
      refl,
    ))
    (pair rising_texts_field (pair text_field (pair text_field (pair text_field (pair date_option truth_field)))))

-- ---- mailboxes
pub record MailboxFits (m : Mailbox) : Type 0 where
  pub wide : IsWideMailbox m
  pub texts : HasTextsInMailbox m

has_length : (o : Option (List ℕ)) → ForSome o IsText → ForSome o LengthFitsIn64Bits
has_length o h x e = (h x e).0

has_text : (o : Option (List ℕ)) → ForSome o IsText → ForSome o IsUtf8
has_text o h x e = (h x e).1

has_both : (o : Option (List ℕ)) → ForSome o LengthFitsIn64Bits → ForSome o IsUtf8 → ForSome o IsText
has_both o h k x e = (h x e, k x e)

mailbox_field : Field MailboxFits mailbox mailbox_at
mailbox_field = make MailboxFits mailbox mailbox_from
    (λ p h. (
      record {
        wide = record {
          number = h.0;
          name = h.1.0.0;
          parent = h.1.1.0;
          role = has_length p.1.1.1.0 h.1.1.1.0;
          sort_order = h.1.1.1.1.0;
          total_emails = h.1.1.1.1.1.1.0;
          unread_emails = h.1.1.1.1.1.1.1.0;
          total_threads = h.1.1.1.1.1.1.1.1.0;
          unread_threads = h.1.1.1.1.1.1.1.1.1;
        };
        texts = (h.1.0.1, has_text p.1.1.1.0 h.1.1.1.0);
      },
      refl,
    ))
    (λ m h. (
      (m.number, (m.name, (m.parent, (m.role, (m.sort_order, (m.subscribed, (m.total_emails, (m.unread_emails, (m.total_threads, m.unread_threads))))))))),
      (h.wide.number, ((h.wide.name, h.texts.0), (h.wide.parent, (has_both m.role h.wide.role h.texts.1, (h.wide.sort_order, (tt, (h.wide.total_emails, (h.wide.unread_emails, (h.wide.total_threads, h.wide.unread_threads))))))))),
      refl,
    ))
    (pair number_field (pair text_field (pair number_option (pair text_option (pair number_field (pair truth_field (pair number_field (pair number_field (pair number_field number_field)))))))))

-- ---- emails
pub record EmailFits (e : Email) : Type 0 where
  pub wide : IsWideEmail e
  pub formed : IsFormedEmail e
  pub keywords : AllByRecursion IsUtf8 e.keywords
  pub texts : HasTextsInSummary e.summary

email_field : Field EmailFits email email_at
email_field = make EmailFits email email_from
    (λ p h. (
      record {
        wide = record { number = h.0; thread = h.1.0; blob = h.1.1.0; mailboxes = h.1.1.1.0.0; keywords = h.1.1.1.1.0.0.0; size = h.1.1.1.1.1.0; summary = h.1.1.1.1.1.1.1.wide };
        formed = record { mailboxes = h.1.1.1.0.1; keywords = h.1.1.1.1.0.1; links = h.1.1.1.1.1.1.1.links; received = h.1.1.1.1.1.1.0; sent = h.1.1.1.1.1.1.1.sent };
        keywords = h.1.1.1.1.0.0.1;
        texts = h.1.1.1.1.1.1.1.texts;
      },
      refl,
    ))
    (λ e h. (
      (e.number, (e.thread, (e.blob, (e.mailboxes, (e.keywords, (e.size, (e.received, e.summary))))))),
      (
        h.wide.number,
        (
          h.wide.thread,
          (
            h.wide.blob,
            (
              (h.wide.mailboxes, h.formed.mailboxes),
              (
                ((h.wide.keywords, h.keywords), h.formed.keywords),
                (
                  h.wide.size,
                  (
                    h.formed.received,
                    record { wide = h.wide.summary; links = h.formed.links; sent = h.formed.sent; texts = h.texts },
                  ),
                ),
              ),
            ),
          ),
        ),
      ),
      refl,
    ))
    (pair number_field (pair number_field (pair number_field (pair rising_numbers_field (pair rising_texts_field (pair number_field (pair date_field summary_field)))))))

-- ---- threads
thread_field : Field IsWideThread thread thread_at
thread_field = make IsWideThread thread thread_from (λ p h. (h, refl)) (λ t h. ((t.number, t.emails), h, refl)) (pair number_field numbers_field)

-- ---- edits
abbrev pub EditFits : Edit → Type 0
EditFits (PutMailbox item was counts) = MailboxFits item
EditFits (DropMailbox n) = FitsIn64Bits n
EditFits (PutEmail item was) = EmailFits item
EditFits (DropEmail n t) = FitsIn64Bits n × FitsIn64Bits t
EditFits (PutThread item was) = IsWideThread item
EditFits (DropThread n) = FitsIn64Bits n

abbrev read_tag : Edit → ℕ
read_tag (PutMailbox item was counts) = 1
read_tag (DropMailbox n) = 2
read_tag (PutEmail item was) = 3
read_tag (DropEmail n t) = 4
read_tag (PutThread item was) = 5
read_tag (DropThread n) = 6

abbrev body : Edit → List ℕ
body (PutMailbox item was counts) = mailbox item ++ (truth was ++ truth counts)
body (DropMailbox n) = number n
body (PutEmail item was) = email item ++ truth was
body (DropEmail n t) = number n ++ number t
body (PutThread item was) = thread item ++ truth was
body (DropThread n) = number n

abbrev Tagged : ℕ → Edit → Type 0
Tagged t e = (read_tag e ≡ t) × EditFits e

put_mailbox_field : Field (Tagged 1) body put_mailbox_at
put_mailbox_field = make (Tagged 1) body (λ p. PutMailbox p.0 p.1.0 p.1.1) (λ p h. ((refl, h.0), refl)) from (pair mailbox_field (pair truth_field truth_field))
  where
    from : (e : Edit) → Tagged 1 e → (p : Mailbox × (Bool × Bool)) × (MailboxFits p.0 × (IsTruth p.1.0 × IsTruth p.1.1)) × (PutMailbox p.0 p.1.0 p.1.1 ≡ e)
    from (PutMailbox item was counts) h = ((item, (was, counts)), (h.1, (tt, tt)), refl)
    from (DropMailbox n) h = absurd (omega (arith, h.0))
    from (PutEmail item was) h = absurd (omega (arith, h.0))
    from (DropEmail n t) h = absurd (omega (arith, h.0))
    from (PutThread item was) h = absurd (omega (arith, h.0))
    from (DropThread n) h = absurd (omega (arith, h.0))

drop_mailbox_field : Field (Tagged 2) body drop_mailbox_at
drop_mailbox_field = make (Tagged 2) body (λ n. DropMailbox n) (λ n h. ((refl, h), refl)) from number_field
  where
    from : (e : Edit) → Tagged 2 e → (n : ℕ) × FitsIn64Bits n × (DropMailbox n ≡ e)
    from (PutMailbox item was counts) h = absurd (omega (arith, h.0))
    from (DropMailbox n) h = (n, h.1, refl)
    from (PutEmail item was) h = absurd (omega (arith, h.0))
    from (DropEmail n t) h = absurd (omega (arith, h.0))
    from (PutThread item was) h = absurd (omega (arith, h.0))
    from (DropThread n) h = absurd (omega (arith, h.0))

put_email_field : Field (Tagged 3) body put_email_at
put_email_field = make (Tagged 3) body (λ p. PutEmail p.0 p.1) (λ p h. ((refl, h.0), refl)) from (pair email_field truth_field)
  where
    from : (e : Edit) → Tagged 3 e → (p : Email × Bool) × (EmailFits p.0 × IsTruth p.1) × (PutEmail p.0 p.1 ≡ e)
    from (PutMailbox item was counts) h = absurd (omega (arith, h.0))
    from (DropMailbox n) h = absurd (omega (arith, h.0))
    from (PutEmail item was) h = ((item, was), (h.1, tt), refl)
    from (DropEmail n t) h = absurd (omega (arith, h.0))
    from (PutThread item was) h = absurd (omega (arith, h.0))
    from (DropThread n) h = absurd (omega (arith, h.0))

drop_email_field : Field (Tagged 4) body drop_email_at
drop_email_field = make (Tagged 4) body (λ p. DropEmail p.0 p.1) (λ p h. ((refl, h), refl)) from (pair number_field number_field)
  where
    from : (e : Edit) → Tagged 4 e → (p : ℕ × ℕ) × (FitsIn64Bits p.0 × FitsIn64Bits p.1) × (DropEmail p.0 p.1 ≡ e)
    from (PutMailbox item was counts) h = absurd (omega (arith, h.0))
    from (DropMailbox n) h = absurd (omega (arith, h.0))
    from (PutEmail item was) h = absurd (omega (arith, h.0))
    from (DropEmail n t) h = ((n, t), h.1, refl)
    from (PutThread item was) h = absurd (omega (arith, h.0))
    from (DropThread n) h = absurd (omega (arith, h.0))

put_thread_field : Field (Tagged 5) body put_thread_at
put_thread_field = make (Tagged 5) body (λ p. PutThread p.0 p.1) (λ p h. ((refl, h.0), refl)) from (pair thread_field truth_field)
  where
    from : (e : Edit) → Tagged 5 e → (p : Thread × Bool) × (IsWideThread p.0 × IsTruth p.1) × (PutThread p.0 p.1 ≡ e)
    from (PutMailbox item was counts) h = absurd (omega (arith, h.0))
    from (DropMailbox n) h = absurd (omega (arith, h.0))
    from (PutEmail item was) h = absurd (omega (arith, h.0))
    from (DropEmail n t) h = absurd (omega (arith, h.0))
    from (PutThread item was) h = ((item, was), (h.1, tt), refl)
    from (DropThread n) h = absurd (omega (arith, h.0))

drop_thread_field : Field (Tagged 6) body drop_thread_at
drop_thread_field = make (Tagged 6) body (λ n. DropThread n) (λ n h. ((refl, h), refl)) from number_field
  where
    from : (e : Edit) → Tagged 6 e → (n : ℕ) × FitsIn64Bits n × (DropThread n ≡ e)
    from (PutMailbox item was counts) h = absurd (omega (arith, h.0))
    from (DropMailbox n) h = absurd (omega (arith, h.0))
    from (PutEmail item was) h = absurd (omega (arith, h.0))
    from (DropEmail n t) h = absurd (omega (arith, h.0))
    from (PutThread item was) h = absurd (omega (arith, h.0))
    from (DropThread n) h = (n, h.1, refl)

abbrev Body : ℕ → Type 0
Body t = Field (Tagged t) body (edit_body t)

body_field : (t : ℕ) → IsTag 6 t → Body t
body_field t h = elim (cases_eq t 1) [
  | inl e ↦ subst Body (sym e) put_mailbox_field
  | inr a ↦ elim (cases_eq t 2) [
    | inl e ↦ subst Body (sym e) drop_mailbox_field
    | inr b ↦ elim (cases_eq t 3) [
      | inl e ↦ subst Body (sym e) put_email_field
      | inr c ↦ elim (cases_eq t 4) [
        | inl e ↦ subst Body (sym e) drop_email_field
        | inr d ↦ elim (cases_eq t 5) [
          | inl e ↦ subst Body (sym e) put_thread_field
          | inr f ↦ let six : t ≡ 6 = omega (arith, h.0, h.1, a, b, c, d, f) in subst Body (sym six) drop_thread_field
        ]
      ]
    ]
  ]
]

tag_fits : (e : Edit) → IsTag 6 (read_tag e)
tag_fits (PutMailbox item was counts) = (lit≤ tt, lit≤ tt)
tag_fits (DropMailbox n) = (lit≤ tt, lit≤ tt)
tag_fits (PutEmail item was) = (lit≤ tt, lit≤ tt)
tag_fits (DropEmail n t) = (lit≤ tt, lit≤ tt)
tag_fits (PutThread item was) = (lit≤ tt, lit≤ tt)
tag_fits (DropThread n) = (lit≤ tt, lit≤ tt)

edit_is : (e : Edit) → edit e ≡ read_tag e ∷ body e
edit_is (PutMailbox item was counts) = refl
edit_is (DropMailbox n) = refl
edit_is (PutEmail item was) = refl
edit_is (DropEmail n t) = refl
edit_is (PutThread item was) = refl
edit_is (DropThread n) = refl

edit_field : Field EditFits edit edit_at
edit_field =
    let tags = tag_field 6 (lit≤ tt) in
    let to : (p : ℕ × Edit) → IsTag 6 p.0 × Tagged p.0 p.1 → EditFits p.1 × (edit p.1 ≡ tag p.0 ++ body p.1) = λ p h. (h.1.1, edit_is p.1 ∙ ap (λ (t : ℕ). t ∷ body p.1) h.1.0) in
    let from : (e : Edit) → EditFits e → (p : ℕ × Edit) × (IsTag 6 p.0 × Tagged p.0 p.1) × (p.1 ≡ e) = λ e h. ((read_tag e, e), (tag_fits e, (refl, h)), refl) in
    let one = then_one (IsTag 6) tag (tag_at 6) Tagged (λ t. body) edit_body tags.one (λ t h. (body_field t h).one) in
    let pairs = then_exact (IsTag 6) tag (tag_at 6) Tagged (λ t. body) edit_body tags.one tags.exact (λ t h. (body_field t h).some) (λ t h short. (body_field t h).exact) in
    record {
      one = made_one (λ (p : ℕ × Edit). IsTag 6 p.0 × Tagged p.0 p.1) (λ p. tag p.0 ++ body p.1) (then (tag_at 6) edit_body) EditFits edit (λ p. p.1) to from one;
      some = (DropThread 0, lit< tt);
      exact = exact_same EditFits edit _ edit_at (λ xs. second_of (tag_at 6 xs) edit_body)
          (made_exact (λ (p : ℕ × Edit). IsTag 6 p.0 × Tagged p.0 p.1) (λ p. tag p.0 ++ body p.1) (then (tag_at 6) edit_body) EditFits edit (λ p. p.1) to from pairs);
    }

edits_field : Field (AreAll EditFits) (listed edit) edits_at
edits_field = list_field EditFits edit edit_at number_exact edit_field

-- ---- commits
pub record CommitFits (c : Commit) : Type 0 where
  pub pass : FitsIn64Bits c.stamp.pass
  pub serial : FitsIn64Bits c.stamp.serial
  pub blobs : AreAll IsBlob c.blobs
  pub edits : AreAll EditFits c.edits

pub commit_field : Field CommitFits encoding commit_at
commit_field = make CommitFits encoding commit_from
    (λ p h. let one : 1 ≡ p.0 = omega (arith, h.0.0, h.0.1) in
    (record { pass = h.1.0; serial = h.1.1.0; blobs = h.1.1.1.0; edits = h.1.1.1.1 }, ap (λ (t : ℕ). t ∷ (number p.1.0 ++ (number p.1.1.0 ++ (listed blob p.1.1.1.0 ++ listed edit p.1.1.1.1)))) one))
    (λ c h. ((1, (c.stamp.pass, (c.stamp.serial, (c.blobs, c.edits)))), ((lit≤ tt, lit≤ tt), (h.pass, (h.serial, (h.blobs, h.edits)))), refl))
    (pair (tag_field 1 (lit≤ tt)) (pair number_field (pair number_field (pair blobs_field edits_field))))

-- ---- what is said of a commit, in the words of the contract
both_all : {A : Type 0} (P Q : A → Type 0) (xs : List A) → AllByRecursion P xs → AllByRecursion Q xs → AllByRecursion (λ x. P x × Q x) xs
both_all P Q [] p q = tt
both_all P Q (x ∷ xs) p q = ((p.0, q.0), both_all P Q xs p.1 q.1)

all_map : {A : Type 0} (P Q : A → Type 0) (xs : List A) → ((a : A) → P a → Q a) → AllByRecursion P xs → AllByRecursion Q xs
all_map P Q [] f h = tt
all_map P Q (x ∷ xs) f h = (f x h.0, all_map P Q xs f h.1)

edit_wide : (e : Edit) → EditFits e → IsWideEdit e
edit_wide (PutMailbox item was counts) h = h.wide
edit_wide (DropMailbox n) h = h
edit_wide (PutEmail item was) h = h.wide
edit_wide (DropEmail n t) h = h
edit_wide (PutThread item was) h = h
edit_wide (DropThread n) h = h

edit_formed : (e : Edit) → EditFits e → IsFormedEdit e
edit_formed (PutMailbox item was counts) h = tt
edit_formed (DropMailbox n) h = tt
edit_formed (PutEmail item was) h = h.formed
edit_formed (DropEmail n t) h = tt
edit_formed (PutThread item was) h = tt
edit_formed (DropThread n) h = tt

edit_texts : (e : Edit) → EditFits e → HasTextsInEdit e
edit_texts (PutMailbox item was counts) h = h.texts
edit_texts (DropMailbox n) h = tt
edit_texts (PutEmail item was) h = (h.keywords, h.texts)
edit_texts (DropEmail n t) h = tt
edit_texts (PutThread item was) h = tt
edit_texts (DropThread n) h = tt

edit_fits : (e : Edit) → IsWideEdit e × (IsFormedEdit e × HasTextsInEdit e) → EditFits e
edit_fits (PutMailbox item was counts) h = record { wide = h.0; texts = h.1.1 }
edit_fits (DropMailbox n) h = h.0
edit_fits (PutEmail item was) h = record { wide = h.0; formed = h.1.0; keywords = h.1.1.0; texts = h.1.1.1 }
edit_fits (DropEmail n t) h = h.0
edit_fits (PutThread item was) h = h.0
edit_fits (DropThread n) h = h.0

has_encoding : (c : Commit) → CommitFits c → HasEncoding c
has_encoding c h = record {
  wide = record {
    pass = h.pass;
    serial = h.serial;
    blobs = (h.blobs.0, all_map IsBlob LengthFitsIn64Bits c.blobs (λ b k. k.0) h.blobs.1);
    edits = (h.edits.0, all_map EditFits IsWideEdit c.edits edit_wide h.edits.1);
  };
  formed = all_map EditFits IsFormedEdit c.edits edit_formed h.edits.1;
  texts = all_map EditFits HasTextsInEdit c.edits edit_texts h.edits.1;
  blobs = all_map IsBlob AreBytes c.blobs (λ b k. k.1) h.blobs.1;
}

commit_fits : (c : Commit) → HasEncoding c → CommitFits c
commit_fits c h = record {
  pass = h.wide.pass;
  serial = h.wide.serial;
  blobs = (h.wide.blobs.0, both_all LengthFitsIn64Bits AreBytes c.blobs h.wide.blobs.1 h.blobs);
  edits = (
    h.wide.edits.0,
    all_map (λ e. IsWideEdit e × (IsFormedEdit e × HasTextsInEdit e)) EditFits c.edits edit_fits
        (both_all IsWideEdit (λ e. IsFormedEdit e × HasTextsInEdit e) c.edits h.wide.edits.1 (both_all IsFormedEdit HasTextsInEdit c.edits h.formed h.texts)),
  );
}

abbrev Commits : List ℕ → Type 0
Commits = Encoded CommitFits encoding

encoded : (w : List ℕ) (c : Commit) → IsEncodingOf w c → Commits w
encoded w c s = (c, commit_fits c s.has, s.is)

-- ---- the place
place_of : (xs front back : List ℕ) → xs ≡ front ++ back → length xs - length back ≡ length front
place_of xs front back e = omega (arith, ap length e, length-append front back)

next_front : (xs front back : List ℕ) (b : ℕ) (more : List ℕ) → xs ≡ front ++ back → back ≡ b ∷ more → take (suc (length front)) xs ≡ front ++ b ∷ []
next_front xs front back b more e f =
    let whole : xs ≡ (front ++ b ∷ []) ++ more = e ∙ ap (λ (w : List ℕ). front ++ w) f ∙ sym (append_assoc front (b ∷ []) more) in
    let long : length (front ++ b ∷ []) ≡ suc (length front) = omega (arith, length-append front (b ∷ [])) in
    ap (take (suc (length front))) whole ∙ take_at (front ++ b ∷ []) more (suc (length front)) long

nothing_behind : (b : ℕ) (rest : List ℕ) → b ∷ rest ≡ [] → ⊥
nothing_behind b rest e = cc

behind_some : (xs front back : List ℕ) → xs ≡ front ++ back → length front < length xs → (b : ℕ) × (more : List ℕ) × (back ≡ b ∷ more)
behind_some xs front [] e h = absurd (omega (arith, h, ap length e, length-append front []))
behind_some xs front (b ∷ more) e h = (b, more, refl)

pub stuck_place : (xs : List ℕ) (left : ℕ) → IsInput xs → commit_at xs ≡ Err left → (left ≤ length xs) × IsFaultOffset xs (length xs - left)
stuck_place xs left h e =
    let s = commit_field.exact.fault xs h left e in
    let long : length xs - left ≡ length s.front = ap (λ (n : ℕ). length xs - n) (sym s.left_is) ∙ place_of xs s.front s.back s.parts in
    let front : take (length s.front) xs ≡ s.front = ap (take (length s.front)) s.parts ∙ take_at s.front s.back (length s.front) refl in
    let there : IsFaultOffset xs (length s.front) = record {
      within = omega (arith, ap length s.parts, length-append s.front s.back);
      begins = (s.begins.0, s.byte ∷ s.rest, record { has = has_encoding s.begins.0 s.begins.1; is = ap (λ (w : List ℕ). w ++ s.byte ∷ s.rest) front ∙ s.begins.2 });
      goes_no_further = λ inside begun.
          let b = behind_some xs s.front s.back s.parts inside in
          let same : take (suc (length s.front)) xs ++ begun.1 ≡ s.front ++ b.0 ∷ begun.1 = ap (λ (w : List ℕ). w ++ begun.1) (next_front xs s.front s.back b.0 b.1 s.parts b.2) ∙ append_assoc s.front (b.0 ∷ []) begun.1 in
          let c = encoded (take (suc (length s.front)) xs ++ begun.1) begun.0 begun.2 in
          s.ends b.0 b.1 begun.1 b.2 (subst Commits same c);
      is_none = λ c q. none xs s.front s.back s.byte s.rest s.parts s.begins (encoded xs c q) (λ b more f k. s.ends b more more f k);
    } in
    (omega (arith, s.left_is, ap length s.parts, length-append s.front s.back), subst (IsFaultOffset xs) (sym long) there)
  where
    none : (xs front back : List ℕ) (byte : ℕ) (rest : List ℕ) → xs ≡ front ++ back → Commits (front ++ byte ∷ rest) → Commits xs → ((b : ℕ) (more : List ℕ) → back ≡ b ∷ more → ¬ Commits (front ++ b ∷ more)) → ⊥
    none xs front [] byte rest e begun c never =
        let same : encoding c.0 ++ (byte ∷ rest) ≡ encoding begun.0 ++ [] = ap (λ (w : List ℕ). w ++ byte ∷ rest) (sym c.2 ∙ e ∙ append-nil front) ∙ begun.2 ∙ sym (append-nil (encoding begun.0)) in
        nothing_behind byte rest (commit_field.one c.0 begun.0 (byte ∷ rest) [] c.1 begun.1 same).1
    none xs front (b ∷ more) byte rest e begun c never = never b more refl (subst Commits e c)

pub whole_read : (xs : List ℕ) (c : Commit) (rest : List ℕ) → IsInput xs → commit_at xs ≡ Ok (c, rest) → length rest ≡ 0 → IsEncodingOf xs c
whole_read xs c [] h e n = let f = commit_field.exact.found xs h c [] e in record { has = has_encoding c f.0; is = f.1 ∙ append-nil (encoding c) }
whole_read xs c (b ∷ rest) h e n = absurd (omega (arith, n))

pub over_place : (xs : List ℕ) (c : Commit) (rest : List ℕ) → IsInput xs → commit_at xs ≡ Ok (c, rest) → ¬ (length rest ≡ 0) → (length rest ≤ length xs) × IsFaultOffset xs (length xs - length rest)
over_place xs c rest h e n =
    let f = commit_field.exact.found xs h c rest e in
    let s = encoding c in
    let long : length xs - length rest ≡ length s = place_of xs s rest f.1 in
    let front : take (length s) xs ≡ s = ap (take (length s)) f.1 ∙ take_at s rest (length s) refl in
    let further : (b : ℕ) (more ys : List ℕ) → rest ≡ b ∷ more → ¬ Commits (s ++ b ∷ ys) = λ b more ys g k.
    let same : s ++ b ∷ ys ≡ encoding k.0 ++ [] = k.2 ∙ sym (append-nil (encoding k.0)) in
    nothing_behind b ys (commit_field.one c k.0 (b ∷ ys) [] f.0 k.1 same).1 in
    let there : IsFaultOffset xs (length s) = record {
      within = omega (arith, ap length f.1, length-append s rest);
      begins = (c, [], record { has = has_encoding c f.0; is = append-nil (take (length s) xs) ∙ front });
      goes_no_further = λ inside begun.
          let b = behind_some xs s rest f.1 inside in
          let same : take (suc (length s)) xs ++ begun.1 ≡ s ++ b.0 ∷ begun.1 = ap (λ (w : List ℕ). w ++ begun.1) (next_front xs s rest b.0 b.1 f.1 b.2) ∙ append_assoc s (b.0 ∷ []) begun.1 in
          let k = encoded (take (suc (length s)) xs ++ begun.1) begun.0 begun.2 in
          further b.0 b.1 begun.1 b.2 (subst Commits same k);
      is_none = λ d q.
          let inside : length s < length xs = omega (arith, n, ap length f.1, length-append s rest) in
          let b = behind_some xs s rest f.1 inside in
          further b.0 b.1 b.1 b.2 (subst Commits (f.1 ∙ ap (λ (w : List ℕ). s ++ w) b.2) (encoded xs d q));
    } in
    (omega (arith, ap length f.1, length-append s rest), subst (IsFaultOffset xs) (sym long) there)

-- the bytes of a slice
pub input_of : (xs : List ℕ) → ((i : ℕ) → get_or xs i 0 < 256) → length xs < 2 ^ 63 → IsInput xs
input_of xs h k = record { bytes = all_bytes xs h; short = k }
