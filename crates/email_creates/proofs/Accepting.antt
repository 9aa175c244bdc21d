-- What holds of the email of a create that is not rejected.
use Rattle.std.proofs.Common.{◌≡◌, ℕ, ◌+◌, ◌-◌, ◌<◌, ◌≤◌, Bool, List, [], ◌++◌, length, Option, Some, None, unwrap_or, refl, sym, ap, subst, pos}
use Rattle.std.specs.List.{AllByRecursion}
use Rattle.std.specs.Option.{ForSome}
use Rattle.jm_base.specs.UtcDates.{IsUtcDate}
use Rattle.jm_base.specs.declared.identifiers.UtcDate.{UtcDate}
use Rattle.mail_records.specs.Contents.{Content}
use Rattle.mail_records.specs.declared.records.Email.{Email}
use Rattle.mail_counts.specs.declared.limits.TheConstants.{MAX_EMAILS_PER_ACCOUNT}
use Rattle.mail_counts.specs.Tidy.{IsTidyEmail, IsThere}
use Rattle.mail_summary.specs.Received.{received}
use Rattle.mail_summary.specs.Summaries.{summary}
use Rattle.plan_promises.specs.Planned.{IsDelivered, IsFiled}
use Rattle.plan_promises.proofs.Planned.{HasMessage-more}
use Rattle.set_parts.proofs.Parts.{there, unwrapped}
use Rattle.email_creates.specs.Emails.{Progress, email_of, received_at}
use Rattle.email_creates.specs.Properties.{NamedBlob, date_of}
use Rattle.email_creates.specs.declared.properties.Sent.{Sent}
use Rattle.email_creates.proofs.Dates.{dated_value, received_dated}
use Rattle.email_creates.proofs.Passing.{IsAccepted}
use Rattle.email_creates.proofs.SentMembers.{IsBlobOf, IsValid}

-- the date of receipt is one of the years 0001 to 9999
unwrapped_date : (o : Option UtcDate) (d : UtcDate) → ForSome o IsUtcDate → IsUtcDate d → IsUtcDate (unwrap_or o d)
unwrapped_date None d some is = is
unwrapped_date (Some x) d some is = some x refl

receipt_dated : (moment : ℕ) (bytes : List ℕ) (o : Option UtcDate) → IsUtcDate (date_of (pos moment)) → ForSome o IsUtcDate → IsUtcDate (received_at moment (received bytes) o)
receipt_dated moment bytes (Some d) at some = some d refl
receipt_dated moment bytes None at some = unwrapped_date (received bytes) (date_of (pos moment)) (received_dated bytes) at

-- an email that a create may put into the content
pub record IsNewEmail (blobs : List (List ℕ)) (c : Content) (e : Email) : Type 0 where
  pub number : e.number ≡ c.next_email
  pub tidy : IsTidyEmail c e
  pub delivered : IsDelivered summary blobs e
  pub filed : IsFiled e
  pub room : length c.emails < MAX_EMAILS_PER_ACCOUNT

-- also with more blobs
pub IsNewEmail-more : (blobs more : List (List ℕ)) (c : Content) (e : Email) → IsNewEmail blobs c e → IsNewEmail (blobs ++ more) c e
IsNewEmail-more blobs more c e new = record {
  number = new.number;
  tidy = new.tidy;
  delivered = record { message = HasMessage-more summary blobs more e new.delivered.message; received = new.delivered.received };
  filed = new.filed;
  room = new.room;
}

pub new_email : (blobs : List (List ℕ)) (moment : ℕ) (s : Progress) (a : Sent) (x : NamedBlob) (names : List (List ℕ)) (room : Bool) → IsUtcDate (date_of (pos moment)) → IsValid s.creating.content a → IsBlobOf blobs x
    → IsAccepted names a (length s.creating.content.emails) room → IsNewEmail blobs s.creating.content (email_of s moment a x)
new_email blobs moment s a x names room at valid named ok =
    let boxes = there a.mailboxes ok.mailboxes in
    let words = there a.keywords ok.keywords in
    let date = there a.received ok.received in
    let boxes_are : unwrap_or a.mailboxes [] ≡ boxes.0 = unwrapped a.mailboxes boxes.0 [] boxes.1 in
    let words_are : unwrap_or a.keywords [] ≡ words.0 = unwrapped a.keywords words.0 [] words.1 in
    let date_is : unwrap_or a.received None ≡ date.0 = unwrapped a.received date.0 None date.1 in
    let boxes_good = valid.mailboxes boxes.0 boxes.1 in
    let words_good = valid.keywords words.0 words.1 in
    let dated : IsUtcDate (received_at moment (received x.bytes) (unwrap_or a.received None)) =
    receipt_dated moment x.bytes (unwrap_or a.received None) at (subst (λ (o : Option UtcDate). ForSome o IsUtcDate) (sym date_is) (valid.received date.0 date.1)) in
    record {
      number = refl;
      tidy = record {
        mailboxes = subst (AllByRecursion (IsThere s.creating.content)) (sym boxes_are) boxes_good.there;
        some_mailbox = subst (λ (ns : List ℕ). 1 ≤ length ns) (sym boxes_are) boxes_good.some;
        few_mailboxes = ok.few_mailboxes;
        mailboxes_rise = rw boxes_are boxes_good.rise;
        keywords = rw words_are words_good.formed;
        few_keywords = ok.few_keywords;
        keywords_rise = rw words_are words_good.rise;
        received = dated;
        sent = dated_value _;
      };
      delivered = record {
        message = record {
          from_one = named.from_one;
          there = named.there;
          message = record { size = ap length (sym named.bytes); summary_is = ap summary (sym named.bytes) };
        };
        received = dated;
      };
      filed = record { few_mailboxes = ok.few_mailboxes; mailboxes_rise = rw boxes_are boxes_good.rise; keywords_rise = rw words_are words_good.rise };
      room = ok.room;
    }
