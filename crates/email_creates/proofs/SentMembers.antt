-- What holds of what a create says, if it is valid.
use Rattle.std.proofs.Common.{◌≡◌, ℕ, ◌+◌, ◌-◌, ◌≤◌, List, [], ◌∷◌, ◌++◌, length, get_or, Option, Some, None, option_and_then, refl, ap, ◌∙◌, subst, arith, length-append, codes}
use Rattle.std.specs.Option.{ForSome}
use Rattle.std.proofs.lemmas.Option.{none-some, same_Some}
use Rattle.jm_base.specs.UtcDates.{IsUtcDate}
use Rattle.jm_base.specs.UtcSeconds.{utc_seconds}
use Rattle.jm_base.specs.declared.identifiers.UtcDate.{UtcDate}
use Rattle.jm_json.specs.Find.{as_text, find}
use Rattle.jm_json.specs.Tree.{Tree}
use Rattle.jm_json.specs.declared.invocation.Created.{Created}
use Rattle.mail_records.specs.Contents.{Content}
use Rattle.set_parts.proofs.Parts.{bound, mapped}
use Rattle.set_parts.proofs.Sets.{AreKeywords, AreMailboxes, keywords_good, mailboxes_good}
use Rattle.email_creates.specs.Emails.{next_blob}
use Rattle.email_creates.specs.Properties.{NamedBlob, date_named, date_of, received_in, sent_in}
use Rattle.email_creates.specs.declared.properties.Sent.{Sent}
use Rattle.email_creates.proofs.Dates.{sent_date}

-- ---- the date of receipt

pub received_good : (t : Option Tree) (r : Option UtcDate) → received_in t ≡ Some r → ForSome r IsUtcDate
received_good None r e = subst (λ (o : Option UtcDate). ForSome o IsUtcDate) (same_Some None r e) (λ d is. absurd (none-some d is))
received_good (Some t) r e =
    let d = mapped (λ (x : UtcDate). Some x) (option_and_then date_named (as_text t)) r e in
    let s = bound date_named (as_text t) d.0 d.1 in
    let z = mapped date_of (utc_seconds s.0) d.0 s.2 in
    let is : IsUtcDate d.0 = subst IsUtcDate z.2 (sent_date s.0 z.0 z.1) in
    subst (λ (o : Option UtcDate). ForSome o IsUtcDate) d.2 (λ x same. subst IsUtcDate (same_Some d.0 x same) is)

-- ---- all of them

-- each property that is there is good
pub record IsValid (c : Content) (a : Sent) : Type 0 where
  pub keywords : (ks : List (List ℕ)) → a.keywords ≡ Some ks → AreKeywords ks
  pub mailboxes : (ns : List ℕ) → a.mailboxes ≡ Some ns → AreMailboxes c ns
  pub received : (r : Option UtcDate) → a.received ≡ Some r → ForSome r IsUtcDate

pub sent_valid : (c : Content) (made : List Created) (ms : List (List ℕ × Tree)) → IsValid c (sent_in c made ms)
sent_valid c made ms = record {
  keywords = λ ks e. keywords_good (find (codes "keywords") ms) ks e;
  mailboxes = λ ns e. mailboxes_good c made (find (codes "mailboxIds") ms) ns e;
  received = λ r e. received_good (find (codes "receivedAt") ms) r e;
}

-- ---- the blob

-- a named blob is one of these: its number and its bytes
pub record IsBlobOf (blobs : List (List ℕ)) (x : NamedBlob) : Type 0 where
  pub from_one : 1 ≤ x.number
  pub there : x.number ≤ length blobs
  pub bytes : get_or blobs (x.number - 1) [] ≡ x.bytes

at_last : (bs : List (List ℕ)) (b : List ℕ) → get_or (bs ++ b ∷ []) (length bs) [] ≡ b
at_last [] b = refl
at_last (x ∷ bs) b = at_last bs b

pub next_good : (blobs : List (List ℕ)) (bytes : List ℕ) → IsBlobOf (blobs ++ bytes ∷ []) (next_blob blobs bytes)
next_good blobs bytes =
    let more = length-append blobs (bytes ∷ []) in
    let back : length blobs + 1 - 1 ≡ length blobs = omega arith in
    record { from_one = omega arith; there = omega (arith, more); bytes = ap (λ i. get_or (blobs ++ bytes ∷ []) i []) back ∙ at_last blobs bytes }
