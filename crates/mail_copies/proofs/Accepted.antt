-- What holds of the email of a copy that is not rejected.
use Rattle.std.proofs.Common.{◌≡◌, ℕ, ◌≤◌, Bool, true, false, cond, List, [], ◌∷◌, ◌++◌, length, Option, Some, None, unwrap_or, option_map, option_and_then, refl, ◌∙◌, subst, bytes_eq, pos, codes}
use Rattle.std.specs.List.Sorted.{IsStrictlySortedBy}
use Rattle.std.specs.Option.{ForSome}
use Rattle.std.specs.Ordering.{nat_cmp}
use Rattle.std.specs.Cmp.Lexicographic.{slice_cmp, nat_list_cmp_total}
use Rattle.std.specs.Str.{str_to_ascii_lowercase}
use Rattle.std.proofs.lemmas.Option.{none-some, same_Some}
use Rattle.jm_base.specs.UtcDates.{IsUtcDate, utc_text}
use Rattle.jm_base.specs.UtcSeconds.{utc_seconds}
use Rattle.jm_base.specs.declared.identifiers.UtcDate.{UtcDate}
use Rattle.jm_json.specs.Find.{as_text, find}
use Rattle.jm_json.specs.Tree.{Tree}
use Rattle.jm_json.specs.declared.invocation.Created.{Created}
use Rattle.account_book.specs.Plans.{last_moment}
use Rattle.mail_counts.specs.Forms.{is_keyword}
use Rattle.mail_counts.specs.Touched.{sorted_once}
use Rattle.mail_counts.proofs.Sorted.{all_sorted, rise-sorted_once}
use Rattle.mail_records.specs.Contents.{Content}
use Rattle.set_parts.specs.Names.{keyword_meant, only_if, set_in}
use Rattle.set_parts.specs.Responses.{member_named}
use Rattle.set_parts.proofs.Parts.{bound, mapped}
use Rattle.set_parts.proofs.Sets.{AreKeywords, all_in_set, keywords_good, mailboxes_good}
use Rattle.email_creates.specs.Emails.{Progress, email_of, next_blob}
use Rattle.email_creates.specs.Properties.{date_named, date_of}
use Rattle.email_creates.specs.declared.properties.Sent.{Sent}
use Rattle.email_creates.proofs.Accepting.{IsNewEmail, new_email}
use Rattle.email_creates.proofs.Dates.{moment_dated, sent_date}
use Rattle.email_creates.proofs.Passing.{accepted}
use Rattle.email_creates.proofs.SentMembers.{IsValid, next_good, received_good}
use Rattle.mail_copies.specs.Carried.{carried_date, carried_keywords, kept_date, kept_keyword}
use Rattle.mail_copies.specs.Copies.{error_of_copy, keywords_or, properties_in, received_or}

-- ---- an option that is one of two

passed : {A : Type 0} (b : Bool) (x y : A) → cond b (Some x) None ≡ Some y → x ≡ y
passed true x y e = same_Some x y e
passed false x y e = absurd (none-some y e)

unwrapped_all : {A : Type 0} (P : A → Type 0) (o : Option A) (d : A) → ((x : A) → o ≡ Some x → P x) → P d → P (unwrap_or o d)
unwrapped_all P None d some is = is
unwrapped_all P (Some x) d some is = some x refl

-- ---- keywords

abbrev IsKeyword : List ℕ → Type 0
IsKeyword k = is_keyword k ≡ true

only_good : (b : Bool) (s x : List ℕ) → is_keyword s ≡ b → cond b (Some s) None ≡ Some x → IsKeyword x
only_good true s x is e = subst IsKeyword (same_Some s x e) is
only_good false s x is e = absurd (none-some x e)

kept_good : (s k : List ℕ) → kept_keyword s ≡ Some k → IsKeyword k
kept_good s k e =
    let m = bound (only_if (bytes_eq s)) (keyword_meant s) k e in
    subst IsKeyword (passed (bytes_eq s m.0) m.0 k m.2) (only_good (is_keyword (str_to_ascii_lowercase s)) (str_to_ascii_lowercase s) m.0 refl m.1)

no_keywords : AreKeywords []
unfolding IsStrictlySortedBy
no_keywords = record { formed = tt; rise = tt }

carried_good : (item : Tree) → AreKeywords (carried_keywords item)
carried_good item =
    let o = option_and_then (set_in kept_keyword) (member_named (codes "keywords") item) in
    unwrapped_all AreKeywords (option_map (sorted_once (slice_cmp nat_cmp)) o) []
    (λ ks e.
    let xs = mapped (sorted_once (slice_cmp nat_cmp)) o ks e in
    let t = bound (set_in kept_keyword) (member_named (codes "keywords") item) xs.0 xs.1 in
    subst AreKeywords xs.2
    (record {
      formed = all_sorted (slice_cmp nat_cmp) IsKeyword xs.0 (all_in_set kept_keyword IsKeyword kept_good t.0 xs.0 t.2);
      rise = rise-sorted_once nat_list_cmp_total xs.0;
    }))
    no_keywords

keywords_or_good : (item : Tree) (t : Option Tree) (ks : List (List ℕ)) → keywords_or (carried_keywords item) t ≡ Some ks → AreKeywords ks
keywords_or_good item None ks e = subst AreKeywords (same_Some (carried_keywords item) ks e) (carried_good item)
keywords_or_good item (Some t) ks e = keywords_good (Some t) ks e

-- ---- the date of receipt

kept_dated : (s : List ℕ) (d : UtcDate) → kept_date s ≡ Some d → IsUtcDate d
kept_dated s d e =
    let m = bound (only_if (λ (x : UtcDate). bytes_eq s (utc_text x))) (date_named s) d e in
    let z = mapped date_of (utc_seconds s) m.0 m.1 in
    subst IsUtcDate (z.2 ∙ passed (bytes_eq s (utc_text m.0)) m.0 d m.2) (sent_date s z.0 z.1)

carried_dated : (moment : ℕ) (item : Tree) → moment ≤ last_moment → IsUtcDate (carried_date moment item)
carried_dated moment item le =
    let o = option_and_then as_text (member_named (codes "receivedAt") item) in
    unwrapped_all IsUtcDate (option_and_then kept_date o) (date_of (pos moment))
    (λ d e. let s = bound kept_date o d e in kept_dated s.0 d s.2)
    (moment_dated moment le)

received_or_good : (moment : ℕ) (item : Tree) (t : Option Tree) (r : Option UtcDate) → moment ≤ last_moment → received_or (carried_date moment item) t ≡ Some r → ForSome r IsUtcDate
received_or_good moment item None r le e =
    subst (λ (o : Option UtcDate). ForSome o IsUtcDate) (same_Some (Some (carried_date moment item)) r e)
    (λ x same. subst IsUtcDate (same_Some (carried_date moment item) x same) (carried_dated moment item le))
received_or_good moment item (Some t) r le e = received_good (Some t) r e

-- ---- the email

properties_valid : (c : Content) (made : List Created) (moment : ℕ) (ms : List (List ℕ × Tree)) (item : Tree) → moment ≤ last_moment → IsValid c (properties_in c made moment ms item)
properties_valid c made moment ms item le = record {
  keywords = λ ks e. keywords_or_good item (find (codes "keywords") ms) ks e;
  mailboxes = λ ns e. mailboxes_good c made (find (codes "mailboxIds") ms) ns e;
  received = λ r e. received_or_good moment item (find (codes "receivedAt") ms) r le e;
}

pub new_copy : (blobs : List (List ℕ)) (moment : ℕ) (s : Progress) (ms : List (List ℕ × Tree)) (item : Tree) (bytes : List ℕ) (room : Bool) → moment ≤ last_moment
    → (let a : Sent = properties_in s.creating.content s.creating.made moment ms item in
    error_of_copy (length s.creating.content.emails) room a ≡ None → IsNewEmail (blobs ++ bytes ∷ []) s.creating.content (email_of s moment a (next_blob blobs bytes)))
new_copy blobs moment s ms item bytes room le none =
    let c : Content = s.creating.content in
    let a : Sent = properties_in c s.creating.made moment ms item in
    new_email (blobs ++ bytes ∷ []) moment s a (next_blob blobs bytes) [] room (moment_dated moment le) (properties_valid c s.creating.made moment ms item le) (next_good blobs bytes)
    (accepted [] a (length c.emails) room none)
