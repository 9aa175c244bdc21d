-- What the plan of an import promises.
use Rattle.std.proofs.Common.{◌≡◌, ℕ, ◌≤◌, Bool, true, false, not, List, [], ◌∷◌, ◌++◌, length, None, is_some, unwrap_or, true≢false, refl, sym, ap, ◌∙◌, subst, append-nil, codes}
use Rattle.std.specs.List.{AllByRecursion}
use Rattle.jm_base.specs.declared.identifiers.Kind.TheVariants.{Email as OfEmail}
use Rattle.jm_json.specs.Find.{find}
use Rattle.jm_json.specs.Tree.{Tree}
use Rattle.jm_json.specs.declared.invocation.Created.{Created}
use Rattle.mail_records.specs.Contents.{Content, AreTables}
use Rattle.account_book.specs.Plans.{last_moment}
use Rattle.mail_counts.specs.CountsFlag.{AreCountsFlagsRight}
use Rattle.mail_counts.specs.Plans.{Ground, present_state}
use Rattle.mail_counts.specs.Tidy.{IsTidy}
use Rattle.mail_summary.specs.Summaries.{summary}
use Rattle.plan_promises.specs.Planned.{IsPlanned}
use Rattle.set_parts.specs.Arguments.{Create, account_in}
use Rattle.set_parts.specs.Outcomes.{Plan, planned}
use Rattle.set_parts.specs.Responses.{HasNewState}
use Rattle.set_parts.proofs.Parts.{there, unwrapped}
use Rattle.set_parts.proofs.Rejecting.{plan_of_planned}
use Rattle.email_creates.specs.Emails.{Progress, email_of}
use Rattle.email_creates.specs.Errors.{name_if}
use Rattle.email_creates.specs.Plans.{all_edits, beginning, plan_after}
use Rattle.email_creates.specs.Properties.{NamedBlob}
use Rattle.email_creates.proofs.Accepting.{IsNewEmail, IsNewEmail-more, new_email}
use Rattle.email_creates.proofs.Dates.{moment_dated}
use Rattle.email_creates.proofs.Passing.{accepted, none_named}
use Rattle.email_creates.proofs.Promising.{Led, flags_promised, led_checked, led_first, none_checked, promised_edits, puts_checked, puts_email}
use Rattle.email_creates.proofs.SentMembers.{IsBlobOf, sent_valid}
use Rattle.mail_import.specs.Arguments.{count_imports, forms, imports_in}
use Rattle.mail_import.specs.Imports.{after_import, after_imports, error_of_import, no_blob}
use Rattle.mail_import.specs.Plans.{import_outcome, plan_in}
use Rattle.mail_import.specs.Properties.{Import, email_import_in}
use Rattle.mail_import.proofs.NamedBlobs.{blob_good}

-- ---- the email of an import

given : (b : Bool) → not b ≡ false → b ≡ true
given true e = refl
given false e = absurd (true≢false e)

new_import : (blobs : List (List ℕ)) (moment : ℕ) (s : Progress) (ms : List (List ℕ × Tree)) → moment ≤ last_moment
    → error_of_import (length s.creating.content.emails) (email_import_in blobs s.creating.content s.creating.made ms) ≡ None
    → (let a : Import = email_import_in blobs s.creating.content s.creating.made ms in IsNewEmail blobs s.creating.content (email_of s moment a.sent (unwrap_or a.blob no_blob)))
new_import blobs moment s ms le none =
    let c : Content = s.creating.content in
    let a : Import = email_import_in blobs c s.creating.made ms in
    let names : List (List ℕ) = name_if (not (is_some a.blob)) (codes "blobId") in
    let ok = accepted names a.sent (length c.emails) true none in
    let named = none_named [] (not (is_some a.blob)) (codes "blobId") ok.names in
    let blob = there a.blob (given (is_some a.blob) named.this) in
    let x : NamedBlob = unwrap_or a.blob no_blob in
    let blob_is : x ≡ blob.0 = unwrapped a.blob blob.0 no_blob blob.1 in
    let known : IsBlobOf blobs x = subst (IsBlobOf blobs) (sym blob_is) (blob_good blobs (find (codes "blobId") ms) blob.0 blob.1) in
    new_email blobs moment s a.sent x names true (moment_dated moment le) (sent_valid c s.creating.made ms) known ok

-- ---- imports one after the other

led_imports : (blobs : List (List ℕ)) (moment : ℕ) (c : Content) (xs : List Create) (s : Progress) → moment ≤ last_moment → Led blobs c s → Led blobs c (after_imports blobs moment s xs)
led_imports blobs moment c [] s le led = led
led_imports blobs moment c (x ∷ xs) s le led =
    let a : Import = email_import_in blobs s.creating.content s.creating.made x.members in
    let e = email_of s moment a.sent (unwrap_or a.blob no_blob) in
    led_imports blobs moment c xs (after_import blobs moment s x) le
    (led_checked blobs c s x.creation e None (error_of_import (length s.creating.content.emails) a) led
    (λ none. IsNewEmail-more (blobs ++ s.creating.blobs) [] s.creating.content e (IsNewEmail-more blobs s.creating.blobs s.creating.content e (new_import blobs moment s x.members le none))) refl)

puts_imports : (blobs : List (List ℕ)) (moment : ℕ) (xs : List Create) (s : Progress) → AllByRecursion puts_email s.creating.edits → AllByRecursion puts_email (after_imports blobs moment s xs).creating.edits
puts_imports blobs moment [] s all = all
puts_imports blobs moment (x ∷ xs) s all =
    puts_imports blobs moment xs (after_import blobs moment s x)
    (puts_checked s x.creation _ None (error_of_import (length s.creating.content.emails) (email_import_in blobs s.creating.content s.creating.made x.members)) all)

-- ---- imports bring no blobs

none_imports : (blobs : List (List ℕ)) (moment : ℕ) (xs : List Create) (s : Progress) → (after_imports blobs moment s xs).creating.blobs ≡ s.creating.blobs
none_imports blobs moment [] s = refl
none_imports blobs moment (x ∷ xs) s =
    none_imports blobs moment xs (after_import blobs moment s x)
    ∙ none_checked s x.creation _ (error_of_import (length s.creating.content.emails) (email_import_in blobs s.creating.content s.creating.made x.members))

-- what a plan is promised to be
pub record Promised (g : Ground) (known : List (List ℕ)) (moment : ℕ) (p : Plan) : Type 0 where
  pub planned : moment ≤ last_moment → IsTidy g.content → IsPlanned summary known g.content p.edits
  pub new_state : HasNewState OfEmail g p.reply p.edits
  pub flags : AreTables g.content → AreCountsFlagsRight g.content p.edits
  pub none_brought : p.blobs ≡ []

promised_imports : (g : Ground) (blobs : List (List ℕ)) (made : List Created) (moment : ℕ) (account : List ℕ) (xs : List Create) → Promised g blobs moment (plan_after g account None (after_imports blobs moment (beginning g.content made) xs))
promised_imports g blobs made moment account xs =
    let c = g.content in
    let s : Progress = after_imports blobs moment (beginning c made) xs in
    let puts = puts_imports blobs moment xs (beginning c made) tt in
    record {
      planned = λ le tidy.
          subst (λ (bs : List (List ℕ)). IsPlanned summary bs c (all_edits c s)) (ap (λ (bs : List (List ℕ)). blobs ++ bs) (none_imports blobs moment xs (beginning c made)) ∙ append-nil blobs)
          (promised_edits blobs c s tidy puts (led_imports blobs moment c xs (beginning c made) le (led_first blobs c made tidy)));
      new_state = refl;
      flags = λ tables. flags_promised c s puts tables;
      none_brought = none_imports blobs moment xs (beginning c made);
    }

pub promised : (g : Ground) (blobs : List (List ℕ)) (args : Tree) (made : List Created) (moment : ℕ) (q : Plan) → import_outcome g blobs args made moment ≡ planned q → Promised g blobs moment q
promised g blobs args made moment q e =
    plan_of_planned (Promised g blobs moment) forms count_imports (present_state OfEmail g) (plan_in g blobs made moment)
    (λ ms. promised_imports g blobs made moment (account_in ms) (imports_in ms)) args q e

-- a plan promises what plans do, at each timestamp up to the end of the year 9999
pub planned_import : (g : Ground) (blobs : List (List ℕ)) (args : Tree) (made : List Created) (moment : ℕ) (p : Plan) → moment ≤ last_moment → IsTidy g.content → import_outcome g blobs args made moment ≡ planned p
    → IsPlanned summary blobs g.content p.edits
planned_import g blobs args made moment p le tidy e = (promised g blobs args made moment p e).planned le tidy
