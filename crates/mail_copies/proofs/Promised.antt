-- What the plan of copies promises.
use Rattle.std.proofs.Common.{◌≡◌, ℕ, ◌≤◌, Bool, List, [], ◌∷◌, ◌++◌, drop, length, Option, Some, None, refl, sym, subst, append-nil}
use Rattle.std.specs.List.{AllByRecursion}
use Rattle.jm_base.specs.declared.identifiers.Kind.TheVariants.{Email as OfEmail}
use Rattle.jm_json.specs.Tree.{Tree}
use Rattle.jm_json.specs.declared.invocation.Created.{Created}
use Rattle.account_book.specs.Plans.{last_moment}
use Rattle.account_book.specs.declared.asks.Carried.{Carried}
use Rattle.blob_store.specs.Blobs.{AreBlobsFew, has_room}
use Rattle.mail_records.specs.Contents.{Content, AreTables}
use Rattle.mail_counts.specs.CountsFlag.{AreCountsFlagsRight}
use Rattle.mail_counts.specs.Plans.{Ground, present_state}
use Rattle.mail_counts.specs.Tidy.{IsTidy}
use Rattle.mail_summary.specs.Summaries.{summary}
use Rattle.plan_promises.specs.Planned.{IsPlanned}
use Rattle.set_parts.specs.Arguments.{Create, account_in, creates_in}
use Rattle.set_parts.specs.Outcomes.{Plan, planned}
use Rattle.set_parts.specs.Responses.{HasNewState}
use Rattle.set_parts.specs.declared.set_errors.SetError.TheVariants.{NotFound}
use Rattle.set_parts.proofs.Rejecting.{plan_of_planned}
use Rattle.email_creates.specs.Emails.{Progress, email_of, next_blob}
use Rattle.email_creates.specs.Plans.{beginning, plan_after}
use Rattle.email_creates.specs.declared.properties.Sent.{Sent}
use Rattle.email_creates.proofs.Passing.{accepted}
use Rattle.email_creates.proofs.Promising.{Led, few_checked, flags_promised, led_checked, led_first, led_rejected, promised_edits, puts_checked, puts_email}
use Rattle.mail_copies.specs.Arguments.{count_copies, forms, from_account_in}
use Rattle.mail_copies.specs.Carried.{Delivery, deliveries}
use Rattle.mail_copies.specs.Copies.{after_copies, after_copy, delivery_for, error_of_copy, first_delivery, properties_in}
use Rattle.mail_copies.specs.Plans.{place_outcome, plan_in}
use Rattle.mail_copies.proofs.Accepted.{new_copy}

-- ---- copies one after the other

led_copy : (blobs : List (List ℕ)) (moment : ℕ) (c : Content) (s : Progress) (x : Create) (d : Option Delivery) → moment ≤ last_moment → Led blobs c s → Led blobs c (after_copy blobs moment s x d)
led_copy blobs moment c s x None le led = led_rejected blobs c s x.creation NotFound led
led_copy blobs moment c s x (Some d) le led =
    let all : List (List ℕ) = blobs ++ s.creating.blobs in
    let room : Bool = has_room (length d.bytes) all in
    let a : Sent = properties_in s.creating.content s.creating.made moment x.members d.item in
    led_checked blobs c s x.creation (email_of s moment a (next_blob all d.bytes)) (Some d.bytes) (error_of_copy (length s.creating.content.emails) room a) led
    (λ none. new_copy all moment s x.members d.item d.bytes room le none) refl

led_copies : (blobs : List (List ℕ)) (moment : ℕ) (c : Content) (xs : List Create) (ds : List (Option Delivery)) (s : Progress) → moment ≤ last_moment → Led blobs c s → Led blobs c (after_copies blobs moment s xs ds)
led_copies blobs moment c [] ds s le led = led
led_copies blobs moment c (x ∷ xs) ds s le led =
    let d = delivery_for x (first_delivery ds) in
    led_copies blobs moment c xs (drop 1 ds) (after_copy blobs moment s x d) le (led_copy blobs moment c s x d le led)

-- ---- each edit puts an email

puts_copy : (blobs : List (List ℕ)) (moment : ℕ) (s : Progress) (x : Create) (d : Option Delivery) → AllByRecursion puts_email s.creating.edits → AllByRecursion puts_email (after_copy blobs moment s x d).creating.edits
puts_copy blobs moment s x None all = all
puts_copy blobs moment s x (Some d) all =
    let bs : List (List ℕ) = blobs ++ s.creating.blobs in
    let a : Sent = properties_in s.creating.content s.creating.made moment x.members d.item in
    puts_checked s x.creation (email_of s moment a (next_blob bs d.bytes)) (Some d.bytes) (error_of_copy (length s.creating.content.emails) (has_room (length d.bytes) bs) a) all

puts_copies : (blobs : List (List ℕ)) (moment : ℕ) (xs : List Create) (ds : List (Option Delivery)) (s : Progress) → AllByRecursion puts_email s.creating.edits → AllByRecursion puts_email (after_copies blobs moment s xs ds).creating.edits
puts_copies blobs moment [] ds s all = all
puts_copies blobs moment (x ∷ xs) ds s all =
    let d = delivery_for x (first_delivery ds) in
    puts_copies blobs moment xs (drop 1 ds) (after_copy blobs moment s x d) (puts_copy blobs moment s x d all)

-- ---- the blobs

few_copy : (blobs : List (List ℕ)) (moment : ℕ) (s : Progress) (x : Create) (d : Option Delivery) → AreBlobsFew (blobs ++ s.creating.blobs) → AreBlobsFew (blobs ++ (after_copy blobs moment s x d).creating.blobs)
few_copy blobs moment s x None few = few
few_copy blobs moment s x (Some d) few =
    let bs : List (List ℕ) = blobs ++ s.creating.blobs in
    let room : Bool = has_room (length d.bytes) bs in
    let a : Sent = properties_in s.creating.content s.creating.made moment x.members d.item in
    few_checked blobs s x.creation (email_of s moment a (next_blob bs d.bytes)) d.bytes (error_of_copy (length s.creating.content.emails) room a)
    (λ none. (accepted [] a (length s.creating.content.emails) room none).blob_room) few

few_copies : (blobs : List (List ℕ)) (moment : ℕ) (xs : List Create) (ds : List (Option Delivery)) (s : Progress) → AreBlobsFew (blobs ++ s.creating.blobs) → AreBlobsFew (blobs ++ (after_copies blobs moment s xs ds).creating.blobs)
few_copies blobs moment [] ds s few = few
few_copies blobs moment (x ∷ xs) ds s few =
    let d = delivery_for x (first_delivery ds) in
    few_copies blobs moment xs (drop 1 ds) (after_copy blobs moment s x d) (few_copy blobs moment s x d few)

-- ---- what a plan promises

-- what the plan of a call is promised to be, over an account with these blobs
pub record Promised (g : Ground) (blobs : List (List ℕ)) (moment : ℕ) (p : Plan) : Type 0 where
  pub planned : moment ≤ last_moment → IsTidy g.content → IsPlanned summary (blobs ++ p.blobs) g.content p.edits
  pub few : AreBlobsFew blobs → AreBlobsFew (blobs ++ p.blobs)
  pub new_state : HasNewState OfEmail g p.reply p.edits
  pub flags : AreTables g.content → AreCountsFlagsRight g.content p.edits

promised_copies : (g : Ground) (blobs : List (List ℕ)) (made : List Created) (moment : ℕ) (account from : List ℕ) (xs : List Create) (ds : List (Option Delivery))
    → Promised g blobs moment (plan_after g account (Some from) (after_copies blobs moment (beginning g.content made) xs ds))
promised_copies g blobs made moment account from xs ds =
    let c = g.content in
    let s : Progress = after_copies blobs moment (beginning c made) xs ds in
    let puts = puts_copies blobs moment xs ds (beginning c made) tt in
    record {
      planned = λ le tidy. promised_edits blobs c s tidy puts (led_copies blobs moment c xs ds (beginning c made) le (led_first blobs c made tidy));
      few = λ are. few_copies blobs moment xs ds (beginning c made) (subst AreBlobsFew (sym (append-nil blobs)) are);
      new_state = refl;
      flags = λ tables. flags_promised c s puts tables;
    }

-- the plan of a call promises what plans do, with the blobs that it brings
pub promised : (g : Ground) (blobs : List (List ℕ)) (args : Tree) (carried : Carried) (made : List Created) (moment : ℕ) (q : Plan) → place_outcome g blobs args carried made moment ≡ planned q → Promised g blobs moment q
promised g blobs args carried made moment q e =
    plan_of_planned (Promised g blobs moment) forms count_copies (present_state OfEmail g) (plan_in g blobs carried made moment)
    (λ ms. promised_copies g blobs made moment (account_in ms) (from_account_in ms) (creates_in ms) (deliveries carried.emails carried.blobs)) args q e
