-- Dates that are read are of the years 0001 to 9999.
use Rattle.std.proofs.Common.{◌≡◌, ◌≤ℤ◌, ◌*ℤ◌, ◌+ℤ◌, ◌*◌, ◌+◌, ℕ, ◌≤◌, ℤ, pos, negsuc, Bool, true, false, cond, ◌&&◌, List, Option, Some, None, refl, subst, arith, int_le, codes}
use Rattle.std.specs.Prelude.{nat_le}
use Rattle.std.specs.Option.{ForSome}
use Rattle.std.specs.Prelude.{option_and_then}
use Rattle.std.proofs.lemmas.Bool.{and_parts}
use Rattle.std.proofs.lemmas.Bool.Decides.{nat_tests}
use Rattle.std.proofs.lemmas.Int.{ints}
use Rattle.std.proofs.lemmas.Option.{none-some, same_Some}
use Rattle.jiff_core.proofs.SignedLemmas.{signed_arith}
use Rattle.jiff_core.specs.Calendar.{days_in_month, days_from_civil}
use Rattle.jm_base.specs.UtcDates.{DateTime, IsDay, IsTime, IsUtcDate, date_time_in, date_time_seconds}
use Rattle.jm_base.specs.declared.identifiers.UtcDate.{UtcDate}
use Rattle.jm_base.specs.declared.utc_dates.TheConstants.{FIRST_TIMESTAMP, LAST_TIMESTAMP}
use Rattle.jm_base.proofs.Days.{day_bounds}
use Rattle.jm_base.specs.UtcSeconds.{is_day, is_time, is_utc_text, utc_seconds}
use Rattle.header_forms.specs.Dates.{if_in_range, date_time_in as zoned_in, unix_seconds, utc_of}
use Rattle.header_forms.specs.Texts.{on_one_line}
use Rattle.header_forms.specs.declared.date_time.ZonedDateTime.{ZonedDateTime}
use Rattle.mail_text.specs.declared.comment.State.TheVariants.{Outside}
use Rattle.mime_words.specs.Words.{◌>>=◌}
use Rattle.mail_summary.specs.Received.{after_last, first_value_of, timestamp_after, received}
use Rattle.mail_summary.specs.Summaries.{sent_by}
use Rattle.email_creates.specs.Properties.{date_of}

true_le : (a b : ℕ) → nat_le a b ≡ true → a ≤ b
true_le a b h = grind (arith, nat_tests)

-- ---- what a client sends

true_day : (c : DateTime) → is_day c ≡ true → IsDay c.year c.month c.day
true_day c h =
    let a = and_parts _ _ h in
    let b = and_parts _ _ a.0 in
    let d = and_parts _ _ b.0 in
    let e = and_parts _ _ d.0 in
    let f = and_parts _ _ e.0 in record {
      from_year = true_le 1 c.year f.0;
      to_year = true_le c.year 9999 f.1;
      from_month = true_le 1 c.month e.1;
      to_month = true_le c.month 12 d.1;
      from_day = true_le 1 c.day b.1;
      to_day = true_le c.day (days_in_month (pos c.year) c.month) a.1;
    }

true_time : (c : DateTime) → is_time c ≡ true → IsTime c.hour c.minute c.second
true_time c h =
    let a = and_parts _ _ h in
    let b = and_parts _ _ a.0 in
    record { to_hour = true_le c.hour 23 b.0; to_minute = true_le c.minute 59 b.1; to_second = true_le c.second 59 a.1 }

in_range : (days : ℤ) (s : ℕ) → (negsuc 719161 ≤ℤ days) × (days ≤ℤ pos 2932896) → s ≤ 86399
    → IsUtcDate (date_of (days *ℤ pos 86400 +ℤ pos s))
in_range days s d le = record { not_before = omega (arith, signed_arith, d, le); not_after = omega (arith, signed_arith, d, le) }

second_of : (c : DateTime) → IsTime c.hour c.minute c.second → c.hour * 3600 + c.minute * 60 + c.second ≤ 86399
second_of c t = omega (arith, t.to_hour, t.to_minute, t.to_second)

good_text : (text : List ℕ) → is_utc_text text ≡ true → IsUtcDate (date_of (date_time_seconds (date_time_in text)))
good_text text h =
    let a = and_parts _ _ h in
    let b = and_parts _ _ a.0 in
    let c : DateTime = date_time_in text in
    in_range (days_from_civil (pos c.year) c.month c.day) (c.hour * 3600 + c.minute * 60 + c.second)
    (day_bounds c.year c.month c.day (true_day c b.1)) (second_of c (true_time c a.1))

at_test : (b : Bool) (s z : ℤ) → (b ≡ true → IsUtcDate (date_of s)) → cond b (Some s) None ≡ Some z → IsUtcDate (date_of z)
at_test true s z h e = subst (λ x. IsUtcDate (date_of x)) (same_Some s z e) (h refl)
at_test false s z h e = absurd (none-some z e)

pub sent_date : (text : List ℕ) (z : ℤ) → utc_seconds text ≡ Some z → IsUtcDate (date_of z)
sent_date text z e = at_test (is_utc_text text) (date_time_seconds (date_time_in text)) z (good_text text) e

-- ---- what a message says

and_both : (a b : Bool) → (a && b) ≡ true → (a ≡ true) × (b ≡ true)
and_both a b e = and_parts a b e

le_of : (a b : ℤ) → int_le a b ≡ true → a ≤ℤ b
le_of a b e = grind (arith, ints)

dated_by : (b : Bool) (seconds : ℤ) → (int_le FIRST_TIMESTAMP seconds && int_le seconds (pos LAST_TIMESTAMP)) ≡ b → ForSome (cond b (Some (date_of seconds)) None) IsUtcDate
dated_by false seconds e = λ d is. absurd (none-some d is)
dated_by true seconds e =
    let both = and_both (int_le FIRST_TIMESTAMP seconds) (int_le seconds (pos LAST_TIMESTAMP)) e in
    λ d is. subst IsUtcDate (same_Some (date_of seconds) d is) (record { not_before = le_of FIRST_TIMESTAMP seconds both.0; not_after = le_of seconds (pos LAST_TIMESTAMP) both.1 })

dated : (seconds : ℤ) → ForSome (if_in_range seconds) IsUtcDate
dated seconds = dated_by _ seconds refl

-- whatever the timestamp is made of
dated_moment : {A : Type 0} (seconds : A → ℤ) (o : Option A) → ForSome (o >>= (λ m. if_in_range (seconds m))) IsUtcDate
dated_moment seconds None = λ d is. absurd (none-some d is)
dated_moment seconds (Some m) = dated (seconds m)

dated_text : (text : List ℕ) → ForSome (utc_of text) IsUtcDate
dated_text text = dated_moment (λ (m : ZonedDateTime). unix_seconds m) (zoned_in text)

dated_if : {A : Type 0} (f : A → Option UtcDate) → ((x : A) → ForSome (f x) IsUtcDate) → (o : Option A) → ForSome (option_and_then f o) IsUtcDate
dated_if f all None = λ d is. absurd (none-some d is)
dated_if f all (Some x) = all x

pub dated_value : (o : Option (List ℕ)) → ForSome (option_and_then sent_by o) IsUtcDate
dated_value o = dated_if sent_by (λ value. dated_text (on_one_line value)) o

pub received_dated : (bytes : List ℕ) → ForSome (received bytes) IsUtcDate
received_dated bytes = dated_if timestamp_after (λ value. dated_if utc_of dated_text (after_last Outside (on_one_line value))) (first_value_of bytes (codes "Received"))

pub moment_dated : (moment : ℕ) → moment ≤ LAST_TIMESTAMP → IsUtcDate (date_of (pos moment))
moment_dated moment le = record { not_before = omega (arith, signed_arith, le); not_after = omega (arith, signed_arith, le) }
