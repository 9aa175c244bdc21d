-- The date that a text is, by the clauses of its reader.
use Rattle.std.proofs.Common.{◌≡◌, ℕ, ℤ, pos, ◌≤◌, Bool, true, false, ◌&&◌, List, Some, None, refl, arith, sym, ap, subst, ◌∙◌, cond}
use Rattle.std.specs.Prelude.{nat_le}
use Rattle.std.proofs.lemmas.Bool.{and_parts, true≢false}
use Rattle.std.proofs.lemmas.Bool.Decides.{nat_tests}
use Rattle.jiff_core.specs.Calendar.{days_in_month}
use Rattle.jm_base.specs.UtcDates.{DateTime, IsDay, IsTime, IsUtcText, date_time_in, date_time_seconds}
use Rattle.jm_base.specs.declared.identifiers.UtcDate.{UtcDate}
use Rattle.jm_base.specs.UtcSeconds.{is_day, is_time, is_utc_text, utc_seconds}

le_true : (a b : ℕ) → a ≤ b → nat_le a b ≡ true
le_true a b h = grind (arith, nat_tests)

true_le : (a b : ℕ) → nat_le a b ≡ true → a ≤ b
true_le a b h = grind (arith, nat_tests)

and_both : (a b : Bool) → a ≡ true → b ≡ true → (a && b) ≡ true
and_both true b e f = f
and_both false b e f = absurd (true≢false (sym e))

day_true : (c : DateTime) → IsDay c.year c.month c.day → is_day c ≡ true
day_true c h =
    and_both _ _
    (and_both _ _
    (and_both _ _
    (and_both _ _ (and_both _ _ (le_true 1 c.year h.from_year) (le_true c.year 9999 h.to_year)) (le_true 1 c.month h.from_month))
    (le_true c.month 12 h.to_month))
    (le_true 1 c.day h.from_day))
    (le_true c.day (days_in_month (pos c.year) c.month) h.to_day)

time_true : (c : DateTime) → IsTime c.hour c.minute c.second → is_time c ≡ true
time_true c h = and_both _ _ (and_both _ _ (le_true c.hour 23 h.to_hour) (le_true c.minute 59 h.to_minute)) (le_true c.second 59 h.to_second)

true_day : (c : DateTime) → is_day c ≡ true → IsDay c.year c.month c.day
true_day c h =
    let a = and_parts _ _ h in
    let b = and_parts _ _ a.0 in
    let d = and_parts _ _ b.0 in
    let e = and_parts _ _ d.0 in
    let f = and_parts _ _ e.0 in record {
      from_year = true_le 1 c.year f.0;
      to_year = true_le c.year 9999 f.1;
      from_month = true_le 1 c.month e.1;
      to_month = true_le c.month 12 d.1;
      from_day = true_le 1 c.day b.1;
      to_day = true_le c.day (days_in_month (pos c.year) c.month) a.1;
    }

true_time : (c : DateTime) → is_time c ≡ true → IsTime c.hour c.minute c.second
true_time c h =
    let a = and_parts _ _ h in
    let b = and_parts _ _ a.0 in
    record { to_hour = true_le c.hour 23 b.0; to_minute = true_le c.minute 59 b.1; to_second = true_le c.second 59 a.1 }

text_true : (text : List ℕ) (date : UtcDate) → IsUtcText text date → is_utc_text text ≡ true
text_true text date h =
    and_both _ _ (and_both _ _ (and_both _ _ h.laid_out h.ends) (day_true (date_time_in text) h.date_time.day)) (time_true (date_time_in text) h.date_time.time)

true_text : (text : List ℕ) → is_utc_text text ≡ true → IsUtcText text (record { seconds = date_time_seconds (date_time_in text) })
true_text text h =
    let a = and_parts _ _ h in
    let b = and_parts _ _ a.0 in
    let d = and_parts _ _ b.0 in record {
      laid_out = d.0;
      ends = d.1;
      date_time = record { day = true_day (date_time_in text) b.1; time = true_time (date_time_in text) a.1 };
      seconds = refl;
    }

by_test : (b : Bool) (z : ℤ) → b ≡ true → cond b (Some z) None ≡ Some z
by_test true z e = refl
by_test false z e = absurd (true≢false (sym e))

none_by : (b : Bool) (z : ℤ) → (b ≡ true → ⊥) → cond b (Some z) None ≡ None
none_by false z never = refl
none_by true z never = absurd (never refl)

pub dated : (text : List ℕ) (date : UtcDate) → IsUtcText text date → Some date.seconds ≡ utc_seconds text
dated text date h =
    ap Some h.seconds ∙ sym (by_test (is_utc_text text) (date_time_seconds (date_time_in text)) (text_true text date h))

pub undated : (text : List ℕ) → ((date : UtcDate) → IsUtcText text date → ⊥) → None ≡ utc_seconds text
undated text never =
    sym (none_by (is_utc_text text) (date_time_seconds (date_time_in text)) (λ e. never (record { seconds = date_time_seconds (date_time_in text) }) (true_text text e)))

read_back : (text : List ℕ) (b : Bool) (z s : ℤ) → (b ≡ true → IsUtcText text (record { seconds = z })) → cond b (Some z) None ≡ Some s → IsUtcText text (record { seconds = s })
read_back text true z s good e = let same : z ≡ s = cc in subst (λ x. IsUtcText text (record { seconds = x })) same (good refl)
read_back text false z s good e = absurd (cc)

pub dates_of_texts : (text : List ℕ) (seconds : ℤ) → utc_seconds text ≡ Some seconds → IsUtcText text (record { seconds = seconds })
dates_of_texts text seconds e = read_back text (is_utc_text text) (date_time_seconds (date_time_in text)) seconds (true_text text) e

pub ruleset by_dates = (dated, undated)
