-- The summary of each message is one that can be kept: its links are at most `MAX_LINKS_PER_EMAIL`
-- and rise, and its date is of the years 0001 to 9999.
use Rattle.std.proofs.Common.{ltb-true, ◌≤ℤ◌, ◌≡◌, ℕ, ◌+◌, ◌<◌, ◌≤◌, Bool, true, false, cond, List, [], ◌∷◌, length, filter, nat_lt, Option, Some, None, Ordering, Less, Equal, Greater, refl, ap, ◌∙◌, subst, arith, ℤ, pos, ◌&&◌, int_le}
use Rattle.std.specs.List.{AllByRecursion}
use Rattle.std.specs.List.Sorted.{IsStrictlySortedBy}
use Rattle.std.specs.Option.{ForSome, option_and_then}
use Rattle.std.specs.Ordering.{nat_cmp, ordering_reverse}
use Rattle.std.specs.Cmp.Lexicographic.{slice_cmp, nat_list_cmp_total}
use Rattle.jm_base.specs.UtcDates.{IsUtcDate}
use Rattle.jm_base.specs.declared.identifiers.UtcDate.{UtcDate}
use Rattle.jm_base.specs.declared.utc_dates.TheConstants.{FIRST_TIMESTAMP, LAST_TIMESTAMP}
use Rattle.mail_records.specs.declared.limits.TheConstants.{MAX_LINKS_PER_EMAIL}
use Rattle.mail_records.specs.Commits.{TextsRise}
use Rattle.mail_summary.specs.Links.{put, put_if_few, gathered, links, all_ids, is_short}
use Rattle.mail_summary.specs.Summaries.{summary, sent_by}
use Rattle.mime_words.specs.Words.{◌>>=◌}
use Rattle.std.proofs.lemmas.Int.{ints}
use Rattle.std.proofs.lemmas.Option.{same_Some}
use Rattle.header_forms.specs.declared.date_time.ZonedDateTime.{ZonedDateTime}
use Rattle.header_forms.specs.Dates.{if_in_range, date_time_in as moment_in, unix_seconds as moment_seconds, utc_of}
use Rattle.header_forms.specs.Texts.{on_one_line}
use Rattle.plan_promises.specs.Messages.{IsFormedSummary}

-- ---- links

abbrev AllAbove : List ℕ → List (List ℕ) → Type 0
AllAbove id = AllByRecursion (λ (x : List ℕ). slice_cmp nat_cmp id x ≡ Less)

turned : (x y : List ℕ) → slice_cmp nat_cmp x y ≡ Greater → slice_cmp nat_cmp y x ≡ Less
turned x y e = nat_list_cmp_total.antisymm y x ∙ ap ordering_reverse e

above_trans : (k l : List ℕ) (xs : List (List ℕ)) → slice_cmp nat_cmp k l ≡ Less → AllAbove l xs → AllAbove k xs
above_trans k l [] h all = tt
above_trans k l (x ∷ xs) h all = (nat_list_cmp_total.trans k l x h all.0, above_trans k l xs h all.1)

above_put_at : (o : Ordering) (a id x : List ℕ) (xs : List (List ℕ)) → slice_cmp nat_cmp id x ≡ o → slice_cmp nat_cmp a id ≡ Less → AllAbove a (x ∷ xs) → AllAbove a (put id xs) → AllAbove a (put id (x ∷ xs))
above_put_at Less a id x xs e h all more = rw e (h, all)
above_put_at Equal a id x xs e h all more = rw e all
above_put_at Greater a id x xs e h all more = rw e (all.0, more)

above_put : (a id : List ℕ) (xs : List (List ℕ)) → slice_cmp nat_cmp a id ≡ Less → AllAbove a xs → AllAbove a (put id xs)
above_put a id [] h all = (h, tt)
above_put a id (x ∷ xs) h all = above_put_at _ a id x xs refl h all (above_put a id xs h all.1)

rises_at : (o : Ordering) (id x : List ℕ) (xs : List (List ℕ)) → slice_cmp nat_cmp id x ≡ o → TextsRise (x ∷ xs) → TextsRise (put id xs) → TextsRise (put id (x ∷ xs))
unfolding IsStrictlySortedBy
rises_at Less id x xs e rise more = rw e ((e, above_trans id x xs e rise.0), rise)
rises_at Equal id x xs e rise more = rw e rise
rises_at Greater id x xs e rise more = rw e (above_put x id xs (turned id x e) rise.0, more)

put_rises : (id : List ℕ) (xs : List (List ℕ)) → TextsRise xs → TextsRise (put id xs)
unfolding IsStrictlySortedBy
put_rises id [] rise = (tt, tt)
put_rises id (x ∷ xs) rise = rises_at _ id x xs refl rise (put_rises id xs rise.1)

length_at : (o : Ordering) (id x : List ℕ) (xs : List (List ℕ)) → slice_cmp nat_cmp id x ≡ o → length (put id xs) ≤ length xs + 1 → length (put id (x ∷ xs)) ≤ length (x ∷ xs) + 1
length_at Less id x xs e more = rw e (omega arith)
length_at Equal id x xs e more = rw e (omega arith)
length_at Greater id x xs e more = rw e (omega arith)

put_length : (id : List ℕ) (xs : List (List ℕ)) → length (put id xs) ≤ length xs + 1
put_length id [] = omega arith
put_length id (x ∷ xs) = length_at _ id x xs refl (put_length id xs)

-- at most `MAX_LINKS_PER_EMAIL` texts that rise
pub record AreLinks (xs : List (List ℕ)) : Type 0 where
  pub few : length xs ≤ MAX_LINKS_PER_EMAIL
  pub rise : TextsRise xs

more_at : (b : Bool) (id : List ℕ) (kept : List (List ℕ)) → nat_lt (length kept) MAX_LINKS_PER_EMAIL ≡ b → AreLinks kept → AreLinks (cond b (put id kept) kept)
more_at true id kept e are =
    let room : length kept < MAX_LINKS_PER_EMAIL = omega (arith, ltb-true (length kept) MAX_LINKS_PER_EMAIL e) in
    let one = put_length id kept in
    record { few = omega (arith, one, room); rise = put_rises id kept are.rise }
more_at false id kept e are = are

gathered_links : (kept ids : List (List ℕ)) → AreLinks kept → AreLinks (gathered kept ids)
gathered_links kept [] are = are
gathered_links kept (id ∷ ids) are = gathered_links (put_if_few id kept) ids (more_at (nat_lt (length kept) MAX_LINKS_PER_EMAIL) id kept refl are)

no_links : AreLinks []
unfolding IsStrictlySortedBy
no_links = record { few = omega arith; rise = tt }

links_kept : (bytes : List ℕ) → AreLinks (links bytes)
links_kept bytes = gathered_links [] (filter is_short (all_ids bytes)) no_links

-- ---- dates

pub and_both : (a b : Bool) → (a && b) ≡ true → (a ≡ true) × (b ≡ true)
and_both true b e = (refl, e)
and_both false b e = absurd (cc)

le_of : (a b : ℤ) → int_le a b ≡ true → a ≤ℤ b
le_of a b e = grind (arith, ints)

dated_by : (b : Bool) (seconds : ℤ) → (int_le FIRST_TIMESTAMP seconds && int_le seconds (pos LAST_TIMESTAMP)) ≡ b → ForSome (cond b (Some (let d : UtcDate = record { seconds = seconds } in d)) None) IsUtcDate
dated_by false seconds e = λ d is. absurd (cc)
dated_by true seconds e =
    let both = and_both (int_le FIRST_TIMESTAMP seconds) (int_le seconds (pos LAST_TIMESTAMP)) e in
    λ d is. subst IsUtcDate (same_Some (let x : UtcDate = record { seconds = seconds } in x) d is) (record { not_before = le_of FIRST_TIMESTAMP seconds both.0; not_after = le_of seconds (pos LAST_TIMESTAMP) both.1 })

dated : (seconds : ℤ) → ForSome (if_in_range seconds) IsUtcDate
dated seconds = dated_by _ seconds refl

dated_moment : (o : Option ZonedDateTime) → ForSome (o >>= (λ (m : ZonedDateTime). if_in_range (moment_seconds m))) IsUtcDate
dated_moment None = λ d is. absurd (cc)
dated_moment (Some m) = dated (moment_seconds m)

dated_text : (text : List ℕ) → ForSome (utc_of text) IsUtcDate
dated_text text = dated_moment (moment_in text)

dated_value : (o : Option (List ℕ)) → ForSome (option_and_then sent_by o) IsUtcDate
dated_value None = λ d is. absurd (cc)
dated_value (Some value) = dated_text (on_one_line value)

-- ---- summaries

pub summary_formed : (bytes : List ℕ) → IsFormedSummary (summary bytes)
summary_formed bytes =
    let are = links_kept bytes in
    record { few_links = are.few; links_rise = are.rise; sent = dated_value _ }
