-- The dates and the identifiers of a draft can be written.
use Rattle.std.proofs.Common.{◌≡◌, ℕ, ◌+◌, ◌*◌, ◌/◌, ◌%◌, ◌<◌, ◌≤◌, ◌^◌, true, false, cond, leb, ◌&&◌, ◌||◌, List, [], ◌∷◌, ◌++◌, map, min, Option, None, Some, codes, refl, sym, ap, ◌∙◌, arith}
use Rattle.std.specs.Prelude.{pos}
use Rattle.std.specs.List.{AllByRecursion, list_all}
use Rattle.std.specs.Fmt.{decimal}
use Rattle.std.proofs.lemmas.Bool.{true≢false, leb-true, ltb-true}
use Rattle.std.proofs.lemmas.Fmt.{decimal_digit}
use lib.Dec.{T, ltb}
use Rattle.std.proofs.Math.Facts.{yes_leb}
use Rattle.jm_json.specs.Tree.{Tree, null, boolean, number, text, list, object}
use Rattle.jm_json.specs.Find.{find}
use Rattle.jm_base.specs.UtcDates.{DateTime as UtcTime, IsUtcDate, date_time_at as utc_time_at, date_time_text, two_at, two_digits}
use Rattle.jm_base.specs.declared.identifiers.UtcDate.{UtcDate}
use Rattle.jm_base.specs.declared.utc_dates.TheConstants.{LAST_TIMESTAMP}
use Rattle.jm_base.proofs.WrittenDates.{date_reads_back}
use Rattle.mime_lines.proofs.Unfolds.{both_true}
use Rattle.mime_type.specs.HeadText.{IfThere, IsOtherField}
use Rattle.mime_type.proofs.WrittenFields.{both_all}
use Rattle.mime_tree.proofs.KnownLines.{decimal_digits, is_digit}
use Rattle.header_forms.specs.WrittenForms.{IsDateTime, IsId, is_id_character}
use Rattle.header_forms.proofs.WrittenFolds.{date_folded}
use Rattle.header_forms.proofs.WrittenTexts.{all_weaker, by_table}
use Rattle.mime_writer.specs.DateTimes.{zoned}
use Rattle.mime_writer.specs.declared.dates.DateTime.{DateTime}
use Rattle.draft_form.specs.Dates.{date_time_at, is_day, is_time}
use Rattle.draft_form.specs.Drafts.{bad_names, draft_in, may_be}
use Rattle.draft_form.specs.Headers.{date_of, given_date, given_id, is_date, is_value}
use Rattle.draft_form.specs.Members.{is_null, list_items, texts_in}
use Rattle.draft_form.specs.declared.draft.FieldValue.TheVariants.{OfIdentifiers}
use Rattle.draft_form.specs.declared.draft.ValueForm.TheVariants.{Identifiers}
use Rattle.draft_writer.specs.Fields.{date_field, date_or, field_of, id_field, ids_or, message_fields, moment_date, own_id, version_field}
use Rattle.draft_writer.specs.ReadBack.{IsTextDraft}
use Rattle.draft_writer.proofs.FieldsFit.{IsGoodValue, all_both, field_other, fields_other, first_good, later_good, value_good}
use Rattle.draft_writer.proofs.PartsFit.{sent_good}

-- ---- dates

date_fit : (d : DateTime) → is_day d ≡ true → is_time d ≡ true → IsDateTime (zoned d)
date_fit d h k =
    let year = leb 1900 d.year && leb d.year 9999 in
    let month = leb 1 d.month && leb d.month 12 in
    let a = both_true (year && month) _ h in
    let b = both_true year month a.0 in
    let y = both_true (leb 1900 d.year) (leb d.year 9999) b.0 in
    let m = both_true (leb 1 d.month) (leb d.month 12) b.1 in
    let q = both_true (leb 1 d.day) _ a.1 in
    let t1 = both_true (ltb d.hour 24) (ltb d.minute 60 && (ltb d.second 60 && ltb d.offset 6000)) k in
    let t2 = both_true (ltb d.minute 60) (ltb d.second 60 && ltb d.offset 6000) t1.1 in
    let t3 = both_true (ltb d.second 60) (ltb d.offset 6000) t2.1 in
    record {
      real = record {
        to_year = leb-true d.year 9999 y.1;
        from_month = leb-true 1 d.month m.0;
        to_month = leb-true d.month 12 m.1;
        from_day = leb-true 1 d.day q.0;
        to_day = leb-true d.day _ q.1;
      };
      hour = ltb-true d.hour 24 t1.0;
      minute = ltb-true d.minute 60 t2.0;
      second = ltb-true d.second 60 t3.0;
      offset = ltb-true d.offset 6000 t3.1;
    }

sent_fit : (t : Tree) → is_date t ≡ true → IsDateTime (zoned (date_of t))
sent_fit null h = absurd (true≢false (sym h))
sent_fit (boolean b) h = absurd (true≢false (sym h))
sent_fit (number z) h = absurd (true≢false (sym h))
sent_fit (text s) h =
    let d = date_time_at s in
    let a = both_true (is_day d && is_time d) _ h in
    let b = both_true (is_day d) (is_time d) a.0 in
    date_fit d b.0 b.1
sent_fit (list ts) h = absurd (true≢false (sym h))
sent_fit (object fs) h = absurd (true≢false (sym h))

-- the date of a moment

abbrev pair : ℕ → List ℕ
pair n = (48 + n / 10 % 10) ∷ (48 + n % 10) ∷ []

two_is : (n : ℕ) → two_digits n ≡ pair n
two_is n =
    ap (λ t. t ++ decimal (n % 10)) (decimal_digit (n / 10 % 10) (omega arith))
    ∙ ap (λ t. (48 + n / 10 % 10) ∷ t) (decimal_digit (n % 10) (omega arith))

abbrev laid : List ℕ → List ℕ → List ℕ → List ℕ → List ℕ → List ℕ → List ℕ → List ℕ
laid a b m d h i s = (a ++ b ++ codes "-" ++ m ++ codes "-" ++ d) ++ codes "T" ++ (h ++ codes ":" ++ i ++ codes ":" ++ s) ++ codes "Z"

abbrev offset_in : List ℕ → ℕ
offset_in t = two_at 20 t * 60 + two_at 23 t

no_offset : (c : UtcTime) → offset_in (date_time_text c) ≡ 0
no_offset c =
    let y = two_digits c.year in
    let m = two_digits c.month in
    let d = two_digits c.day in
    let h = two_digits c.hour in
    let i = two_digits c.minute in
    let s = two_digits c.second in
    ap (λ t. offset_in (laid t y m d h i s)) (two_is (c.year / 100))
    ∙ ap (λ t. offset_in (laid (pair (c.year / 100)) t m d h i s)) (two_is c.year)
    ∙ ap (λ t. offset_in (laid (pair (c.year / 100)) (pair c.year) t d h i s)) (two_is c.month)
    ∙ ap (λ t. offset_in (laid (pair (c.year / 100)) (pair c.year) (pair c.month) t h i s)) (two_is c.day)
    ∙ ap (λ t. offset_in (laid (pair (c.year / 100)) (pair c.year) (pair c.month) (pair c.day) t i s)) (two_is c.hour)
    ∙ ap (λ t. offset_in (laid (pair (c.year / 100)) (pair c.year) (pair c.month) (pair c.day) (pair c.hour) t s)) (two_is c.minute)
    ∙ ap (λ t. offset_in (laid (pair (c.year / 100)) (pair c.year) (pair c.month) (pair c.day) (pair c.hour) (pair c.minute) t)) (two_is c.second)

abbrev date_of_moment : ℕ → UtcDate
date_of_moment moment = record { seconds = pos (min moment LAST_TIMESTAMP) }

is_utc : (moment : ℕ) → IsUtcDate (date_of_moment moment)
is_utc moment = record { not_before = omega arith; not_after = omega (arith, below) }
  where
    below : (a b : ℕ) → a ≤ b → T (leb a b)
    below a b h = yes_leb h

moment_fit : (moment : ℕ) → IsDateTime (zoned (moment_date moment))
moment_fit moment =
    let date = date_of_moment moment in
    let is = (date_reads_back date (is_utc moment)).date_time in
    let none = no_offset (utc_time_at date.seconds) in
    record {
      real = record { to_year = is.day.to_year; from_month = is.day.from_month; to_month = is.day.to_month; from_day = is.day.from_day; to_day = is.day.to_day };
      hour = omega (arith, is.time.to_hour);
      minute = omega (arith, is.time.to_minute);
      second = omega (arith, is.time.to_second);
      offset = omega (arith, none);
    }

pub date_or_fit : (moment : ℕ) (o : Option Tree) → IfThere (λ t. (is_null t || is_date t) ≡ true) o → IsDateTime (zoned (date_or moment (given_date o)))
date_or_fit moment None h = moment_fit moment
date_or_fit moment (Some t) h = elim (is_null t) as (λ v. (v || is_date t) ≡ true → IsDateTime (zoned (date_or moment (cond v None (Some (date_of t)))))) [
  | true ↦ λ _. moment_fit moment
  | false ↦ λ k. sent_fit t k
] h

-- ---- identifiers

digit_id : (b : ℕ) → is_digit b ≡ true → is_id_character b ≡ true
digit_id b h = by_table is_digit is_id_character refl b (omega (arith, leb-true b 57 (both_true (leb 48 b) (leb b 57) h).1)) h

digits_id : (n : ℕ) → n < 2 ^ 64 → list_all is_id_character (decimal n) ≡ true
digits_id n h = all_weaker is_digit is_id_character digit_id (decimal n) (decimal_digits n h)

own_fit : (n m : ℕ) → n < 2 ^ 64 → m < 2 ^ 64 → IsId (own_id n m)
own_fit n m h k = record {
  some = omega arith;
  each = both_all is_id_character (codes "e") (decimal n ++ (codes "." ++ (decimal m ++ codes "@jmap.invalid"))) refl
      (both_all is_id_character (decimal n) (codes "." ++ (decimal m ++ codes "@jmap.invalid")) (digits_id n h)
      (both_all is_id_character (codes ".") (decimal m ++ codes "@jmap.invalid") refl
      (both_all is_id_character (decimal m) (codes "@jmap.invalid") (digits_id m k) refl)));
}

pub ids_or_fit : (n m : ℕ) (o : Option Tree) → n < 2 ^ 64 → m < 2 ^ 64 → IfThere (λ t. may_be Identifiers t ≡ true) o → IsGoodValue (OfIdentifiers (ids_or n m (given_id o)))
ids_or_fit n m None h k i = (omega arith, (own_fit n m h k, tt))
ids_or_fit n m (Some t) h k i = elim (is_null t) as (λ v. (v || is_value Identifiers t) ≡ true → IsGoodValue (OfIdentifiers (ids_or n m (cond v None (Some (texts_in (list_items t))))))) [
  | true ↦ λ _. (omega arith, (own_fit n m h k, tt))
  | false ↦ λ j. value_good Identifiers t j tt
] i

-- ---- all fields

pub message_other : (ms : List (List ℕ × Tree)) (n m : ℕ) → bad_names ms ≡ [] → IsTextDraft ms → n < 2 ^ 64 → m < 2 ^ 64
    → AllByRecursion IsOtherField (message_fields (draft_in ms) n m)
message_other ms n m h u low small =
    let d = draft_in ms in
    let date = date_or_fit m (find (codes "sentAt") ms) (sent_good ms (codes "sentAt") (λ t. (is_null t || is_date t) ≡ true) h (λ t k. k) (find (codes "sentAt") ms) refl) in
    let ids = ids_or_fit n m (find (codes "messageId") ms) low small
    (sent_good ms (codes "messageId") (λ t. may_be Identifiers t ≡ true) h (λ t k. k) (find (codes "messageId") ms) refl) in
    let date_other : IsOtherField (date_field (date_or m d.date)) =
    record { field = record { some = omega arith; name = refl; value = date_folded (zoned (date_or m d.date)) date }; other = refl } in
    let id_other : IsOtherField (field_of (id_field (ids_or n m d.message_id))) =
    field_other (id_field (ids_or n m d.message_id)) (record { name = record { some = omega arith; each = refl; other = refl }; value = ids }) in
    let version_other : IsOtherField version_field = record { field = record { some = omega arith; name = refl; value = refl }; other = refl } in
    all_both IsOtherField (map field_of d.first) (date_field (date_or m d.date) ∷ field_of (id_field (ids_or n m d.message_id)) ∷ (map field_of d.later ++ version_field ∷ []))
    (fields_other d.first (first_good ms h u.first))
    (date_other, (id_other, all_both IsOtherField (map field_of d.later) (version_field ∷ []) (fields_other d.later (later_good ms h u.later)) (version_other, tt)))
