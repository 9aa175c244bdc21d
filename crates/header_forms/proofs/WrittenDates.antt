-- A date-time that is written is read back.
use Rattle.std.proofs.Common.{◌≡◌, ℕ, ◌+◌, ◌-◌, ◌*◌, ◌/◌, ◌%◌, ◌<◌, ◌≤◌, Bool, true, false, cond, eqb, leb, ltb, ◌&&◌, ◌||◌, not, List, [], ◌∷◌, ◌++◌, length, take, drop, map, Option, Some, None, option_map, min, refl, sym, ap, ◌∙◌, arith}
use Rattle.std.specs.Prelude.{ℤ, pos, slice_index_or}
use Rattle.std.specs.List.{list_all, prefix_len}
use Rattle.std.specs.Char.{is_ascii_digit}
use Rattle.std.proofs.lemmas.Bool.{le-leb, lt-ltb, true≢false}
use Rattle.std.proofs.lemmas.List.{append-nil, drop_all, drop_at, take_all, take_at}
use Rattle.jiff.specs.Words.{days_in_month, is_leap_year}
use Rattle.mime_lines.specs.Written.{is_inline}
use Rattle.mime_lines.proofs.Unfolds.{both_true, unfolded_alone}
use Rattle.mime_lines.specs.Lines.{unfolded}
use Rattle.mime_codec.proofs.Tables.{counted, for_below}
use Rattle.mime_words.specs.Words.{◌>>=◌}
use Rattle.mail_text.specs.declared.comment.State.TheVariants.{Outside}
use Rattle.header_forms.specs.declared.date_time.ZonedDateTime.{ZonedDateTime}
use Rattle.header_forms.specs.declared.date_time.ZoneOffset.{ZoneOffset}
use Rattle.header_forms.specs.declared.date_time.TimeOfDay.{TimeOfDay}
use Rattle.header_forms.specs.Texts.{on_one_line}
use Rattle.header_forms.specs.Dates.{Read, all_words, with_byte, read_from, words_of, name_number, months, is_comma, without_weekday, value_from, number_in, full_year, year_in, if_time, time_by, time_in, offset_by, zone_in, if_day, IsReal, date_time_by, date_time_of_words, date_time_in, two_digits}
use Rattle.header_forms.specs.DateWords.{is_in_word, starts_word}
use Rattle.header_forms.specs.WrittenForms.{month_names, zone_text, date_value, IsDateTime}
use Rattle.header_forms.proofs.DateSplit.{word_split}
use Rattle.header_forms.proofs.WrittenTexts.{both_all, is_written, yes, raw_back}

-- ---- words

-- white space before words
space_passed : (x : Option Read) → option_map all_words (option_map (with_byte Outside 32) x) ≡ option_map all_words x
space_passed None = refl
space_passed (Some r) = refl

after_space : (text : List ℕ) → words_of (32 ∷ text) ≡ words_of text
after_space text = space_passed (read_from text Outside)

word_len : (w : List ℕ) (rest : List ℕ) → list_all is_in_word w ≡ true → prefix_len is_in_word (w ++ 32 ∷ rest) ≡ length w
word_len [] rest h = refl
word_len (b ∷ bs) rest h =
    let parts = both_true (is_in_word b) (list_all is_in_word bs) h in
    let later = word_len bs rest parts.1 in
    rw parts.0 (omega (arith, later))

all_len : (w : List ℕ) → list_all is_in_word w ≡ true → prefix_len is_in_word w ≡ length w
all_len [] h = refl
all_len (b ∷ bs) h =
    let parts = both_true (is_in_word b) (list_all is_in_word bs) h in
    let later = all_len bs parts.1 in
    rw parts.0 (omega (arith, later))

-- one or more characters of a word
record IsWord (w : List ℕ) : Type 0 where
  some : 0 < length w
  each : list_all is_in_word w ≡ true

begins : (w rest : List ℕ) → IsWord w → starts_word (w ++ rest) ≡ true
begins [] rest h = absurd (omega (arith, h.some))
begins (b ∷ bs) rest h = (both_true (is_in_word b) (list_all is_in_word bs) h.each).0

abbrev with_word : List ℕ → Option (List (List ℕ)) → Option (List (List ℕ))
with_word w x = option_map (λ later. w ∷ later) x

one_word : (w rest : List ℕ) → IsWord w → words_of (w ++ 32 ∷ rest) ≡ with_word w (words_of rest)
one_word w rest h =
    let text = w ++ 32 ∷ rest in
    let size = word_len w rest h.each in
    word_split text (begins w (32 ∷ rest) h)
    ∙ ap (λ n. with_word (take n text) (words_of (drop n text))) size
    ∙ ap (λ t. with_word t (words_of (drop (length w) text))) (take_at w (32 ∷ rest) (length w) refl)
    ∙ ap (λ t. with_word w (words_of t)) (drop_at w (32 ∷ rest) (length w) refl)
    ∙ ap (with_word w) (after_space rest)

last_word : (w : List ℕ) → IsWord w → words_of w ≡ Some (w ∷ [])
last_word w h =
    let start : starts_word w ≡ true = ap starts_word (sym (append-nil w)) ∙ begins w [] h in
    word_split w start
    ∙ ap (λ n. with_word (take n w) (words_of (drop n w))) (all_len w h.each)
    ∙ ap (λ t. with_word t (words_of (drop (length w) w))) (take_all (length w) w (omega arith))
    ∙ ap (λ t. with_word w (words_of t)) (drop_all (length w) w (omega arith))

-- ---- numbers

abbrev digit : ℕ → ℕ
digit n = 48 + n

abbrev is_digit_good : ℕ → Bool
is_digit_good n = is_ascii_digit (digit n)

abbrev is_digit_in_word : ℕ → Bool
is_digit_in_word n = is_in_word (digit n)

abbrev is_digit_written : ℕ → Bool
is_digit_written n = is_written (digit n)

abbrev is_digit_inline : ℕ → Bool
is_digit_inline n = is_inline (digit n)

digits_good : map is_digit_good (counted 0 10) ≡ map yes (counted 0 10)
digits_good = refl

digits_in_word : map is_digit_in_word (counted 0 10) ≡ map yes (counted 0 10)
digits_in_word = refl

digits_written : map is_digit_written (counted 0 10) ≡ map yes (counted 0 10)
digits_written = refl

digits_inline : map is_digit_inline (counted 0 10) ≡ map yes (counted 0 10)
digits_inline = refl

-- digits
two_all : (test : ℕ → Bool) → ((n : ℕ) → n < 10 → test (digit n) ≡ true) → (n : ℕ) → list_all test (two_digits n) ≡ true
two_all test pass n = rw (pass (n / 10 % 10) (omega arith), pass (n % 10) (omega arith)) refl

good : (n : ℕ) → n < 10 → is_ascii_digit (digit n) ≡ true
good n h = for_below is_digit_good yes false 10 digits_good n h

in_word : (n : ℕ) → n < 10 → is_in_word (digit n) ≡ true
in_word n h = for_below is_digit_in_word yes false 10 digits_in_word n h

written : (n : ℕ) → n < 10 → is_written (digit n) ≡ true
written n h = for_below is_digit_written yes false 10 digits_written n h

inline : (n : ℕ) → n < 10 → is_inline (digit n) ≡ true
inline n h = for_below is_digit_inline yes false 10 digits_inline n h

two_value : (n : ℕ) → n < 100 → value_from 0 (two_digits n) ≡ n
two_value n h = omega arith

four_value : (a b : ℕ) → a < 100 → b < 100 → value_from 0 (two_digits a ++ two_digits b) ≡ a * 100 + b
four_value a b h k = omega arith

number_two : (least n : ℕ) → least ≤ 2 → n < 100 → number_in least 2 (two_digits n) ≡ Some n
number_two least n low h =
    ap (λ v. cond (v && (leb least 2 && leb 2 2)) (Some (value_from 0 (two_digits n))) None) (two_all is_ascii_digit good n)
    ∙ ap (λ v. cond (v && true) (Some (value_from 0 (two_digits n))) None) (le-leb least 2 low)
    ∙ ap (λ v. Some v) (two_value n h)

four_all : (test : ℕ → Bool) → ((n : ℕ) → n < 10 → test (digit n) ≡ true) → (a b : ℕ) → list_all test (two_digits a ++ two_digits b) ≡ true
four_all test pass a b = both_all test (two_digits a) (two_digits b) (two_all test pass a) (two_all test pass b)

number_four : (least a b : ℕ) → least ≤ 4 → a < 100 → b < 100 → number_in least 4 (two_digits a ++ two_digits b) ≡ Some (a * 100 + b)
number_four least a b low h k =
    let text = two_digits a ++ two_digits b in
    ap (λ v. cond (v && (leb least 4 && leb 4 4)) (Some (value_from 0 text)) None) (four_all is_ascii_digit good a b)
    ∙ ap (λ v. cond (v && true) (Some (value_from 0 text)) None) (le-leb least 4 low)
    ∙ ap (λ v. Some v) (four_value a b h k)

-- ---- the parts of a date-time

abbrev month_text : ℕ → List ℕ
month_text k = slice_index_or month_names k []

abbrev month_read : ℕ → Option ℕ
month_read k = name_number months 1 (month_text k)

abbrev next : ℕ → Option ℕ
next k = Some (k + 1)

months_read : map month_read (counted 0 12) ≡ map next (counted 0 12)
months_read = refl

month_back : (m : ℕ) → 1 ≤ m → m ≤ 12 → name_number months 1 (month_text (m - 1)) ≡ Some m
month_back m low high =
    let same : m - 1 + 1 ≡ m = omega arith in
    for_below month_read next None 12 months_read (m - 1) (omega arith) ∙ ap (λ n. Some n) same

abbrev month_good : ℕ → Bool
month_good k = not (is_comma (month_text k)) && (list_all is_in_word (month_text k) && (not (eqb (length (month_text k)) 0) && (list_all is_written (month_text k) && list_all is_inline (month_text k))))

months_good : map month_good (counted 0 12) ≡ map yes (counted 0 12)
months_good = refl

-- what is known of the text of a month
record Month (t : List ℕ) : Type 0 where
  comma : is_comma t ≡ false
  word : IsWord t
  written : list_all is_written t ≡ true
  inline : list_all is_inline t ≡ true

not_true : (p : Bool) → not p ≡ true → p ≡ false
not_true true h = absurd (true≢false (sym h))
not_true false h = refl

not_empty : (t : List ℕ) → not (eqb (length t) 0) ≡ true → 0 < length t
not_empty [] h = absurd (true≢false (sym h))
not_empty (b ∷ bs) h = omega arith

month_is : (k : ℕ) → k < 12 → Month (month_text k)
month_is k h =
    let t = month_text k in
    let one = both_true (not (is_comma t)) (list_all is_in_word t && (not (eqb (length t) 0) && (list_all is_written t && list_all is_inline t))) (for_below month_good yes false 12 months_good k h) in
    let two = both_true (list_all is_in_word t) (not (eqb (length t) 0) && (list_all is_written t && list_all is_inline t)) one.1 in
    let three = both_true (not (eqb (length t) 0)) (list_all is_written t && list_all is_inline t) two.1 in
    let four = both_true (list_all is_written t) (list_all is_inline t) three.1 in
    record { comma = not_true (is_comma t) one.0; word = record { some = not_empty t three.0; each = two.0 }; written = four.0; inline = four.1 }

year_back : (y : ℕ) → y ≤ 9999 → year_in (two_digits (y / 100) ++ two_digits y) ≡ Some y
year_back y h =
    let text = two_digits (y / 100) ++ two_digits (y % 100) in
    let same : two_digits (y / 100) ++ two_digits y ≡ text =
    let tens : y / 10 % 10 ≡ y % 100 / 10 % 10 = omega arith in
    let ones : y % 10 ≡ y % 100 % 10 = omega arith in
    ap (λ d. two_digits (y / 100) ++ (48 + d) ∷ (48 + y % 10) ∷ []) tens ∙ ap (λ d. two_digits (y / 100) ++ (48 + y % 100 / 10 % 10) ∷ (48 + d) ∷ []) ones in
    let all : y / 100 * 100 + y % 100 ≡ y = omega arith in
    ap year_in same
    ∙ ap (option_map (full_year 4)) (number_four 2 (y / 100) (y % 100) (omega arith) (omega arith) (omega arith))
    ∙ ap (λ n. Some n) all

abbrev time_of : ℕ → ℕ → ℕ → TimeOfDay
time_of h m s = record { hour = h; minute = m; second = s }

abbrev clock : ℕ → ℕ → ℕ → List ℕ
clock h m s = two_digits h ++ 58 ∷ (two_digits m ++ 58 ∷ two_digits s)

time_known : (h m s : ℕ) → h < 24 → m < 60 → s < 60 → if_time h m s ≡ Some (time_of h m s)
time_known h m s p q r =
    let last : min s 59 ≡ s = omega arith in
    ap (λ v. cond (v && (ltb m 60 && leb s 60)) (Some (time_of h m (min s 59))) None) (lt-ltb h 24 p)
    ∙ ap (λ v. cond (v && leb s 60) (Some (time_of h m (min s 59))) None) (lt-ltb m 60 q)
    ∙ ap (λ v. cond v (Some (time_of h m (min s 59))) None) (le-leb s 60 (omega arith))
    ∙ ap (λ n. Some (time_of h m n)) last

time_back : (h m s : ℕ) → h < 24 → m < 60 → s < 60 → time_in (clock h m s) ≡ Some (time_of h m s)
unfolding time_by
time_back h m s p q r =
    ap (λ o. o >>= (λ h. number_in 2 2 (two_digits m) >>= (λ m. number_in 2 2 (two_digits s) >>= if_time h m))) (number_two 2 h (omega arith) (omega arith))
    ∙ ap (λ o. o >>= (λ m. number_in 2 2 (two_digits s) >>= if_time h m)) (number_two 2 m (omega arith) (omega arith))
    ∙ ap (λ o. o >>= if_time h m) (number_two 2 s (omega arith) (omega arith))
    ∙ time_known h m s p q r

abbrev offset : Bool → ℕ → ZoneOffset
offset behind minutes = record { behind = behind; minutes = minutes }

offset_back : (behind : Bool) (n : ℕ) → n < 6000 → offset_by behind (number_in 4 4 (two_digits (n / 60) ++ two_digits (n % 60))) ≡ Some (offset behind n)
offset_back behind n h =
    let k = n / 60 * 100 + n % 60 in
    let minute : k % 100 < 60 = omega arith in
    let all : k / 100 * 60 + k % 100 ≡ n = omega arith in
    ap (offset_by behind) (number_four 4 (n / 60) (n % 60) (omega arith) (omega arith) (omega arith))
    ∙ ap (λ v. cond v (Some (offset behind (k / 100 * 60 + k % 100))) None) (lt-ltb (k % 100) 60 minute)
    ∙ ap (λ n. Some (offset behind n)) all

zone_back : (behind : Bool) (n : ℕ) → n < 6000 → zone_in (zone_text behind n) ≡ Some (offset behind n)
zone_back true n h = offset_back true n h
zone_back false n h = offset_back false n h

-- ---- the whole

abbrev day_word : ZonedDateTime → List ℕ
day_word m = two_digits m.day

abbrev month_word : ZonedDateTime → List ℕ
month_word m = month_text (m.month - 1)

abbrev year_word : ZonedDateTime → List ℕ
year_word m = two_digits (m.year / 100) ++ two_digits m.year

abbrev time_word : ZonedDateTime → List ℕ
time_word m = clock m.time.hour m.time.minute m.time.second

abbrev zone_word : ZonedDateTime → List ℕ
zone_word m = zone_text m.offset.behind m.offset.minutes

two_word : (n : ℕ) → IsWord (two_digits n)
two_word n = record { some = omega arith; each = two_all is_in_word in_word n }

colon_onto : (test : ℕ → Bool) → test 58 ≡ true → (a b : List ℕ) → list_all test a ≡ true → list_all test b ≡ true → list_all test (a ++ 58 ∷ b) ≡ true
colon_onto test c a b h k = both_all test a (58 ∷ b) h (rw c k)

clock_all : (test : ℕ → Bool) → ((n : ℕ) → n < 10 → test (digit n) ≡ true) → test 58 ≡ true → (h m s : ℕ) → list_all test (clock h m s) ≡ true
clock_all test pass c h m s =
    colon_onto test c (two_digits h) (two_digits m ++ 58 ∷ two_digits s) (two_all test pass h)
    (colon_onto test c (two_digits m) (two_digits s) (two_all test pass m) (two_all test pass s))

zone_all : (test : ℕ → Bool) → ((n : ℕ) → n < 10 → test (digit n) ≡ true) → test 43 ≡ true → test 45 ≡ true → (behind : Bool) (n : ℕ) → list_all test (zone_text behind n) ≡ true
zone_all test pass p q true n = rw q (four_all test pass (n / 60) (n % 60))
zone_all test pass p q false n = rw p (four_all test pass (n / 60) (n % 60))

month_at : (m : ZonedDateTime) → IsDateTime m → Month (month_word m)
month_at m h = let low = h.real.from_month in let high = h.real.to_month in month_is (m.month - 1) (omega arith)

words_back : (m : ZonedDateTime) → IsDateTime m → words_of (date_value m) ≡ Some (day_word m ∷ month_word m ∷ year_word m ∷ time_word m ∷ zone_word m ∷ [])
words_back m h =
    let z = zone_word m in
    let t = time_word m ++ 32 ∷ z in
    let y = year_word m ++ 32 ∷ t in
    let n = month_word m ++ 32 ∷ y in
    after_space (day_word m ++ 32 ∷ n)
    ∙ one_word (day_word m) n (two_word m.day)
    ∙ ap (with_word (day_word m)) (one_word (month_word m) y (month_at m h).word
    ∙ ap (with_word (month_word m)) (one_word (year_word m) t (record { some = omega arith; each = four_all is_in_word in_word (m.year / 100) m.year })
    ∙ ap (with_word (year_word m)) (one_word (time_word m) z (record { some = omega arith; each = clock_all is_in_word in_word refl m.time.hour m.time.minute m.time.second })
    ∙ ap (with_word (time_word m)) (last_word z (record { some = omega arith; each = zone_all is_in_word in_word refl refl m.offset.behind m.offset.minutes })))))

days_most : (p q r : Bool) → cond p (cond q 29 28) (cond r 30 31) ≤ 31
days_most true true r = omega arith
days_most true false r = omega arith
days_most false q true = omega arith
days_most false q false = omega arith

month_days : (y : ℤ) (m : ℕ) → days_in_month y m ≤ 31
month_days y m = days_most (eqb m 2) (is_leap_year y) ((eqb m 4) || (eqb m 6) || (eqb m 9) || (eqb m 11))

day_known : (m : ZonedDateTime) → IsReal m → if_day m ≡ Some m
day_known m r =
    ap (λ v. cond (v && leb m.day (days_in_month (pos m.year) m.month)) (Some m) None) (le-leb 1 m.day r.from_day)
    ∙ ap (λ v. cond v (Some m) None) (le-leb m.day (days_in_month (pos m.year) m.month) r.to_day)

abbrev made : ℕ → ℕ → ℕ → TimeOfDay → ZoneOffset → Option ZonedDateTime
made d n y t z = if_day (record { year = y; month = n; day = d; time = t; offset = z })

by_words : (m : ZonedDateTime) → IsDateTime m → date_time_by (day_word m) (month_word m) (year_word m) (time_word m) (zone_word m) ≡ Some m
unfolding date_time_by
by_words m h =
    let r = h.real in
    let most = month_days (pos m.year) m.month in
    let last = r.to_day in
    let small : m.day < 100 = omega (arith, most, last) in
    let to_year = r.to_year in
    ap (λ o. o >>= (λ d. name_number months 1 (month_word m) >>= (λ n. year_in (year_word m) >>= (λ y. time_in (time_word m) >>= (λ t. zone_in (zone_word m) >>= made d n y t)))))
    (number_two 1 m.day (omega arith) small)
    ∙ ap (λ o. o >>= (λ n. year_in (year_word m) >>= (λ y. time_in (time_word m) >>= (λ t. zone_in (zone_word m) >>= made m.day n y t))))
    (month_back m.month r.from_month r.to_month)
    ∙ ap (λ o. o >>= (λ y. time_in (time_word m) >>= (λ t. zone_in (zone_word m) >>= made m.day m.month y t))) (year_back m.year to_year)
    ∙ ap (λ o. o >>= (λ t. zone_in (zone_word m) >>= made m.day m.month m.year t)) (time_back m.time.hour m.time.minute m.time.second h.hour h.minute h.second)
    ∙ ap (λ o. o >>= made m.day m.month m.year m.time) (zone_back m.offset.behind m.offset.minutes h.offset)
    ∙ day_known m r

-- on one line
space_onto : (test : ℕ → Bool) → test 32 ≡ true → (a b : List ℕ) → list_all test a ≡ true → list_all test b ≡ true → list_all test (a ++ 32 ∷ b) ≡ true
space_onto test c a b h k = both_all test a (32 ∷ b) h (rw c k)

-- a test that the signs of a date pass
record SignsPass (test : ℕ → Bool) : Type 0 where
  digits : (n : ℕ) → n < 10 → test (digit n) ≡ true
  space : test 32 ≡ true
  plus : test 43 ≡ true
  minus : test 45 ≡ true
  colon : test 58 ≡ true

date_all : (test : ℕ → Bool) (m : ZonedDateTime) → SignsPass test → list_all test (month_word m) ≡ true → list_all test (date_value m) ≡ true
date_all test m p named =
    let z = zone_word m in
    let t = time_word m ++ 32 ∷ z in
    let y = year_word m ++ 32 ∷ t in
    space_onto test p.space [] (day_word m ++ 32 ∷ (month_word m ++ 32 ∷ y)) refl
    (space_onto test p.space (day_word m) (month_word m ++ 32 ∷ y) (two_all test p.digits m.day)
    (space_onto test p.space (month_word m) y named
    (space_onto test p.space (year_word m) t (four_all test p.digits (m.year / 100) m.year)
    (space_onto test p.space (time_word m) z (clock_all test p.digits p.colon m.time.hour m.time.minute m.time.second)
    (zone_all test p.digits p.plus p.minus m.offset.behind m.offset.minutes)))))

pub date_inline : (m : ZonedDateTime) → IsDateTime m → list_all is_inline (date_value m) ≡ true
date_inline m h = date_all is_inline m (record { digits = inline; space = refl; plus = refl; minus = refl; colon = refl }) (month_at m h).inline

date_line : (m : ZonedDateTime) → IsDateTime m → on_one_line (date_value m) ≡ date_value m
date_line m h =
    ap unfolded (raw_back (date_value m) (date_all is_written m (record { digits = written; space = refl; plus = refl; minus = refl; colon = refl }) (month_at m h).written))
    ∙ unfolded_alone (date_value m) (date_inline m h)

no_weekday : (d n : List ℕ) (rest : List (List ℕ)) → is_comma n ≡ false → without_weekday (d ∷ n ∷ rest) ≡ Some (d ∷ n ∷ rest)
no_weekday d n rest h = rw h refl

pub date_back : (m : ZonedDateTime) → IsDateTime m → date_time_in (on_one_line (date_value m)) ≡ Some m
unfolding date_time_in
date_back m h =
    let rest = year_word m ∷ time_word m ∷ zone_word m ∷ [] in
    ap date_time_in (date_line m h)
    ∙ ap (λ o. o >>= (λ words. without_weekday words >>= date_time_of_words)) (words_back m h)
    ∙ ap (λ o. o >>= date_time_of_words) (no_weekday (day_word m) (month_word m) rest (month_at m h).comma)
    ∙ by_words m h
