-- Blobs, truth values, optional values, dates and tags: they are read exactly.
use Rattle.std.proofs.Common.{◌≡◌, ℕ, zero, suc, ◌+◌, ◌-◌, ◌<◌, ◌≤◌, Bool, true, false, cond, ◌||◌, ltb, eqb, List, [], ◌∷◌, ◌++◌, length, take, drop, Option, None, Some, Ok, Err, ℤ, pos, negsuc, ◌≤ℤ◌, refl, sym, ap, subst, ◌∙◌, inl, inr, length-append, arith, lit<, lit≤}
use Rattle.std.specs.Option.{ForSome}
use Rattle.std.proofs.Math.Facts.{leb_yes}
use Rattle.std.proofs.lemmas.Int.{ints}
use Rattle.std.proofs.lemmas.Bool.{true≢false, cases_lt, cases_eq, or_parts, eqb-false, ltb-false, lt-ltb, le-ltb, le-leb, lt-leb, ne_eqb}
use Rattle.std.proofs.lemmas.List.{take-append-drop, length-take}
use Rattle.jm_base.specs.declared.identifiers.UtcDate.{UtcDate}
use Rattle.jm_base.specs.UtcDates.{IsUtcDate}
use Rattle.jm_base.specs.declared.utc_dates.TheConstants.{FIRST_TIMESTAMP, LAST_TIMESTAMP}
use Rattle.record_codec.specs.Offsets.{AreBytes}
use Rattle.record_codec.specs.Encoding.{number, blob, truth, optional, since_year_one, date}
use Rattle.record_codec.specs.Widths.{FitsIn64Bits, LengthFitsIn64Bits}
use Rattle.record_codec.specs.Reading.{Read, then}
use Rattle.record_codec.specs.Readers.{number_at, number_between, truth_at, optional_at, tag_at, date_from, date_at, bytes_at, blob_at}
use Rattle.record_codec.specs.declared.write_fields.TheConstants.{LAST_SECOND, SECONDS_BEFORE_1970}
use Rattle.record_codec.proofs.OneForm.{OneForm, number_one, blob_one, truth_one, optional_one}
use Rattle.record_codec.proofs.Exact.{IsInput, bytes_left, bytes_both, Stops, stops_later, stops_here, stops_short, Encoded, Exact, Field, ok_is, ok_no_err, bind_ok, bind_err, then_exact, made_exact, made_field}
use Rattle.record_codec.proofs.Items.{exact_same, second_of}
use Rattle.record_codec.proofs.Between.{IsWithin, number_exact, between_exact, between_one, zeros, zeros_long, zeros_bytes}

abbrev failed : {A : Type 0} → ℕ → Read A
failed left = Err left

failed_is : {A : Type 0} (d left : ℕ) → failed {A = A} d ≡ failed {A = A} left → d ≡ left
failed_is d left e = cc

failed_no : {A : Type 0} (d : ℕ) (x : A × List ℕ) → failed {A = A} d ≡ Ok x → ⊥
failed_no d x e = cc

pub number_field : Field FitsIn64Bits number number_at
number_field = record { one = number_one; some = (0, lit< tt); exact = number_exact }

-- ---- so many bytes
abbrev itself : List ℕ → List ℕ
itself t = t

abbrev Of_length : ℕ → List ℕ → Type 0
Of_length n t = (length t ≡ n) × AreBytes t

abbrev cut : ℕ → List ℕ → List ℕ × List ℕ
cut n xs = (take n xs, drop n xs)

bytes_exact : (n : ℕ) → Exact (Of_length n) itself (bytes_at n)
bytes_exact n = record {
  found = λ xs h t rest e. elim (cases_lt (length xs) n) [
    | inl lt ↦ absurd (failed_no {A = List ℕ} 0 (t, rest) (rw (lt-leb n (length xs) lt) at e))
    | inr ge ↦
        let is : cut n xs ≡ (t, rest) = ok_is (cut n xs) (t, rest) (rw (le-leb n (length xs) ge) at e) in
        let long : length (take n xs) ≡ n = omega (arith, length-take n xs, ge) in
        subst (λ (r : List ℕ × List ℕ). Of_length n r.0 × (xs ≡ r.0 ++ r.1)) is ((long, bytes_left (take n xs) (drop n xs) (subst AreBytes (sym (take-append-drop n xs)) h.bytes)), sym (take-append-drop n xs))
  ];
  fault = λ xs h left e. elim (cases_lt (length xs) n) [
    | inl lt ↦
        let is : 0 ≡ left = failed_is {A = List ℕ} 0 left (rw (lt-leb n (length xs) lt) at e) in
        let more = zeros (n - length xs - 1) in
        let long : length (xs ++ 0 ∷ more) ≡ n = omega (arith, length-append xs (0 ∷ more), zeros_long (n - length xs - 1), lt) in
        subst (λ (k : ℕ). Stops (Encoded (Of_length n) itself) (Encoded (Of_length n) itself) xs k) is
        (stops_short (Encoded (Of_length n) itself) (Encoded (Of_length n) itself) xs 0 more (xs ++ 0 ∷ more, (long, bytes_both xs (0 ∷ more) h.bytes (lit< tt, zeros_bytes (n - length xs - 1))), refl))
    | inr ge ↦ absurd (ok_no_err (cut n xs) left (rw (le-leb n (length xs) ge) at e))
  ];
}

abbrev pub IsBlob : List ℕ → Type 0
IsBlob t = LengthFitsIn64Bits t × AreBytes t

blob_exact : Exact IsBlob blob blob_at
blob_exact =
    let pairs = then_exact FitsIn64Bits number number_at Of_length (λ n. itself) bytes_at number_one number_exact (λ n w. (zeros n, (zeros_long n, zeros_bytes n))) (λ n w short. bytes_exact n) in
    let whole = made_exact (λ (p : ℕ × List ℕ). FitsIn64Bits p.0 × Of_length p.0 p.1) (λ p. number p.0 ++ p.1) (then number_at bytes_at) IsBlob blob (λ p. p.1)
    (λ p h. ((subst FitsIn64Bits (sym h.1.0) h.0, h.1.1), ap (λ n. number n ++ p.1) h.1.0))
    (λ t h. ((length t, t), (h.0, (refl, h.1)), refl)) pairs in
    exact_same IsBlob blob _ blob_at (λ xs. second_of (number_at xs) bytes_at) whole

pub blob_field : Field IsBlob blob blob_at
blob_field = record { one = λ a b x y p q e. blob_one a b x y p.0 q.0 e; some = ([], (lit< tt, tt)); exact = blob_exact }

-- ---- truth values
abbrev pub IsTruth : Bool → Type 0
IsTruth b = Unit {0}

abbrev Truths : List ℕ → Type 0
Truths = Encoded IsTruth truth

truth_no : (b : ℕ) (ys : List ℕ) → Truths (suc (suc b) ∷ ys) → ⊥
truth_no b ys (true, p, e) = two_no b ys [] e
  where
    two_no : (b : ℕ) (ys zs : List ℕ) → suc (suc b) ∷ ys ≡ 1 ∷ zs → ⊥
    two_no b ys zs e = let h : suc (suc b) ≡ 1 = cc in omega (arith, h)
truth_no b ys (false, p, e) = zero_no b ys [] e
  where
    zero_no : (b : ℕ) (ys zs : List ℕ) → suc (suc b) ∷ ys ≡ 0 ∷ zs → ⊥
    zero_no b ys zs e = let h : suc (suc b) ≡ 0 = cc in omega (arith, h)

truth_found : (xs : List ℕ) (b : Bool) (rest : List ℕ) → truth_at xs ≡ Ok (b, rest) → IsTruth b × (xs ≡ truth b ++ rest)
truth_found [] b rest e = absurd (failed_no 0 (b, rest) e)
truth_found (zero ∷ xs) b rest e = let got : Bool × List ℕ = (false, xs) in subst (λ (r : Bool × List ℕ). IsTruth r.0 × (0 ∷ xs ≡ truth r.0 ++ r.1)) (ok_is got (b, rest) e) (tt, refl)
truth_found (suc zero ∷ xs) b rest e = let got : Bool × List ℕ = (true, xs) in subst (λ (r : Bool × List ℕ). IsTruth r.0 × (1 ∷ xs ≡ truth r.0 ++ r.1)) (ok_is got (b, rest) e) (tt, refl)
truth_found (suc (suc c) ∷ xs) b rest e = absurd (failed_no (suc (length xs)) (b, rest) e)

truth_fault : (xs : List ℕ) (left : ℕ) → truth_at xs ≡ Err left → Stops Truths Truths xs left
truth_fault [] left e = subst (λ (k : ℕ). Stops Truths Truths [] k) (failed_is {A = Bool} 0 left e) (stops_short Truths Truths [] 0 [] (false, tt, refl))
truth_fault (zero ∷ xs) left e = absurd (ok_no_err (false, xs) left e)
truth_fault (suc zero ∷ xs) left e = absurd (ok_no_err (true, xs) left e)
truth_fault (suc (suc c) ∷ xs) left e =
    subst (λ (k : ℕ). Stops Truths Truths (suc (suc c) ∷ xs) k) (failed_is {A = Bool} (suc (length xs)) left e) (stops_here Truths Truths (suc (suc c)) xs 0 [] (false, tt, refl) (truth_no c))

pub truth_field : Field IsTruth truth truth_at
truth_field = record { one = λ a b x y p q e. truth_one a b x y e; some = (false, tt); exact = record { found = λ xs h b rest e. truth_found xs b rest e; fault = λ xs h left e. truth_fault xs left e } }

-- ---- optional values
rest_one : (c : ℕ) (xs : List ℕ) → IsInput (c ∷ xs) → IsInput xs
rest_one c xs h = record { bytes = h.bytes.1; short = let s = h.short in omega (arith, s) }

module _ {A : Type 0} (P : A → Type 0) (encode : A → List ℕ) (read : List ℕ → Read A) (f : Field P encode read) where
  abbrev IsOptional : Option A → Type 0
  IsOptional o = ForSome o P

  abbrev Options : List ℕ → Type 0
  Options = Encoded IsOptional (optional encode)

  none_has : IsOptional None
  none_has x e = absurd cc

  some_has : (a : A) → P a → IsOptional (Some a)
  some_has a p x e = let same : a ≡ x = cc in subst P same p

  nothing : Options (0 ∷ [])
  nothing = (None, none_has, refl)

  something : (w : List ℕ) → Encoded P encode w → Options (1 ∷ w)
  something w s = (Some s.0, some_has s.0 s.1, ap (λ (q : List ℕ). 1 ∷ q) s.2)

  back : (w : List ℕ) → Options (1 ∷ w) → Encoded P encode w
  back w (None, p, e) = absurd cc
  back w (Some a, p, e) = (a, p a refl, cc)

  option_no : (b : ℕ) (ys : List ℕ) → Options (suc (suc b) ∷ ys) → ⊥
  option_no b ys (None, p, e) = let h : suc (suc b) ≡ 0 = cc in omega (arith, h)
  option_no b ys (Some a, p, e) = let h : suc (suc b) ≡ 1 = cc in omega (arith, h)

  optional_found : (xs : List ℕ) → IsInput xs → (o : Option A) (rest : List ℕ) → optional_at read xs ≡ Ok (o, rest) → IsOptional o × (xs ≡ optional encode o ++ rest)
  optional_found [] h o rest e = absurd (failed_no 0 (o, rest) e)
  optional_found (zero ∷ xs) h o rest e =
      let got : Option A × List ℕ = (None, xs) in
      subst (λ (r : Option A × List ℕ). IsOptional r.0 × (0 ∷ xs ≡ optional encode r.0 ++ r.1)) (ok_is got (o, rest) e) (none_has, refl)
  optional_found (suc zero ∷ xs) h o rest e =
      let b = bind_ok (read xs) (λ a. Ok (Some a.0, a.1)) (o, rest) e in
      let t = f.exact.found xs (rest_one 1 xs h) b.0.0 b.0.1 b.1 in
      let got : Option A × List ℕ = (Some b.0.0, b.0.1) in
      subst (λ (r : Option A × List ℕ). IsOptional r.0 × (1 ∷ xs ≡ optional encode r.0 ++ r.1)) (ok_is got (o, rest) b.2) (some_has b.0.0 t.0, ap (λ (q : List ℕ). 1 ∷ q) t.1)
  optional_found (suc (suc c) ∷ xs) h o rest e = absurd (failed_no (suc (length xs)) (o, rest) e)

  optional_fault : (xs : List ℕ) → IsInput xs → (left : ℕ) → optional_at read xs ≡ Err left → Stops Options Options xs left
  optional_fault [] h left e = subst (λ (k : ℕ). Stops Options Options [] k) (failed_is {A = Option A} 0 left e) (stops_short Options Options [] 0 [] nothing)
  optional_fault (zero ∷ xs) h left e = absurd (ok_no_err (None, xs) left e)
  optional_fault (suc zero ∷ xs) h left e = elim (bind_err (read xs) (λ a. Ok (Some a.0, a.1)) left e) [
    | inl e1 ↦ stops_later (Encoded P encode) (Encoded P encode) Options Options 1 xs left something back (f.exact.fault xs (rest_one 1 xs h) left e1)
    | inr b ↦ absurd (ok_no_err (Some b.0.0, b.0.1) left b.2)
  ]
  optional_fault (suc (suc c) ∷ xs) h left e =
      subst (λ (k : ℕ). Stops Options Options (suc (suc c) ∷ xs) k) (failed_is {A = Option A} (suc (length xs)) left e) (stops_here Options Options (suc (suc c)) xs 0 [] nothing (option_no c))

  pub optional_field : Field IsOptional (optional encode) (optional_at read)
  optional_field = record { one = optional_one P encode f.one; some = (None, none_has); exact = record { found = optional_found; fault = optional_fault } }

-- ---- dates
date_early : (n : ℕ) → n < SECONDS_BEFORE_1970 → (date_from n).seconds ≡ negsuc (SECONDS_BEFORE_1970 - suc n)
date_early n h = rw (lt-ltb n SECONDS_BEFORE_1970 h) refl

date_late : (n : ℕ) → SECONDS_BEFORE_1970 ≤ n → (date_from n).seconds ≡ pos (n - SECONDS_BEFORE_1970)
date_late n h = rw (le-ltb n SECONDS_BEFORE_1970 h) refl

moment_early : (m : ℕ) → m ≤ SECONDS_BEFORE_1970 - 1 → (FIRST_TIMESTAMP ≤ℤ negsuc m) × (negsuc m ≤ℤ pos LAST_TIMESTAMP)
moment_early m h = (omega (arith, ints), omega (arith, ints))

moment_late : (m : ℕ) → m ≤ LAST_TIMESTAMP → (FIRST_TIMESTAMP ≤ℤ pos m) × (pos m ≤ℤ pos LAST_TIMESTAMP)
moment_late m h = (omega (arith, ints), omega (arith, ints))

abbrev Dated : ℕ → ℤ → Type 0
Dated n z = ((FIRST_TIMESTAMP ≤ℤ z) × (z ≤ℤ pos LAST_TIMESTAMP)) × (since_year_one z ≡ n)

dated : (n : ℕ) → n ≤ LAST_SECOND → Dated n (date_from n).seconds
dated n h = elim (cases_lt n SECONDS_BEFORE_1970) [
  | inl lt ↦ subst (Dated n) (sym (date_early n lt)) (moment_early (SECONDS_BEFORE_1970 - suc n) (omega arith), omega arith)
  | inr ge ↦ subst (Dated n) (sym (date_late n ge)) (moment_late (n - SECONDS_BEFORE_1970) (omega arith), omega arith)
]

date_to : (n : ℕ) → IsWithin 0 LAST_SECOND n → IsUtcDate (date_from n) × (date (date_from n) ≡ number n)
date_to n p = let d = dated n p.upto in (record { not_before = d.0.0; not_after = d.0.1 }, ap number d.1)

seconds_back : (z : ℤ) → FIRST_TIMESTAMP ≤ℤ z → z ≤ℤ pos LAST_TIMESTAMP → (since_year_one z ≤ LAST_SECOND) × ((date_from (since_year_one z)).seconds ≡ z)
seconds_back (pos m) low high =
    let below : m ≤ LAST_TIMESTAMP = leb_yes high.le in
    (omega arith, date_late (m + SECONDS_BEFORE_1970) (omega arith) ∙ ap pos (omega arith))
seconds_back (negsuc m) low high =
    let below : m ≤ SECONDS_BEFORE_1970 - 1 = leb_yes low.le in
    (omega arith, date_early (SECONDS_BEFORE_1970 - 1 - m) (omega arith) ∙ ap negsuc (omega arith))

date_back : (d : UtcDate) → IsUtcDate d → (n : ℕ) × IsWithin 0 LAST_SECOND n × (date_from n ≡ d)
date_back d m = let b = seconds_back d.seconds m.not_before m.not_after in (since_year_one d.seconds, record { from = omega arith; upto = b.0 }, λ i. record { seconds = b.1 i })

pub date_field : Field IsUtcDate date date_at
date_field = made_field (IsWithin 0 LAST_SECOND) number (number_between 0 LAST_SECOND) IsUtcDate date date_from date_to date_back
    (record { one = between_one 0 LAST_SECOND (lit< tt); some = (0, record { from = lit≤ tt; upto = lit≤ tt }); exact = between_exact 0 LAST_SECOND (lit≤ tt) (lit< tt) })

-- ---- tags
abbrev pub IsTag : ℕ → ℕ → Type 0
IsTag last t = (1 ≤ t) × (t ≤ last)

abbrev pub tag : ℕ → List ℕ
tag t = t ∷ []

abbrev is_wrong : ℕ → ℕ → Bool
is_wrong last b = eqb b 0 || ltb last b

tag_right : (last b : ℕ) → is_wrong last b ≡ false → IsTag last b
tag_right last b e =
    let p = or_parts (eqb b 0) (ltb last b) e in
    let n = eqb-false b 0 p.0 in
    (elim (cases_eq b 0) [ inl z ↦ absurd (n z) | inr k ↦ omega (arith, k) ], ltb-false last b p.1)

right_tag : (last b : ℕ) → IsTag last b → is_wrong last b ≡ false
right_tag last b h = rw (ne_eqb b 0 (λ z. omega (arith, z, h.0)), le-ltb last b h.1) refl

abbrev Tags : ℕ → List ℕ → Type 0
Tags last = Encoded (IsTag last) tag

tag_found : (last b : ℕ) (xs : List ℕ) (t : ℕ) (rest : List ℕ) (wrong : Bool) → is_wrong last b ≡ wrong → cond wrong (failed (suc (length xs))) (Ok (b, xs)) ≡ Ok (t, rest) → IsTag last t × (b ∷ xs ≡ tag t ++ rest)
tag_found last b xs t rest true w e = absurd (failed_no (suc (length xs)) (t, rest) e)
tag_found last b xs t rest false w e =
    let got : ℕ × List ℕ = (b, xs) in
    subst (λ (r : ℕ × List ℕ). IsTag last r.0 × (b ∷ xs ≡ tag r.0 ++ r.1)) (ok_is got (t, rest) e) (tag_right last b w, refl)

tag_fault : (last b : ℕ) (xs : List ℕ) (left : ℕ) (wrong : Bool) → 1 ≤ last → is_wrong last b ≡ wrong → cond wrong (failed (suc (length xs))) (Ok (b, xs)) ≡ Err left → Stops (Tags last) (Tags last) (b ∷ xs) left
tag_fault last b xs left true h w e =
    subst (λ (k : ℕ). Stops (Tags last) (Tags last) (b ∷ xs) k) (failed_is {A = ℕ} (suc (length xs)) left e)
    (stops_here (Tags last) (Tags last) b xs 1 [] (1, (lit≤ tt, h), refl) (λ ys s. let head : b ≡ s.0 = cc in true≢false (sym w ∙ ap (is_wrong last) head ∙ right_tag last s.0 s.1)))
tag_fault last b xs left false h w e = absurd (ok_no_err (b, xs) left e)

tag_one : (last : ℕ) → OneForm (IsTag last) tag
tag_one last a b x y p q e = (cc, cc)

pub tag_field : (last : ℕ) → 1 ≤ last → Field (IsTag last) tag (tag_at last)
tag_field last h = record { one = tag_one last; some = (1, (lit≤ tt, h)); exact = record { found = found; fault = fault } }
  where
    found : (xs : List ℕ) → IsInput xs → (t : ℕ) (rest : List ℕ) → tag_at last xs ≡ Ok (t, rest) → IsTag last t × (xs ≡ tag t ++ rest)
    found [] i t rest e = absurd (failed_no 0 (t, rest) e)
    found (b ∷ xs) i t rest e = tag_found last b xs t rest (is_wrong last b) refl e

    fault : (xs : List ℕ) → IsInput xs → (left : ℕ) → tag_at last xs ≡ Err left → Stops (Tags last) (Tags last) xs left
    fault [] i left e = subst (λ (k : ℕ). Stops (Tags last) (Tags last) [] k) (failed_is {A = ℕ} 0 left e) (stops_short (Tags last) (Tags last) [] 1 [] (1, (lit≤ tt, h), refl))
    fault (b ∷ xs) i left e = tag_fault last b xs left (is_wrong last b) h refl e
