-- Lists of numbers and of texts that rise: they are read exactly.
use Rattle.std.proofs.Common.{◌≡◌, ℕ, zero, suc, ◌+◌, ◌-◌, ◌^◌, ◌<◌, ◌≤◌, Bool, true, false, cond, leb, List, [], ◌∷◌, ◌++◌, length, take, drop, Some, Ok, Err, refl, sym, ap, subst, ◌∙◌, inl, inr, length-append, arith, lit<}
use Rattle.std.specs.List.{AllByRecursion}
use Rattle.std.specs.List.Sorted.{IsStrictlySortedBy}
use Rattle.std.specs.Str.{IsUtf8, is_utf8}
use Rattle.std.specs.declared.cmp.Ordering.{Ordering}
use Rattle.std.specs.declared.cmp.Ordering.TheVariants.{Less, Equal, Greater}
use Rattle.record_codec.specs.declared.read_texts.TextRest.{TextRest}
use Rattle.std.specs.Ordering.{nat_cmp, is_lt}
use Rattle.std.specs.Cmp.Lexicographic.{slice_cmp}
use Rattle.std.proofs.lemmas.Bool.{true≢false, cases_eq, cases_order, leb-true, le-leb, lt-ltb, le-ltb, eq-eqb, ne_eqb, and_parts, and_from}
use Rattle.std.proofs.lemmas.Cmp.{nat_list_cmp_total}
use Rattle.std.proofs.lemmas.List.{append-nil, take_at, take-append-drop, length-take}
use Rattle.std.proofs.lemmas.Str.{IsUtf8-nil, is_utf8-from_IsUtf8, IsUtf8-from_is_utf8}
use Rattle.mail_records.specs.Commits.{NumbersRise, TextsRise}
use Rattle.record_codec.specs.Encoding.{number, blob, listed}
use Rattle.record_codec.specs.Widths.{FitsIn64Bits, LengthFitsIn64Bits, AreAll}
use Rattle.record_codec.specs.NextBytes.{start, least_length, left_in_text, at_first}
use Rattle.record_codec.specs.Reading.{Read, then}
use Rattle.record_codec.specs.Readers.{greatest, number_between, is_above, is_text_above, is_content, content_at, least_room, text_at, rising_number, number_after, next_number, rising_text, next_text, rising_numbers_at, rising_texts_at}
use Rattle.record_codec.proofs.OneForm.{OneForm, number_one, blob_one, listed_one}
use Rattle.record_codec.proofs.Exact.{IsInput, Stops, stops_map, Encoded, Exact, Field, ok_is, ok_no_err, then_exact, made_exact}
use Rattle.record_codec.proofs.Items.{exact_same, same_values, second_of, Chain, Listed, items_exact, listed_exact}
use Rattle.record_codec.proofs.Between.{IsWithin, number_exact, between_exact, between_one}
use Rattle.record_codec.proofs.Loops.{least_bound}
use Rattle.record_codec.proofs.Utf.{Less_than, to_utf8, from_utf8}
use Rattle.record_codec.proofs.Turning.{start_state, must_turn}
use Rattle.record_codec.proofs.Contents.{Awaits, Live, Roomy, live_some, text_stops}
use Rattle.record_codec.proofs.Least.{least_turns, turns_least}
use Rattle.record_codec.proofs.Room.{IsAbove, Texts, Some_texts, room}

one_weaker : {A : Type 0} (P Q : A → Type 0) (encode : A → List ℕ) → ((a : A) → P a → Q a) → OneForm Q encode → OneForm P encode
one_weaker P Q encode h one a b x y p q e = one a b x y (h a p) (h b q) e

all_map : {A : Type 0} (P Q : A → Type 0) (xs : List A) → ((a : A) → P a → Q a) → AllByRecursion P xs → AllByRecursion Q xs
all_map P Q [] f h = tt
all_map P Q (x ∷ xs) f h = (f x h.0, all_map P Q xs f h.1)

-- ---- numbers
abbrev Next : ℕ → ℕ → ℕ → Type 0
Next low left n = (low ≤ n) × (n + left ≤ greatest)

after_any : (n : ℕ) → ¬ (n ≡ greatest) → number_after n ≡ n + 1
after_any n ne = rw (ne_eqb n greatest ne) refl

after_top : (n : ℕ) → n ≡ greatest → number_after n ≡ n
after_top n e = rw (eq-eqb n greatest e) refl

after_low : (n : ℕ) → (n ≤ number_after n) × (number_after n ≤ n + 1)
after_low n = elim (cases_eq n greatest) [
  | inl e ↦ let k = after_top n e in (omega (arith, k), omega (arith, k))
  | inr ne ↦ let k = after_any n ne in (omega (arith, k), omega (arith, k))
]

abbrev Room_for : ℕ → ℕ → Type 0
Room_for low n = low + n ≤ greatest + 1

room_next : (low n : ℕ) → Room_for low (suc n) → Room_for (number_after low) n
room_next low n h = omega (arith, h, (after_low low).1)

room_after : (low left n : ℕ) → Next low left n → Room_for (number_after n) left
room_after low left n p = omega (arith, p.1, (after_low n).1)

some_rising : (low n : ℕ) → Room_for low n → (items : List ℕ) × Chain Next next_number low n items
some_rising low zero h = ([], tt)
some_rising low (suc n) h =
    let more = some_rising (number_after low) n (room_next low n h) in
    (low ∷ more.0, ((omega arith, omega (arith, h)), more.1))

next_word : (low left n : ℕ) → Next low left n → FitsIn64Bits n
next_word low left n p = omega (arith, p.1)

next_exact : (low left : ℕ) → Room_for low (suc left) → Exact (Next low left) number (rising_number low left)
next_exact low left h =
    same_values (IsWithin low (greatest - left)) (Next low left) number (rising_number low left)
    (λ n i. let u = i.upto in (i.from, omega (arith, h, u))) (λ n p. record { from = p.0; upto = omega (arith, p.1) })
    (between_exact low (greatest - left) (omega (arith, h)) (omega arith))

-- a rising list, said of the whole
after_all : (low n : ℕ) (items : List ℕ) → Chain Next next_number low n items → AllByRecursion (λ x. low ≤ x) items
after_all low zero [] h = tt
after_all low zero (x ∷ items) h = absurd h
after_all low (suc n) [] h = absurd h
after_all low (suc n) (x ∷ items) h =
    (h.0.0, all_map (λ y. number_after x ≤ y) (λ y. low ≤ y) items (λ y k. omega (arith, k, h.0.0, (after_low x).0)) (after_all (number_after x) n items h.1))

less_cmp : (x y : ℕ) → x < y → nat_cmp x y ≡ Less
less_cmp x y h = rw (lt-ltb x y h) refl

cmp_lt : (x y : ℕ) → nat_cmp x y ≡ Less → x < y
cmp_lt x y e = elim (cases_order x y) [
  | inl same ↦ absurd (equal_no (rw (le-ltb x y (omega (arith, same)), eq-eqb x y same) at e))
  | inr (inl lt) ↦ lt
  | inr (inr gt) ↦ absurd (greater_no (rw (le-ltb x y (omega (arith, gt)), ne_eqb x y (λ k. omega (arith, k, gt))) at e))
]
  where
    equal_no : Equal ≡ Less → ⊥
    equal_no e = cc

    greater_no : Greater ≡ Less → ⊥
    greater_no e = cc

above_head : (x n : ℕ) (items : List ℕ) → x + n ≤ greatest → Chain Next next_number (number_after x) n items → AllByRecursion (λ y. nat_cmp x y ≡ Less) items
above_head x zero [] h k = tt
above_head x zero (y ∷ items) h k = absurd k
above_head x (suc n) items h k =
    let up = after_any x (λ e. omega (arith, e, h)) in
    all_map (λ y. number_after x ≤ y) (λ y. nat_cmp x y ≡ Less) items (λ y l. less_cmp x y (omega (arith, l, up))) (after_all (number_after x) (suc n) items k)

numbers_rise : (low n : ℕ) (items : List ℕ) → Chain Next next_number low n items → NumbersRise items × AllByRecursion FitsIn64Bits items
unfolding IsStrictlySortedBy
numbers_rise low zero [] h = (tt, tt)
numbers_rise low zero (x ∷ items) h = absurd h
numbers_rise low (suc n) [] h = absurd h
numbers_rise low (suc n) (x ∷ items) h =
    let more = numbers_rise (number_after x) n items h.1 in
    ((above_head x n items h.0.1 h.1, more.0), (next_word low n x h.0, more.1))

-- so many numbers above this one leave it below the greatest
room_above : (x : ℕ) (items : List ℕ) → AllByRecursion (λ y. nat_cmp x y ≡ Less) items → NumbersRise items → FitsIn64Bits x → AllByRecursion FitsIn64Bits items → x + length items ≤ greatest
unfolding IsStrictlySortedBy
room_above x [] a s w h = omega (arith, w)
room_above x (y ∷ items) a s w h =
    let more = room_above y items s.0 s.1 h.0 h.1 in
    let lt = cmp_lt x y a.0 in
    omega (arith, more, lt)

rise_numbers : (low : ℕ) (items : List ℕ) → AllByRecursion (λ y. low ≤ y) items → NumbersRise items → AllByRecursion FitsIn64Bits items → Chain Next next_number low (length items) items
unfolding IsStrictlySortedBy
rise_numbers low [] l s h = tt
rise_numbers low (x ∷ items) l s h = (
  (l.0, room_above x items s.0 s.1 h.0 h.1),
  rise_numbers (number_after x) items (all_map (λ y. nat_cmp x y ≡ Less) (λ y. number_after x ≤ y) items (λ y e. let lt = cmp_lt x y e in omega (arith, lt, (after_low x).1)) s.0) s.1 h.1,
)

abbrev pub RisingNumbers : List ℕ → Type 0
RisingNumbers items = AreAll FitsIn64Bits items × NumbersRise items

from_zero : (items : List ℕ) → AllByRecursion (λ y. 0 ≤ y) items
from_zero [] = tt
from_zero (x ∷ items) = (omega arith, from_zero items)

rising_chain : Exact (Listed Next number rising_number next_number 0) (listed number) rising_numbers_at
rising_chain = listed_exact Next number rising_number next_number number_exact 0
    (λ n w. items_exact Next number rising_number next_number Room_for (λ s m. one_weaker (Next s m) FitsIn64Bits number (next_word s m) number_one) (λ s m k. next_exact s m k)
    (λ s m a k p short. room_after s m a p) (λ s m a p. some_rising (number_after a) m (room_after s m a p)) 0 n (omega (arith, w)))
    (λ n w. some_rising 0 n (omega (arith, w)))

pub rising_numbers_field : Field RisingNumbers (listed number) rising_numbers_at
unfolding IsStrictlySortedBy
rising_numbers_field = record {
  one = one_weaker RisingNumbers (AreAll FitsIn64Bits) (listed number) (λ items h. h.0) (listed_one FitsIn64Bits number number_one);
  some = ([], ((lit< tt, tt), tt));
  exact = same_values (Listed Next number rising_number next_number 0) RisingNumbers (listed number) rising_numbers_at
      (λ items h. let r = numbers_rise 0 (length items) items h.1 in ((h.0, r.1), r.0)) (λ items h. (h.0.0, rise_numbers 0 items (from_zero items) h.1 h.0.1)) rising_chain;
}

-- ---- texts
-- a text that leaves room for so many greater ones
pub record Next_text (s : Bool × List ℕ) (left : ℕ) (t : List ℕ) : Type 0 where
  pub is : IsAbove s t
  pub more : Some_texts (true, t) left

-- what the readers of texts may take for granted of the one before
pub record Bound_for (s : Bool × List ℕ) (n : ℕ) : Type 0 where
  pub short : length s.1 < 2 ^ 63
  pub text : s.0 ≡ true → IsUtf8 s.1
  pub count : n ≤ greatest

-- a text of a length
abbrev Of_length : Bool × List ℕ → ℕ → ℕ → List ℕ → Type 0
Of_length s left n t = (length t ≡ n) × Next_text s left t

abbrev beginning : Bool × List ℕ → ℕ → TextRest
beginning s n = at_first n s.0 s.1

live_first : (s : Bool × List ℕ) (left n : ℕ) → Bound_for s left → least_room s.0 s.1 ≤ n → Live (beginning s n) s.1
live_first (tight, bound) left n b h = record {
  state = start_state;
  room = λ _. omega arith;
  bound_text = λ t. from_utf8 bound (b.text t);
  turn_is = λ _. refl;
  turn_there = λ t. least_turns (Some start) bound n (from_utf8 bound (b.text t)) (low tight t h);
}
  where
    low : (tight : Bool) → tight ≡ true → least_room tight bound ≤ n → least_length (Some start) bound ≤ n
    low true t h = h
    low false t h = absurd (true≢false (sym t))

roomy_text : (s : Bool × List ℕ) (left n : ℕ) (w : List ℕ) → n ≤ greatest → left ≤ greatest → Roomy (beginning s n) s.1 (2 ^ 63 + 4) w → Of_length s left n w
roomy_text s left n w h k r = (
  r.awaits.long,
  record {
    is = record { text = to_utf8 w r.awaits.text; word = omega (arith, r.awaits.long, h); above = r.awaits.above };
    more = subst (λ (q : List ℕ). Some_texts (true, q) left) (sym r.is) (room r.front r.count left (to_utf8 r.front r.takes) r.short (omega (arith, k)));
  },
)

awaits_text : (s : Bool × List ℕ) (n : ℕ) (w : List ℕ) → length w ≡ n → IsAbove s w → Awaits (beginning s n) s.1 w
awaits_text s n w l a = record { long = l; text = from_utf8 w a.text; above = a.above }

some_text : (s : Bool × List ℕ) (left n : ℕ) → Bound_for s left → least_room s.0 s.1 ≤ n → n ≤ greatest → (w : List ℕ) × Of_length s left n w
some_text s left n b h k =
    let r = live_some (beginning s n) s.1 (2 ^ 63 + 4) (live_first s left n b h) (omega (arith, b.short)) in
    (r.0, roomy_text s left n r.0 k b.count r.1)

above_yes : (s : Bool × List ℕ) (t : List ℕ) → is_above s.0 s.1 t ≡ true → s.0 ≡ true → Less_than s.1 t
above_yes (true, bound) t e h = lt_is (slice_cmp nat_cmp bound t) e
  where
    lt_is : (o : Ordering) → is_lt o ≡ true → o ≡ Less
    lt_is Less e = refl
    lt_is Equal e = absurd (true≢false (sym e))
    lt_is Greater e = absurd (true≢false (sym e))
above_yes (false, bound) t e h = absurd (true≢false (sym h))

yes_above : (s : Bool × List ℕ) (t : List ℕ) → (s.0 ≡ true → Less_than s.1 t) → is_above s.0 s.1 t ≡ true
yes_above (true, bound) t h = ap is_lt (h refl)
yes_above (false, bound) t h = refl

abbrev content : ℕ → List ℕ → List ℕ × List ℕ
content n xs = (take n xs, drop n xs)

content_yes : (s : Bool × List ℕ) (left n : ℕ) (xs : List ℕ) → Bound_for s left → n ≤ greatest → IsInput xs → is_content n s.0 s.1 xs ≡ true → Of_length s left n (take n xs) × (xs ≡ take n xs ++ drop n xs)
content_yes s left n xs b k i e =
    let p = and_parts (leb n (length xs)) (is_text_above s.0 s.1 (take n xs)) e in
    let q = and_parts (is_utf8 (take n xs)) (is_above s.0 s.1 (take n xs)) p.1 in
    let long : length (take n xs) ≡ n = omega (arith, length-take n xs, leb-true n (length xs) p.0) in
    let text = IsUtf8-from_is_utf8 (take n xs) q.0 in
    let short : length (take n xs) ≤ 2 ^ 63 + 4 = omega (arith, length-take n xs, i.short) in (
      (
        long,
        record {
          is = record { text = text; word = omega (arith, long, k); above = above_yes s (take n xs) q.1 };
          more = subst (λ (q : List ℕ). Some_texts (true, q) left) (append-nil (take n xs)) (room (take n xs) 0 left text short (omega (arith, b.count)));
        },
      ),
      sym (take-append-drop n xs),
    )

content_is : (s : Bool × List ℕ) (n : ℕ) (xs w rest : List ℕ) → xs ≡ w ++ rest → Awaits (beginning s n) s.1 w → is_content n s.0 s.1 xs ≡ true
content_is s n xs w rest e a =
    let front : take n xs ≡ w = ap (take n) e ∙ take_at w rest n a.long in
    let enough : n ≤ length xs = omega (arith, ap length e, length-append w rest, a.long) in
    and_from (leb n (length xs)) (is_text_above s.0 s.1 (take n xs)) (le-leb n (length xs) enough)
    (subst (λ (q : List ℕ). is_text_above s.0 s.1 q ≡ true) (sym front) (and_from (is_utf8 w) (is_above s.0 s.1 w) (is_utf8-from_IsUtf8 w (to_utf8 w a.text)) (yes_above s w a.above)))

abbrev failed : ℕ → Read (List ℕ)
failed left = Err left

err_is : (d left : ℕ) → failed d ≡ failed left → d ≡ left
err_is d left e = cc

err_no_ok : (left : ℕ) (x : List ℕ × List ℕ) → failed left ≡ Ok x → ⊥
err_no_ok left x e = cc

abbrev stuck_at : Bool × List ℕ → ℕ → List ℕ → ℕ
stuck_at s n xs = left_in_text (beginning s n) s.1 xs

abbrev itself : List ℕ → List ℕ
itself t = t

content_found : (s : Bool × List ℕ) (left n : ℕ) (xs : List ℕ) (t rest : List ℕ) (yes : Bool) → Bound_for s left → n ≤ greatest → IsInput xs → is_content n s.0 s.1 xs ≡ yes
    → cond yes (Ok (content n xs)) (failed (stuck_at s n xs)) ≡ Ok (t, rest) → Of_length s left n t × (xs ≡ t ++ rest)
content_found s left n xs t rest true b k i e is =
    subst (λ (r : List ℕ × List ℕ). Of_length s left n r.0 × (xs ≡ r.0 ++ r.1)) (ok_is (content n xs) (t, rest) is) (content_yes s left n xs b k i e)
content_found s left n xs t rest false b k i e is = absurd (err_no_ok _ (t, rest) is)

content_fault : (s : Bool × List ℕ) (left n : ℕ) (xs : List ℕ) (back : ℕ) (yes : Bool) → Bound_for s left → least_room s.0 s.1 ≤ n → n ≤ greatest → IsInput xs → is_content n s.0 s.1 xs ≡ yes
    → cond yes (Ok (content n xs)) (failed (stuck_at s n xs)) ≡ Err back → Stops (Encoded (Of_length s left n) itself) (Encoded (Of_length s left n) itself) xs back
content_fault s left n xs back true b h k i e is = absurd (ok_no_err (content n xs) back is)
content_fault s left n xs back false b h k i e is =
    let stops = text_stops xs (beginning s n) s.1 (2 ^ 63 + 4) (live_first s left n b h) (omega (arith, b.short)) (omega (arith, i.short)) (λ w rest f a. true≢false (sym (content_is s n xs w rest f a) ∙ e)) in
    subst (λ (q : ℕ). Stops (Encoded (Of_length s left n) itself) (Encoded (Of_length s left n) itself) xs q) (err_is (stuck_at s n xs) back is)
    (stops_map (Roomy (beginning s n) s.1 (2 ^ 63 + 4)) (Awaits (beginning s n) s.1) (Encoded (Of_length s left n) itself) (Encoded (Of_length s left n) itself) xs (stuck_at s n xs)
    (λ w r. (w, roomy_text s left n w k b.count r, refl))
    (λ w p. subst (Awaits (beginning s n) s.1) (sym p.2) (awaits_text s n p.0 p.1.0 p.1.1.is)) stops)

content_exact : (s : Bool × List ℕ) (left n : ℕ) → Bound_for s left → least_room s.0 s.1 ≤ n → n ≤ greatest → Exact (Of_length s left n) itself (content_at n s.0 s.1)
content_exact s left n b h k = record {
  found = λ xs i t rest e. content_found s left n xs t rest (is_content n s.0 s.1 xs) b k i refl e;
  fault = λ xs i back e. content_fault s left n xs back (is_content n s.0 s.1 xs) b h k i refl e;
}

-- a greater text has at least the least length
least_of : (s : Bool × List ℕ) (left : ℕ) (t : List ℕ) → Bound_for s left → IsAbove s t → least_room s.0 s.1 ≤ length t
least_of (true, bound) left t b a =
    let text = from_utf8 bound (b.text refl) in
    turns_least (Some start) bound (length t) text (must_turn (Some start) bound t text (from_utf8 t a.text) (a.above refl))
least_of (false, bound) left t b a = omega arith

least_fits : (s : Bool × List ℕ) (left : ℕ) → Bound_for s left → least_room s.0 s.1 ≤ greatest
least_fits (true, bound) left b = omega (arith, b.short, (least_bound (Some start) bound).1)
least_fits (false, bound) left b = omega arith

text_exact : (s : Bool × List ℕ) (left : ℕ) → Bound_for s left → Exact (Next_text s left) blob (rising_text s left)
text_exact s left b =
    let low = least_room s.0 s.1 in
    let fits = least_fits s left b in
    let pairs = then_exact (IsWithin low greatest) number (number_between low greatest) (Of_length s left) (λ n. itself) (λ n. content_at n s.0 s.1)
    (between_one low greatest (omega arith)) (between_exact low greatest fits (omega arith)) (λ n p. some_text s left n b p.from p.upto) (λ n p short. content_exact s left n b p.from p.upto) in
    let whole = made_exact (λ (p : ℕ × List ℕ). IsWithin low greatest p.0 × Of_length s left p.0 p.1) (λ p. number p.0 ++ p.1) (then (number_between low greatest) (λ n. content_at n s.0 s.1))
    (Next_text s left) blob (λ p. p.1)
    (λ p h. (h.1.1, ap (λ n. number n ++ p.1) h.1.0))
    (λ t h. ((length t, t), (record { from = least_of s left t b h.is; upto = let w = h.is.word in omega (arith, w) }, (refl, h)), refl)) pairs in
    exact_same (Next_text s left) blob _ (rising_text s left) (λ xs. second_of (number_between low greatest xs) (λ n. content_at n s.0 s.1)) whole

-- texts in a row
texts_chain : (s : Bool × List ℕ) (n : ℕ) (items : List (List ℕ)) → Texts s n items → Chain Next_text next_text s n items
texts_chain s zero [] h = tt
texts_chain s zero (t ∷ items) h = absurd h
texts_chain s (suc n) [] h = absurd h
texts_chain s (suc n) (t ∷ items) h = (record { is = h.0; more = (items, h.1) }, texts_chain (true, t) n items h.1)

chain_texts : (s : Bool × List ℕ) (n : ℕ) (items : List (List ℕ)) → Chain Next_text next_text s n items → Texts s n items
chain_texts s zero [] h = tt
chain_texts s zero (t ∷ items) h = absurd h
chain_texts s (suc n) [] h = absurd h
chain_texts s (suc n) (t ∷ items) h = (h.0.is, chain_texts (true, t) n items h.1)

texts_after : (p : List ℕ) (n : ℕ) (items : List (List ℕ)) → Texts (true, p) n items → AllByRecursion (λ t. slice_cmp nat_cmp p t ≡ Less) items
texts_after p zero [] h = tt
texts_after p zero (t ∷ items) h = absurd h
texts_after p (suc n) [] h = absurd h
texts_after p (suc n) (t ∷ items) h =
    let first = h.0.above refl in
    (first, all_map (λ u. slice_cmp nat_cmp t u ≡ Less) (λ u. slice_cmp nat_cmp p u ≡ Less) items (λ u k. nat_list_cmp_total.trans p t u first k) (texts_after t n items h.1))

abbrev pub RisingTexts : List (List ℕ) → Type 0
RisingTexts items = (AreAll LengthFitsIn64Bits items × AllByRecursion IsUtf8 items) × TextsRise items

texts_rise : (s : Bool × List ℕ) (n : ℕ) (items : List (List ℕ)) → Texts s n items → AllByRecursion LengthFitsIn64Bits items × (AllByRecursion IsUtf8 items × TextsRise items)
unfolding IsStrictlySortedBy
texts_rise s zero [] h = (tt, (tt, tt))
texts_rise s zero (t ∷ items) h = absurd h
texts_rise s (suc n) [] h = absurd h
texts_rise s (suc n) (t ∷ items) h =
    let more = texts_rise (true, t) n items h.1 in
    ((h.0.word, more.0), ((h.0.text, more.1.0), (texts_after t n items h.1, more.1.1)))

rise_texts : (s : Bool × List ℕ) (items : List (List ℕ)) → (s.0 ≡ true → AllByRecursion (λ t. slice_cmp nat_cmp s.1 t ≡ Less) items) → AllByRecursion LengthFitsIn64Bits items → AllByRecursion IsUtf8 items → TextsRise items → Texts s (length items) items
unfolding IsStrictlySortedBy
rise_texts s [] a w u r = tt
rise_texts s (t ∷ items) a w u r = (record { text = u.0; word = w.0; above = λ e. (a e).0 }, rise_texts (true, t) items (λ _. r.0) w.1 u.1 r.1)

some_first : (n : ℕ) → FitsIn64Bits n → (items : List (List ℕ)) × Chain Next_text next_text (false, []) n items
some_first zero w = ([], tt)
some_first (suc n) w =
    let more = room [] 0 n IsUtf8-nil (omega arith) (omega (arith, w)) in
    let all : Texts (false, []) (suc n) ([] ∷ more.0) = (record { text = IsUtf8-nil; word = lit< tt; above = λ e. absurd (true≢false (sym e)) }, more.1) in
    ([] ∷ more.0, texts_chain (false, []) (suc n) ([] ∷ more.0) all)

bound_next : (s : Bool × List ℕ) (n : ℕ) (t : List ℕ) → Bound_for s (suc n) → Next_text s n t → length (blob t) < 2 ^ 63 → Bound_for (true, t) n
bound_next s n t b h short = record { short = omega (arith, short, length-append (number (length t)) t); text = λ _. h.is.text; count = let c = b.count in omega (arith, c) }

bound_drops : (s : Bool × List ℕ) (n : ℕ) → Bound_for s (suc n) → Bound_for s n
bound_drops s n b = record { short = b.short; text = b.text; count = let c = b.count in omega (arith, c) }

texts_exact : Exact (Listed Next_text blob rising_text next_text (false, [])) (listed blob) rising_texts_at
texts_exact = listed_exact Next_text blob rising_text next_text number_exact (false, [])
    (λ n w. items_exact Next_text blob rising_text next_text Bound_for (λ s m. one_weaker (Next_text s m) LengthFitsIn64Bits blob (λ t h. h.is.word) blob_one) (λ s m k. text_exact s m (bound_drops s m k))
    (λ s m a k p short. bound_next s m a k p short) (λ s m a p. (p.more.0, texts_chain (true, a) m p.more.0 p.more.1)) (false, []) n
    (record { short = lit< tt; text = λ e. absurd (true≢false (sym e)); count = omega (arith, w) }))
    some_first

pub rising_texts_field : Field RisingTexts (listed blob) rising_texts_at
unfolding IsStrictlySortedBy
rising_texts_field = record {
  one = one_weaker RisingTexts (AreAll LengthFitsIn64Bits) (listed blob) (λ items h. h.0.0) (listed_one LengthFitsIn64Bits blob blob_one);
  some = ([], (((lit< tt, tt), tt), tt));
  exact = same_values (Listed Next_text blob rising_text next_text (false, [])) RisingTexts (listed blob) rising_texts_at
      (λ items h. let r = texts_rise (false, []) (length items) items (chain_texts (false, []) (length items) items h.1) in (((h.0, r.0), r.1.0), r.1.1))
      (λ items h. (h.0.0.0, texts_chain (false, []) (length items) items (rise_texts (false, []) items (λ e. absurd (true≢false (sym e))) h.0.0.1 h.0.1 h.1))) texts_exact;
}

-- a text alone
abbrev pub IsText : List ℕ → Type 0
IsText t = LengthFitsIn64Bits t × IsUtf8 t

pub text_field : Field IsText blob text_at
text_field = record {
  one = one_weaker IsText LengthFitsIn64Bits blob (λ t h. h.0) blob_one;
  some = ([], (lit< tt, IsUtf8-nil));
  exact = same_values (Next_text (false, []) 0) IsText blob text_at (λ t h. (h.is.word, h.is.text))
      (λ t h. record { is = record { text = h.1; word = h.0; above = λ e. absurd (true≢false (sym e)) }; more = ([], tt) })
      (text_exact (false, []) 0 (record { short = lit< tt; text = λ e. absurd (true≢false (sym e)); count = omega arith }));
}
