-- What the marks say after each place where the needle was found.
use Rattle.std.proofs.Common.{◌≡◌, ℕ, zero, suc, ◌+◌, ◌-◌, ◌<◌, ◌≤◌, List, [], ◌∷◌, length, get_or, set, drop, refl, ap, sym, ◌∙◌, subst, inl, inr, arith, Option, None, get_or-set_same, get_or-set_other}
use Rattle.std.proofs.lemmas.Bool.{cases_lt}
use Rattle.std.proofs.lemmas.List.{length-set, length-drop}
use Rattle.std.specs.List.{slice_range}
use Rattle.memchr.specs.Find.{Nowhere, OccursAt}
use Rattle.text_column.specs.declared.mark.Mark.{Mark}
use Rattle.text_column.specs.declared.mark.Mark.TheVariants.{HasNot, Has, Open}
use Rattle.text_column.specs.Columns.{text_in, texts_in, IsBlank, AreEnds, IsIn, IsMark, AreMarks, start_at}
use Rattle.text_column.proofs.Ends.{as_many, text_count, text_by_index, within, ends_before, last_end, none_ends}
use Rattle.text_column.proofs.Places.{none_in_part, into_part, none_in_rest, out_of_rest}

-- the blank mark of a text without the needle, and the mark of one with it
mark_without : (needle bytes : List ℕ) (a b : ℕ) (m : Mark) → IsBlank a b m → ¬ (IsIn needle (slice_range bytes a b)) → IsMark needle (text_in bytes a b m) m
mark_without needle bytes a b HasNot h none = none
mark_without needle bytes a b Has h none = absurd h
mark_without needle bytes a b Open h none = refl

mark_with : (needle bytes : List ℕ) (a b : ℕ) (m : Mark) → IsBlank a b m → a < b → IsIn needle (slice_range bytes a b) → IsMark needle (text_in bytes a b m) Has
mark_with needle bytes a b HasNot h some is = is
mark_with needle bytes a b Has h some is = absurd h
mark_with needle bytes a b Open h some is = absurd (omega (arith, h, some))

-- a later text does not start before an earlier one
starts_rise : (ends : List ℕ) (blank : List Mark) (size : ℕ) → AreEnds 0 ends blank size → (j k : ℕ) → j ≤ k → k < length ends
    → start_at 0 ends j ≤ start_at 0 ends k
starts_rise ends blank size h zero k low high = omega arith
starts_rise ends blank size h (suc j) k low high = ends_before 0 ends blank size h j k (omega (arith, low)) high

-- no text starts after the bytes
pub starts_within : (ends : List ℕ) (blank : List Mark) (size : ℕ) → AreEnds 0 ends blank size → (k : ℕ) → k ≤ length ends → start_at 0 ends k ≤ size
starts_within ends blank size h zero low = omega arith
starts_within ends blank size h (suc k) low = (within 0 ends blank size h k (omega (arith, low))).high

-- up to which text the marks are set
pub record AreSetTo (needle bytes ends : List ℕ) (blank marks : List Mark) (next : ℕ) : Type 0 where
  pub count : length marks ≡ length blank
  pub done : (k : ℕ) → k < next → IsMark needle (get_or (texts_in bytes 0 ends blank) k None) (get_or marks k Open)
  pub rest : (k : ℕ) → next ≤ k → get_or marks k Open ≡ get_or blank k Open

-- the text with an index does not have the needle, and so its blank mark is the right one
unmarked : (needle bytes ends : List ℕ) (blank : List Mark) (next to k : ℕ) → AreEnds 0 ends blank (length bytes) → 1 ≤ length needle
    → Nowhere (OccursAt bytes needle) (start_at 0 ends next) to → next ≤ k → k < length ends → get_or ends k 0 < to + length needle
    → IsMark needle (get_or (texts_in bytes 0 ends blank) k None) (get_or blank k Open)
unmarked needle bytes ends blank next to k h some none low high before =
    let is = within 0 ends blank (length bytes) h k high in
    let from = starts_rise ends blank (length bytes) h next k low high in
    let out = none_in_part bytes needle (start_at 0 ends next) to (start_at 0 ends k) (get_or ends k 0) some is.rises is.high from before none in
    subst (λ t. IsMark needle t (get_or blank k Open)) (sym (text_by_index bytes 0 ends blank (length bytes) h k high))
    (mark_without needle bytes (start_at 0 ends k) (get_or ends k 0) (get_or blank k Open) is.blank out)

-- before the first place all marks are blank
pub set_none : (needle bytes ends : List ℕ) (blank : List Mark) → AreSetTo needle bytes ends blank blank 0
set_none needle bytes ends blank = record {
  count = refl;
  done = λ k low. absurd (omega arith);
  rest = λ k low. refl;
}

-- what is known of the first place from the start of a text on, and of the text around it
pub record IsNext (needle bytes ends : List ℕ) (next p r : ℕ) : Type 0 where
  pub here : OccursAt bytes needle p
  pub none : Nowhere (OccursAt bytes needle) (start_at 0 ends next) p
  pub not_before : start_at 0 ends next ≤ p
  pub low : next ≤ r
  pub high : r < length ends
  pub before : (k : ℕ) → next ≤ k → k < r → get_or ends k 0 ≤ p
  pub after : p < get_or ends r 0

-- the marks before the text around the place
done_before : (needle bytes ends : List ℕ) (blank marks : List Mark) (next p r k : ℕ) → AreEnds 0 ends blank (length bytes) → 1 ≤ length needle
    → AreSetTo needle bytes ends blank marks next → IsNext needle bytes ends next p r → k < r
    → IsMark needle (get_or (texts_in bytes 0 ends blank) k None) (get_or marks k Open)
done_before needle bytes ends blank marks next p r k h some done is low = elim (cases_lt k next) as (λ _. IsMark needle (get_or (texts_in bytes 0 ends blank) k None) (get_or marks k Open)) [
  | inl old ↦ done.done k old
  | inr new ↦
      let first : get_or ends k 0 ≤ p = is.before k new low in
      subst (λ m. IsMark needle (get_or (texts_in bytes 0 ends blank) k None) m) (sym (done.rest k new))
      (unmarked needle bytes ends blank next p k h some is.none new (omega (arith, low, is.high)) (omega (arith, first, some)))
]

-- what holds before a number and at it
up_to : (P : ℕ → Type 0) (r : ℕ) → ((k : ℕ) → k < r → P k) → P r → (k : ℕ) → k < r + 1 → P k
up_to P r before at k low = elim (cases_lt k r) as (λ _. P k) [
  | inl old ↦ before k old
  | inr new ↦ let same : r ≡ k = omega (arith, low, new) in subst P same at
]

-- the needle goes on past the end of the text around the place
pub set_past : (needle bytes ends : List ℕ) (blank marks : List Mark) (next p r : ℕ) → AreEnds 0 ends blank (length bytes) → 1 ≤ length needle
    → AreSetTo needle bytes ends blank marks next → IsNext needle bytes ends next p r → get_or ends r 0 < p + length needle
    → AreSetTo needle bytes ends blank marks (r + 1)
set_past needle bytes ends blank marks next p r h some done is past = record {
  count = done.count;
  done = up_to (λ k. IsMark needle (get_or (texts_in bytes 0 ends blank) k None) (get_or marks k Open)) r
      (λ k low. done_before needle bytes ends blank marks next p r k h some done is low)
      (subst (λ m. IsMark needle (get_or (texts_in bytes 0 ends blank) r None) m) (sym (done.rest r is.low))
      (unmarked needle bytes ends blank next p r h some is.none is.low is.high past));
  rest = λ k low. done.rest k (omega (arith, low, is.low));
}

-- the text around the place starts before it
starts_before : (needle bytes ends : List ℕ) (blank : List Mark) (next p r : ℕ) → AreEnds 0 ends blank (length bytes)
    → IsNext needle bytes ends next p r → start_at 0 ends r ≤ p
starts_before needle bytes ends blank next p zero h is = omega arith
starts_before needle bytes ends blank next p (suc r) h is = elim (cases_lt next (suc r)) as (λ _. start_at 0 ends (suc r) ≤ p) [
  | inl more ↦ is.before r (omega (arith, more)) (omega arith)
  | inr same ↦ let at : next ≡ suc r = omega (arith, same, is.low) in subst (λ n. start_at 0 ends n ≤ p) at is.not_before
]

-- the needle is in the text around the place
pub set_here : (needle bytes ends : List ℕ) (blank marks : List Mark) (next p r : ℕ) → AreEnds 0 ends blank (length bytes) → 1 ≤ length needle
    → AreSetTo needle bytes ends blank marks next → IsNext needle bytes ends next p r → p + length needle ≤ get_or ends r 0
    → AreSetTo needle bytes ends blank (set marks r Has) (r + 1)
set_here needle bytes ends blank marks next p r h some done is fits =
    let all = within 0 ends blank (length bytes) h r is.high in
    let from = starts_before needle bytes ends blank next p r h is in
    let inside : r < length marks = omega (arith, done.count, as_many 0 ends blank (length bytes) h, is.high) in
    let place = into_part bytes needle (start_at 0 ends r) (get_or ends r 0) p all.high from fits is.here in
    let there : IsMark needle (get_or (texts_in bytes 0 ends blank) r None) Has =
    subst (λ t. IsMark needle t Has) (sym (text_by_index bytes 0 ends blank (length bytes) h r is.high))
    (mark_with needle bytes (start_at 0 ends r) (get_or ends r 0) (get_or blank r Open) all.blank (omega (arith, from, is.after)) (p - start_at 0 ends r, place)) in
    record {
      count = length-set marks r Has ∙ done.count;
      done = up_to (λ k. IsMark needle (get_or (texts_in bytes 0 ends blank) k None) (get_or (set marks r Has) k Open)) r
          (λ k low. subst (λ m. IsMark needle (get_or (texts_in bytes 0 ends blank) k None) m) (sym (get_or-set_other marks r k Has Open (omega (arith, low))))
          (done_before needle bytes ends blank marks next p r k h some done is low))
          (subst (λ m. IsMark needle (get_or (texts_in bytes 0 ends blank) r None) m) (sym (get_or-set_same marks r Has Open inside)) there);
      rest = λ k low. get_or-set_other marks r k Has Open (omega (arith, low)) ∙ done.rest k (omega (arith, low, is.low));
    }

-- marks that are right one by one
all_marks : (needle : List ℕ) (texts : List (Option (List ℕ))) (marks : List Mark) → length texts ≡ length marks
    → ((k : ℕ) → k < length texts → IsMark needle (get_or texts k None) (get_or marks k Open)) → AreMarks needle texts marks
all_marks needle [] [] count each = tt
all_marks needle [] (m ∷ ms) count each = absurd (omega (arith, count))
all_marks needle (t ∷ ts) [] count each = absurd (omega (arith, count))
all_marks needle (t ∷ ts) (m ∷ ms) count each =
    (each zero (omega arith), all_marks needle ts ms (omega (arith, count)) (λ k low. each (suc k) (omega (arith, low))))

-- after the last place all marks are right
pub set_all : (needle bytes ends : List ℕ) (blank marks : List Mark) (next : ℕ) → AreEnds 0 ends blank (length bytes) → 1 ≤ length needle
    → AreSetTo needle bytes ends blank marks next → Nowhere (OccursAt bytes needle) (start_at 0 ends next) (length bytes + 1)
    → AreMarks needle (texts_in bytes 0 ends blank) marks
set_all needle bytes ends blank marks next h some done none =
    let texts = text_count bytes 0 ends blank (length bytes) h in
    let many = as_many 0 ends blank (length bytes) h in
    all_marks needle (texts_in bytes 0 ends blank) marks (omega (arith, texts, many, done.count)) (λ k low. elim (cases_lt k next) as (λ _. IsMark needle (get_or (texts_in bytes 0 ends blank) k None) (get_or marks k Open)) [
      | inl old ↦ done.done k old
      | inr new ↦
          let high : k < length ends = omega (arith, low, texts) in
          let is = within 0 ends blank (length bytes) h k high in
          subst (λ m. IsMark needle (get_or (texts_in bytes 0 ends blank) k None) m) (sym (done.rest k new))
          (unmarked needle bytes ends blank next (length bytes + 1) k h some none new high (omega (arith, is.high)))
    ])

-- a text that starts before the end of the bytes is one of the texts
pub is_text : (ends : List ℕ) (blank : List Mark) (size : ℕ) → AreEnds 0 ends blank size → (k : ℕ) → start_at 0 ends k < size → k ≤ length ends
    → k < length ends
is_text ends blank size h zero before low = elim (cases_lt zero (length ends)) as (λ _. zero < length ends) [
  | inl is ↦ is
  | inr none ↦ absurd (omega (arith, before, none_ends 0 ends blank size h (omega (arith, none))))
]
is_text ends blank size h (suc k) before low = elim (cases_lt (suc k) (length ends)) as (λ _. suc k < length ends) [
  | inl is ↦ is
  | inr none ↦
      let last : k ≡ length ends - 1 = omega (arith, none, low) in
      absurd (omega (arith, before, ap (λ n. get_or ends n 0) last, last_end 0 ends blank size h (omega (arith, low))))
]

-- a place in the rest is one in the bytes, and none is before it
pub found_at : (needle view bytes rest : List ℕ) (from ahead : ℕ) → view ≡ needle → rest ≡ drop from bytes → from ≤ length bytes
    → OccursAt rest view ahead → OccursAt bytes needle (from + ahead)
found_at needle view bytes rest from ahead same is within h =
    let there : OccursAt (drop from bytes) needle ahead = subst (λ n. OccursAt (drop from bytes) n ahead) same (subst (λ t. OccursAt t view ahead) is h) in
    out_of_rest bytes needle from ahead within there

pub found_none : (needle view bytes rest : List ℕ) (from n : ℕ) → view ≡ needle → rest ≡ drop from bytes → from ≤ length bytes
    → Nowhere (OccursAt rest view) 0 n → Nowhere (OccursAt bytes needle) from (from + n)
found_none needle view bytes rest from n same is within h =
    let there : Nowhere (OccursAt (drop from bytes) needle) 0 n =
    subst (λ v. Nowhere (OccursAt (drop from bytes) v) 0 n) same (subst (λ t. Nowhere (OccursAt t view) 0 n) is h) in
    none_in_rest bytes needle from n within there

-- the text to go on at, where the needle is found in the rest
pub is_more : (needle view bytes rest ends : List ℕ) (blank : List Mark) (next from ahead : ℕ) → AreEnds 0 ends blank (length bytes) → 1 ≤ length needle
    → view ≡ needle → rest ≡ drop from bytes → from ≡ start_at 0 ends next → next ≤ length ends → OccursAt rest view ahead
    → (next < length ends) × (from + ahead < get_or ends (length ends - 1) 0)
is_more needle view bytes rest ends blank next from ahead h some same is start low here =
    let within : from ≤ length bytes = omega (arith, start, starts_within ends blank (length bytes) h next low) in
    let place = found_at needle view bytes rest from ahead same is within here in
    let inside : from + ahead < length bytes = omega (arith, place.fits, some) in
    let one : next < length ends = is_text ends blank (length bytes) h next (omega (arith, start, inside)) low in
    let last : get_or ends (length ends - 1) 0 ≡ length bytes = last_end 0 ends blank (length bytes) h (omega (arith, one)) in (
      one,
      omega (arith, last, inside),
    )

pub is_next : (needle view bytes rest ends : List ℕ) (blank : List Mark) (next from ahead r : ℕ) → AreEnds 0 ends blank (length bytes)
    → view ≡ needle → rest ≡ drop from bytes → from ≡ start_at 0 ends next → next ≤ length ends
    → OccursAt rest view ahead → Nowhere (OccursAt rest view) 0 ahead
    → next ≤ r → r < length ends → ((k : ℕ) → next ≤ k → k < r → get_or ends k 0 ≤ from + ahead) → from + ahead < get_or ends r 0
    → IsNext needle bytes ends next (from + ahead) r
is_next needle view bytes rest ends blank next from ahead r h same is start low here none first high before after =
    let within : from ≤ length bytes = omega (arith, start, starts_within ends blank (length bytes) h next low) in
    record {
      here = found_at needle view bytes rest from ahead same is within here;
      none = subst (λ n. Nowhere (OccursAt bytes needle) n (from + ahead)) start (found_none needle view bytes rest from ahead same is within none);
      not_before = omega (arith, start);
      low = first;
      high = high;
      before = before;
      after = after;
    }

-- where the needle is not found in the rest
pub is_none : (needle view bytes rest ends : List ℕ) (blank : List Mark) (next from : ℕ) → AreEnds 0 ends blank (length bytes)
    → view ≡ needle → rest ≡ drop from bytes → from ≡ start_at 0 ends next → next ≤ length ends
    → Nowhere (OccursAt rest view) 0 (length rest + 1)
    → Nowhere (OccursAt bytes needle) (start_at 0 ends next) (length bytes + 1)
is_none needle view bytes rest ends blank next from h same is start low none =
    let within : from ≤ length bytes = omega (arith, start, starts_within ends blank (length bytes) h next low) in
    let left : length rest ≡ length bytes - from = ap length is ∙ length-drop from bytes in
    let end : from + (length rest + 1) ≡ length bytes + 1 = omega (arith, left, within) in
    subst (λ n. Nowhere (OccursAt bytes needle) n (length bytes + 1)) start
    (subst (λ n. Nowhere (OccursAt bytes needle) from n) end (found_none needle view bytes rest from (length rest + 1) same is within none))
