-- The next page continues from the new state of the one before.
use Rattle.std.proofs.Common.{◌≡◌, ℕ, suc, ◌+◌, ◌-◌, ◌≤◌, Bool, true, false, ◌||◌, cond, List, [], ◌∷◌, ◌++◌, take, drop, length, Option, Some, None, refl, sym, ap, ap₂, ◌∙◌, subst, arith, length-take-le, take-take, take-append-drop}
use Rattle.std.specs.List.{list_any}
use Rattle.std.proofs.lemmas.Bool.{or_parts}
use Rattle.std.proofs.lemmas.List.{drop-append-le, length-map}
use Rattle.std.proofs.lemmas.List.Folds.{list_any-append}
use Rattle.jm_base.specs.declared.identifiers.Id.{Id}
use Rattle.jm_base.specs.declared.identifiers.Kind.{Kind}
use Rattle.mail_records.specs.Edits.{id_of}
use Rattle.mail_records.specs.Histories.{FloorsAtMost, History, edits_of, end_of, floor_of, ids_of}
use Rattle.mail_records.specs.States.{ids_between, is_id, is_kind_of, last_place, place_with, placed_above, state_at}
use Rattle.mail_records.specs.Tables.{put}
use Rattle.mail_records.proofs.Reached.{Reaches-state_at, state_at-most, state_at-state_at}
use Rattle.mail_records.proofs.Settled.{SameRecords-same_state, floor_low}
use Rattle.change_calls.specs.Changes.{numbers_with, touched}
use Rattle.change_calls.specs.Pages.{GoesOn, has}
use Rattle.change_calls.proofs.Named.{has-numbers, numbers-append}

with_none : (b : Bool) (o : Option ℕ) → place_with b o ≡ None → (b ≡ false) × (o ≡ None)
with_none true None h = absurd (cc)
with_none false None h = (refl, refl)
with_none b (Some n) h = absurd (cc)

none_passes : {A : Type 0} (test : A → Bool) (xs : List A) → last_place test xs ≡ None → list_any test xs ≡ false
none_passes test [] h = refl
none_passes test (x ∷ xs) h =
    let parts = with_none (test x) (last_place test xs) h in rw parts.0 (none_passes test xs parts.1)

quiet_step : {A : Type 0} (test : A → Bool) (x : A) (xs : List A) (q : ℕ) (b : Bool) (o : Option ℕ) → last_place test xs ≡ o → place_with b o ≡ Some q
    → ((m : ℕ) → last_place test xs ≡ Some m → list_any test (drop m xs) ≡ false) → list_any test (drop q (x ∷ xs)) ≡ false
quiet_step test x xs q false None is e rest = absurd (cc)
quiet_step test x xs q true None is e rest =
    let first : 1 ≡ q = cc in subst (λ k. list_any test (drop k (x ∷ xs)) ≡ false) first (none_passes test xs is)
quiet_step test x xs q b (Some m) is e rest =
    let more : m + 1 ≡ q = cc in
    let after : suc m ≡ q = omega arith in
    subst (λ k. list_any test (drop k (x ∷ xs)) ≡ false) after (rest m is)

-- nothing passes after the last place
quiet_after : {A : Type 0} (test : A → Bool) (xs : List A) (q : ℕ) → last_place test xs ≡ Some q → list_any test (drop q xs) ≡ false
quiet_after test [] q e = absurd (cc)
quiet_after test (x ∷ xs) q e = quiet_step test x xs q (test x) (last_place test xs) refl e (quiet_after test xs)

-- nor after the state
pub quiet_state : (kind : Kind) (floor low : ℕ) (ids : List Id) (o : Option ℕ) → low ≤ floor → last_place (is_kind_of kind) ids ≡ o → list_any (is_kind_of kind) (drop (placed_above floor low o - floor) ids) ≡ false
quiet_state kind floor low ids None le is =
    let zero_is : 0 ≡ low - floor = omega arith in
    subst (λ n. list_any (is_kind_of kind) (drop n ids) ≡ false) zero_is (none_passes (is_kind_of kind) ids is)
quiet_state kind floor low ids (Some q) le is =
    let place_is : q ≡ floor + q - floor = omega arith in
    subst (λ n. list_any (is_kind_of kind) (drop n ids) ≡ false) place_is (quiet_after (is_kind_of kind) ids q is)

-- ids of which none is of the kind name nothing
pub quiet_numbers : (ids : List Id) (kind : Kind) (ns : List ℕ) → list_any (is_kind_of kind) ids ≡ false → numbers_with kind ns ids ≡ ns
quiet_numbers [] kind ns h = refl
quiet_numbers (i ∷ is) kind ns h =
    let parts = or_parts (is_kind_of kind i) (list_any (is_kind_of kind) is) h in
    ap (λ b. numbers_with kind (cond b (put (λ n. n) i.number ns) ns) is) parts.0 ∙ quiet_numbers is kind ns parts.1

pub GoesOn-state : (h : History) (kind : Kind) (p : ℕ) → FloorsAtMost h.floors h.floor → h.floor ≤ p → p ≤ end_of h → GoesOn h kind (state_at h kind p) p
GoesOn-state h kind p low above within =
    let state = state_at h kind p in
    let most : state ≤ p = state_at-most h kind p low above in
    let ids = ids_of h in
    let size : length ids ≡ length (edits_of h) = length-map (edits_of h) id_of in
    let a = state - h.floor in
    let b = p - h.floor in
    let quiet : list_any (is_kind_of kind) (drop a (take b ids)) ≡ false =
    quiet_state kind h.floor (floor_of h.floors kind) (take b ids) (last_place (is_kind_of kind) (take b ids)) (floor_low kind h.floors h.floor low) refl in
    record {
      reached = Reaches-state_at h kind p low;
      same = SameRecords-same_state h kind state p low most (state_at-state_at h kind p low);
      touched = λ k later.
          let c = k - h.floor in
          let split : take c ids ≡ take b ids ++ drop b (take c ids) =
          sym (ap (λ zs. zs ++ drop b (take c ids)) (sym (take-take b c ids (omega arith))) ∙ take-append-drop b (take c ids)) in
          let long : length (take b ids) ≡ b = length-take-le b ids (omega arith) in
          let parts : drop a (take c ids) ≡ drop a (take b ids) ++ drop b (take c ids) =
          ap (drop a) split ∙ drop-append-le a (take b ids) (drop b (take c ids)) (omega arith) in
          ap (numbers_with kind []) parts
          ∙ (numbers-append (drop a (take b ids)) (drop b (take c ids)) kind []
          ∙ ap (λ ns. numbers_with kind ns (drop b (take c ids))) (quiet_numbers (drop a (take b ids)) kind [] quiet));
    }

-- ---- two pages and one

-- the ids between two positions are those up to a position in between, and those after it
pub ids_split : (h : History) (from p q : ℕ) → from ≤ p → p ≤ q → p ≤ end_of h → ids_between h.floor from q (ids_of h) ≡ ids_between h.floor from p (ids_of h) ++ ids_between h.floor p q (ids_of h)
ids_split h from p q low high within =
    let ids = ids_of h in
    let size : length ids ≡ length (edits_of h) = length-map (edits_of h) id_of in
    let a = from - h.floor in
    let b = p - h.floor in
    let c = q - h.floor in
    let split : take c ids ≡ take b ids ++ drop b (take c ids) =
    sym (ap (λ zs. zs ++ drop b (take c ids)) (sym (take-take b c ids (omega arith))) ∙ take-append-drop b (take c ids)) in
    let long : length (take b ids) ≡ b = length-take-le b ids (omega arith) in
    ap (drop a) split ∙ drop-append-le a (take b ids) (drop b (take c ids)) (omega arith)

pub touched-together : (h : History) (kind : Kind) (from p q n : ℕ) → from ≤ p → p ≤ q → p ≤ end_of h → has (touched h kind from q) n ≡ (has (touched h kind from p) n || has (touched h kind p q) n)
touched-together h kind from p q n low high within =
    let first = ids_between h.floor from p (ids_of h) in
    let rest = ids_between h.floor p q (ids_of h) in
    ap (λ ids. has (numbers_with kind [] ids) n) (ids_split h from p q low high within)
    ∙ (has-numbers (first ++ rest) kind [] n
    ∙ (list_any-append (is_id kind n) first rest
    ∙ ap₂ (λ a b. a || b) (sym (has-numbers first kind [] n)) (sym (has-numbers rest kind [] n))))
