-- A page that is not the last one moves the state on.
use Rattle.std.proofs.Common.{◌≡◌, ◌≢◌, ℕ, ◌+◌, ◌-◌, ◌<◌, ◌≤◌, Bool, true, false, cond, eqb, ltb, List, [], ◌∷◌, take, drop, length, Option, refl, sym, ap, ◌∙◌, subst, arith, ⊎_elim, length-drop, length-take, take-append-drop}
use Rattle.std.specs.List.{list_any}
use Rattle.std.proofs.lemmas.Bool.{cases_Bool, or_parts, true≢false}
use Rattle.std.proofs.lemmas.List.{drop-drop}
use Rattle.std.proofs.lemmas.List.Folds.{list_any-append}
use Rattle.jm_base.specs.declared.identifiers.Id.{Id}
use Rattle.jm_base.specs.declared.identifiers.Kind.{Kind}
use Rattle.mail_records.specs.Histories.{FloorsAtMost, History, end_of, floor_of, ids_of}
use Rattle.mail_records.specs.States.{ids_between, is_kind_of, last_place, state_at}
use Rattle.mail_records.specs.Tables.{put}
use Rattle.mail_records.proofs.Settled.{floor_low}
use Rattle.change_calls.specs.Changes.{is_within, numbers_with, page_end, touched}
use Rattle.change_calls.proofs.Exact.{IsPage-page_end}
use Rattle.change_calls.proofs.Named.{numbers-append, within_fails}
use Rattle.change_calls.proofs.Next.{ids_split, quiet_numbers, quiet_state}

put_short : (k : ℕ) (ns : List ℕ) → length (put (λ m. m) k ns) ≤ length ns + 1
put_short k [] = omega arith
put_short k (x ∷ xs) =
    ⊎_elim
    (λ (lt : ltb k x ≡ true). rw lt (omega arith))
    (λ (lt : ltb k x ≡ false).
    rw lt
    (⊎_elim
    (λ (s : eqb k x ≡ true). rw s (omega arith))
    (λ (s : eqb k x ≡ false). rw s (let more = put_short k xs in omega arith))
    (cases_Bool (eqb k x))))
    (cases_Bool (ltb k x))

short_step : (b : Bool) (n : ℕ) (ns : List ℕ) → length (cond b (put (λ m. m) n ns) ns) ≤ length ns + 1
short_step true n ns = put_short n ns
short_step false n ns = omega arith

-- so many ids name at most so many numbers
numbers_short : (ids : List Id) (kind : Kind) (ns : List ℕ) → length (numbers_with kind ns ids) ≤ length ns + length ids
numbers_short [] kind ns = omega arith
numbers_short (i ∷ is) kind ns =
    let step = short_step (is_kind_of kind i) i.number ns in
    let rest = numbers_short is kind (cond (is_kind_of kind i) (put (λ m. m) i.number ns) ns) in
    omega arith

one_id : (h : History) (p : ℕ) → length (ids_between h.floor p (p + 1) (ids_of h)) ≤ 1
one_id h p =
    let a = length-drop (p - h.floor) (take (p + 1 - h.floor) (ids_of h)) in
    let b = length-take (p + 1 - h.floor) (ids_of h) in
    grind arith

-- what passes none of a list passes none of its rest
quiet_rest : {A : Type 0} (test : A → Bool) (d : ℕ) (xs : List A) → list_any test xs ≡ false → list_any test (drop d xs) ≡ false
quiet_rest test d xs quiet =
    (or_parts (list_any test (take d xs)) (list_any test (drop d xs))
    (sym (list_any-append test (take d xs) (drop d xs)) ∙ (ap (list_any test) (take-append-drop d xs) ∙ quiet))).1

-- nothing is named since a position that is not before the state
none_since : (h : History) (kind : Kind) (from p : ℕ) → FloorsAtMost h.floors h.floor → state_at h kind p ≤ from → touched h kind from p ≡ []
none_since h kind from p low le =
    let ids = take (p - h.floor) (ids_of h) in
    let a = state_at h kind p - h.floor in
    let d = (from - h.floor) - a in
    let quiet : list_any (is_kind_of kind) (drop a ids) ≡ false =
    quiet_state kind h.floor (floor_of h.floors kind) ids (last_place (is_kind_of kind) ids) (floor_low kind h.floors h.floor low) refl in
    let sum : a + d ≡ from - h.floor = omega arith in
    let rest : list_any (is_kind_of kind) (drop (from - h.floor) ids) ≡ false =
    ap (λ n. list_any (is_kind_of kind) (drop n ids)) (sym sum)
    ∙ (ap (list_any (is_kind_of kind)) (sym (drop-drop d a ids)) ∙ quiet_rest (is_kind_of kind) d (drop a ids) quiet) in
    quiet_numbers (drop (from - h.floor) ids) kind [] rest

within_less : (max : Option ℕ) (a b : ℕ) → a ≤ b → is_within max b ≡ true → is_within max a ≡ true
within_less max a b le pass =
    ⊎_elim
    (λ (t : is_within max a ≡ true). t)
    (λ (t : is_within max a ≡ false). absurd (true≢false (sym pass ∙ within_fails max a b le t)))
    (cases_Bool (is_within max a))

-- a page that is not the last one names some record
names_some : (h : History) (kind : Kind) (max : Option ℕ) (from : ℕ) → from ≤ end_of h → is_within max 1 ≡ true → page_end h kind max from ≢ end_of h → touched h kind from (page_end h kind max from) ≡ [] → ⊥
names_some h kind max from le one not_last none =
    let p = page_end h kind max from in
    let page = IsPage-page_end h kind max from le in
    let later = page.later in
    let within = page.within in
    let next : p + 1 ≤ end_of h = omega arith in
    let split : touched h kind from (p + 1) ≡ numbers_with kind [] (ids_between h.floor p (p + 1) (ids_of h)) =
    ap (numbers_with kind []) (ids_split h from p (p + 1) later (omega arith) within)
    ∙ (numbers-append (ids_between h.floor from p (ids_of h)) (ids_between h.floor p (p + 1) (ids_of h)) kind []
    ∙ ap (λ ns. numbers_with kind ns (ids_between h.floor p (p + 1) (ids_of h))) none) in
    let short = numbers_short (ids_between h.floor p (p + 1) (ids_of h)) kind [] in
    let few = one_id h p in
    let count : length (touched h kind from (p + 1)) ≤ 1 = subst (λ (ns : List ℕ). length ns ≤ 1) (sym split) (omega arith) in
    true≢false (sym (within_less max (length (touched h kind from (p + 1))) 1 count one) ∙ page.greatest (p + 1) (omega arith) next)

pub page_moves : (h : History) (kind : Kind) (max : Option ℕ) (from : ℕ) → FloorsAtMost h.floors h.floor → from ≤ end_of h → is_within max 1 ≡ true → page_end h kind max from ≢ end_of h
    → from < state_at h kind (page_end h kind max from)
page_moves h kind max from low le one not_last =
    let p = page_end h kind max from in
    ⊎_elim
    (λ (lt : ltb from (state_at h kind p) ≡ true). is_low from (state_at h kind p) lt)
    (λ (high : ltb from (state_at h kind p) ≡ false).
    absurd (names_some h kind max from le one not_last (none_since h kind from p low (is_high from (state_at h kind p) high))))
    (cases_Bool (ltb from (state_at h kind p)))
  where
    is_low : (a b : ℕ) → ltb a b ≡ true → a < b
    is_low a b k = grind arith

    is_high : (a b : ℕ) → ltb a b ≡ false → b ≤ a
    is_high a b k = grind arith
