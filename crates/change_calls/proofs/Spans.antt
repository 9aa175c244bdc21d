-- From the notes of a log to the page of its history.
use Rattle.std.proofs.Common.{◌≡◌, ◌≢◌, ℕ, ◌+◌, ◌-◌, ◌≤◌, Bool, true, false, ◌&&◌, not, cond, eqb, leb, List, [], ◌∷◌, ◌++◌, map, filter, take, drop, length, Option, Some, None, refl, sym, ap, ap₂, ◌∙◌, subst, arith, ⊎_elim, take-take, take-append-drop, take_all, length-drop, eq-eqb, ne_eqb, le-leb}
use Rattle.std.specs.Prelude.{unwrap_or}
use Rattle.std.specs.List.{AllByRecursion, list_all}
use Rattle.std.specs.Map.{keys_of}
use Rattle.std.proofs.lemmas.Bool.{cases_Bool, cases_eq}
use Rattle.std.proofs.lemmas.List.{drop-map, drop-take, length-map, take-map}
use Rattle.std.proofs.lemmas.Map.Entries.{length-keys_of}
use Rattle.jm_base.specs.declared.identifiers.Kind.{Kind}
use Rattle.mail_records.specs.Contents.{Content, is_present}
use Rattle.mail_records.specs.Edits.{AllFit, after_edit, after_edits, id_of}
use Rattle.mail_records.specs.Histories.{History, content_at, edits_after, edits_between, edits_of, end_of, ids_of}
use Rattle.mail_records.specs.States.{state_at}
use Rattle.mail_records.specs.declared.edits.Edit.{Edit}
use Rattle.mail_records.proofs.Growth.{after_edits-append}
use Rattle.state_log.specs.Logs.{Notes, log_end, note_of}
use Rattle.state_log.specs.declared.notes.Note.{Note}
use Rattle.state_log.proofs.Agreement.{ids_in-notes, log_end-of}
use Rattle.change_calls.specs.Changes.{IsKeptBy, are_only_counts, change_only_counts, created, destroyed, is_some_there, is_there, is_within, may_end, numbers_with, page_end, page_of, touched, updated}
use Rattle.change_calls.specs.TouchedRecords.{IsWalk, are_counts, is_mark, is_same, mark_of, marks_with, numbers_marked, page_with}
use Rattle.change_calls.specs.declared.touched_records.Mark.{Mark}
use Rattle.change_calls.proofs.Greatest.{IsGreatest, greatest_is}
use Rattle.change_calls.proofs.Marking.{Tells, keys-marks, mark_of-marks, mark_with, tells_with}
use Rattle.change_calls.proofs.Named.{numbers-more, numbers-rise, within_fails}
use Rattle.change_calls.proofs.Rising.{Rises, all_entries, keys-filter}

-- ---- positions after a state, counted by the edits since

-- the position after so many edits since a position, or since the floor if that is later
abbrev pub position_after : History → ℕ → ℕ → ℕ
position_after h from count = h.floor + ((from - h.floor) + count)

after_floor : (floor n : ℕ) → floor + n - floor ≡ n
after_floor floor n = omega arith

pub between_is : {A : Type 0} (floor from count : ℕ) (xs : List A) → drop (from - floor) (take (floor + ((from - floor) + count) - floor) xs) ≡ take count (drop (from - floor) xs)
between_is floor from count xs =
    ap (λ n. drop (from - floor) (take n xs)) (after_floor floor ((from - floor) + count)) ∙ drop-take (from - floor) count xs

pub touched_is : (h : History) (kind : Kind) (from count : ℕ) → touched h kind from (position_after h from count) ≡ numbers_with kind [] (map id_of (take count (edits_after h from)))
touched_is h kind from count =
    ap (numbers_with kind [])
    (between_is h.floor from count (ids_of h)
    ∙ (ap (take count) (drop-map id_of (from - h.floor) (edits_of h)) ∙ take-map id_of count (edits_after h from)))

pub edits_are : (h : History) (from count : ℕ) → edits_between h from (position_after h from count) ≡ take count (edits_after h from)
edits_are h from count = between_is h.floor from count (edits_of h)

-- the content at a later position is that at the earlier one after the edits between
pub content_is : (h : History) (from upto : ℕ) → from ≤ upto → content_at h upto ≡ after_edits (content_at h from) (edits_between h from upto)
content_is h from upto le =
    let es = edits_of h in
    let front : take (from - h.floor) (take (upto - h.floor) es) ≡ take (from - h.floor) es = take-take (from - h.floor) (upto - h.floor) es (omega arith) in
    ap (after_edits h.base) (sym (take-append-drop (from - h.floor) (take (upto - h.floor) es)))
    ∙ (after_edits-append (take (from - h.floor) (take (upto - h.floor) es)) (edits_between h from upto) h.base
    ∙ ap (λ fs. after_edits (after_edits h.base fs) (edits_between h from upto)) front)

fit_parts : (xs ys : List Edit) (c : Content) → AllFit c (xs ++ ys) → AllFit c xs × AllFit (after_edits c xs) ys
fit_parts [] ys c fit = (tt, fit)
fit_parts (x ∷ xs) ys c fit = let rest = fit_parts xs ys (after_edit c x) fit.1 in ((fit.0, rest.0), rest.1)

-- the first edits since a position fit the content there
pub fit_between : (h : History) (from count : ℕ) → AllFit h.base (edits_of h) → AllFit (content_at h from) (take count (edits_after h from))
fit_between h from count fit =
    let es = edits_of h in
    let split : take (from - h.floor) es ++ edits_after h from ≡ es = take-append-drop (from - h.floor) es in
    let behind = (fit_parts (take (from - h.floor) es) (edits_after h from) h.base (subst (AllFit h.base) (sym split) fit)).1 in
    let again : take count (edits_after h from) ++ drop count (edits_after h from) ≡ edits_after h from = take-append-drop count (edits_after h from) in
    (fit_parts (take count (edits_after h from)) (drop count (edits_after h from)) (content_at h from) (subst (AllFit (content_at h from)) (sym again) behind)).0

-- ---- what the marks of the first notes say

-- of a history, from a position: the marks of the first edits since
pub record AreMarks (h : History) (kind : Kind) (from p : ℕ) (marks : List (ℕ × Mark)) : Type 0 where
  pub keys : keys_of marks ≡ touched h kind from p
  pub rise : Rises (keys_of marks)
  pub tell : (n : ℕ) → Tells (is_there h kind from n) (is_there h kind p n) (change_only_counts kind (edits_between h from p) n) (mark_of n marks)

pub AreMarks-first : (h : History) (kind : Kind) (from count : ℕ) (marks : List (ℕ × Mark)) → AllFit h.base (edits_of h) → marks ≡ marks_with kind [] (map note_of (take count (edits_after h from)))
    → AreMarks h kind from (position_after h from count) marks
AreMarks-first h kind from count marks fit are =
    let p = position_after h from count in
    let es = take count (edits_after h from) in
    let keys : keys_of marks ≡ numbers_with kind [] (map id_of es) = ap keys_of are ∙ (keys-marks (map note_of es) kind [] ∙ ap (numbers_with kind []) (ids_in-notes es)) in
    let content : content_at h p ≡ after_edits (content_at h from) es = content_is h from p (omega arith) ∙ ap (after_edits (content_at h from)) (edits_are h from count) in
    record {
      keys = keys ∙ sym (touched_is h kind from count);
      rise = subst Rises (sym keys) (numbers-rise (map id_of es) kind [] tt);
      tell = λ n.
          let told = tells_with es kind n (content_at h from) (is_there h kind from n) true None (fit_between h from count fit) (refl, refl) in
          let m : Option Mark = mark_with kind n None es in
          let mark : mark_of n marks ≡ m = ap (mark_of n) are ∙ mark_of-marks es kind n [] in
          subst (λ o. Tells (is_there h kind from n) (is_there h kind p n) (change_only_counts kind (edits_between h from p) n) o) (sym mark)
          (subst (λ (fs : List Edit). Tells (is_there h kind from n) (is_there h kind p n) (change_only_counts kind fs n) m) (sym (edits_are h from count))
          (subst (λ (c : Content). Tells (is_there h kind from n) (is_present c kind n) (change_only_counts kind es n) m) (sym content) told));
    }

-- ---- the lists

same_false : (b : Bool) → is_same b false ≡ not b
same_false true = refl
same_false false = refl

same_true : (b : Bool) → is_same b true ≡ b
same_true true = refl
same_true false = refl

wanted : (before after : Bool) (b a c : Bool) (m : Mark) → Tells b a c (Some m) → is_mark before after m ≡ (is_same b before && is_same a after)
wanted before after b a c m tells = ap₂ (λ x y. is_same x before && is_same y after) tells.0 tells.1

numbers_are : (h : History) (kind : Kind) (from p : ℕ) (marks : List (ℕ × Mark)) (before after : Bool) → AreMarks h kind from p marks
    → numbers_marked before after marks ≡ filter (λ n. is_same (is_there h kind from n) before && is_same (is_there h kind p n) after) (touched h kind from p)
numbers_are h kind from p marks before after are =
    let want : ℕ → Bool = λ n. is_same (is_there h kind from n) before && is_same (is_there h kind p n) after in
    keys-filter (is_mark before after) want marks are.rise
    (λ n v is.
    wanted before after (is_there h kind from n) (is_there h kind p n) (change_only_counts kind (edits_between h from p) n) v
    (subst (Tells (is_there h kind from n) (is_there h kind p n) (change_only_counts kind (edits_between h from p) n)) is (are.tell n)))
    ∙ ap (filter want) are.keys

same_filter : (f g : ℕ → Bool) (ns : List ℕ) → ((n : ℕ) → f n ≡ g n) → filter f ns ≡ filter g ns
same_filter f g [] same = refl
same_filter f g (n ∷ ns) same = ap₂ (λ b rest. cond b (n ∷ rest) rest) (same n) (same_filter f g ns same)

pub created_are : (h : History) (kind : Kind) (from p : ℕ) (marks : List (ℕ × Mark)) → AreMarks h kind from p marks → numbers_marked false true marks ≡ created h kind from p
created_are h kind from p marks are =
    numbers_are h kind from p marks false true are
    ∙ same_filter _ _ (touched h kind from p) (λ n. ap₂ (λ a b. a && b) (same_false (is_there h kind from n)) (same_true (is_there h kind p n)))

pub updated_are : (h : History) (kind : Kind) (from p : ℕ) (marks : List (ℕ × Mark)) → AreMarks h kind from p marks → numbers_marked true true marks ≡ updated h kind from p
updated_are h kind from p marks are =
    numbers_are h kind from p marks true true are
    ∙ same_filter _ _ (touched h kind from p) (λ n. ap₂ (λ a b. a && b) (same_true (is_there h kind from n)) (same_true (is_there h kind p n)))

pub destroyed_are : (h : History) (kind : Kind) (from p : ℕ) (marks : List (ℕ × Mark)) → AreMarks h kind from p marks → numbers_marked true false marks ≡ destroyed h kind from p
destroyed_are h kind from p marks are =
    numbers_are h kind from p marks true false are
    ∙ same_filter _ _ (touched h kind from p) (λ n. ap₂ (λ a b. a && b) (same_true (is_there h kind from n)) (same_false (is_there h kind p n)))

abbrev Counts : (ℕ → Bool) → ℕ → Mark → Type 0
Counts f n m = m.counts ≡ f n

all_counts : (f : ℕ → Bool) (marks : List (ℕ × Mark)) → AllByRecursion (λ e. Counts f e.0 e.1) marks → are_counts marks ≡ list_all f (numbers_marked true true marks)
all_counts f [] all = refl
all_counts f (e ∷ es) all =
    ⊎_elim
    (λ (t : is_mark true true e.1 ≡ true). rw t (ap₂ (λ a b. a && b) all.0 (all_counts f es all.1)))
    (λ (t : is_mark true true e.1 ≡ false). rw t (all_counts f es all.1))
    (cases_Bool (is_mark true true e.1))

counted : (b a c : Bool) (m : Mark) → Tells b a c (Some m) → m.counts ≡ c
counted b a c m tells = tells.2

pub counts_are : (h : History) (kind : Kind) (from p : ℕ) (marks : List (ℕ × Mark)) → AreMarks h kind from p marks → (is_some_there (numbers_marked true true marks) && are_counts marks) ≡ are_only_counts h kind from p
counts_are h kind from p marks are =
    let f : ℕ → Bool = change_only_counts kind (edits_between h from p) in
    let ups = updated_are h kind from p marks are in
    let all : AllByRecursion (λ e. Counts f e.0 e.1) marks =
    all_entries (Counts f) marks are.rise
    (λ n v is.
    counted (is_there h kind from n) (is_there h kind p n) (f n) v
    (subst (Tells (is_there h kind from n) (is_there h kind p n) (f n)) is (are.tell n))) in
    ap₂ (λ a b. a && b) (ap is_some_there ups) (all_counts f marks all ∙ ap (list_all f) ups)

-- ---- the page

pub page_is : (h : History) (kind : Kind) (from p new_state : ℕ) (more : Bool) (marks : List (ℕ × Mark)) → AreMarks h kind from p marks → new_state ≡ state_at h kind p → more ≡ not (eqb p (end_of h))
    → page_with marks new_state more ≡ page_of h kind from p
page_is h kind from p new_state more marks are state mores =
    let cs = created_are h kind from p marks are in
    let us = updated_are h kind from p marks are in
    let ds = destroyed_are h kind from p marks are in
    let os = counts_are h kind from p marks are in
    λ i. record { created = cs i; updated = us i; destroyed = ds i; new_state = state i; more = mores i; counts_only = os i }

-- ---- where the page ends

and_false : (b : Bool) → (b && false) ≡ false
and_false true = refl
and_false false = refl

pub ends_at : (h : History) (kind : Kind) (from : ℕ) (max : Option ℕ) (count : ℕ) → from ≤ end_of h → count ≤ length (edits_after h from)
    → is_within max (length (touched h kind from (position_after h from count))) ≡ true
    → (count ≢ length (edits_after h from) → is_within max (length (numbers_with kind [] (map id_of (take (count + 1) (edits_after h from))))) ≡ false)
    → page_end h kind max from ≡ position_after h from count
ends_at h kind from max count reached within few most =
    let p = position_after h from count in
    let rest = edits_after h from in
    let size : length rest ≡ length (edits_of h) - (from - h.floor) = length-drop (from - h.floor) (edits_of h) in
    let later : leb from p ≡ true = le-leb from p (omega arith) in
    let greatest : IsGreatest (may_end h kind max from) (end_of h) p = record {
      within = omega arith;
      passes = ap (λ b. b && is_within max (length (touched h kind from p))) later ∙ few;
      greatest = λ k above below.
          let j = k - (h.floor + (from - h.floor)) in
          let at : position_after h from j ≡ k = omega arith in
          let next : count + 1 ≤ j = omega arith in
          let not_all : count ≢ length rest = λ same. omega arith in
          let named : touched h kind from k ≡ numbers_with kind [] (take j (map id_of rest)) =
          ap (touched h kind from) (sym at) ∙ (touched_is h kind from j ∙ ap (numbers_with kind []) (sym (take-map id_of j rest))) in
          let full : is_within max (length (numbers_with kind [] (take (count + 1) (map id_of rest)))) ≡ false =
          ap (λ ids. is_within max (length (numbers_with kind [] ids))) (take-map id_of (count + 1) rest) ∙ most not_all in
          let fails : is_within max (length (touched h kind from k)) ≡ false =
          ap (λ (ns : List ℕ). is_within max (length ns)) named
          ∙ within_fails max (length (numbers_with kind [] (take (count + 1) (map id_of rest)))) (length (numbers_with kind [] (take j (map id_of rest)))) (numbers-more (map id_of rest) kind (count + 1) j next) full in
          ap (λ b. leb from k && b) fails ∙ and_false (leb from k);
    } in
    ap (λ o. unwrap_or o from) (greatest_is (may_end h kind max from) (end_of h) p greatest)

-- ---- from the notes of a log

pub more_is : (left p end : ℕ) (more : Bool) → p + left ≡ end → more ≡ not (eqb left 0) → more ≡ not (eqb p end)
more_is left p end more sum is =
    ⊎_elim
    (λ (none : left ≡ 0).
    let here : p ≡ end = omega arith in
    let a : eqb left 0 ≡ true = eq-eqb left 0 none in
    let b : eqb p end ≡ true = eq-eqb p end here in
    is ∙ ap not (a ∙ sym b))
    (λ (some : left ≡ 0 → ⊥).
    let a : eqb left 0 ≡ false = ne_eqb left 0 some in
    let b : eqb p end ≡ false = ne_eqb p end (λ same. some (omega arith)) in
    is ∙ ap not (a ∙ sym b))
    (cases_eq left 0)

-- what the first notes of a log since a position come to is the page of its history
pub page_of-log : (h : History) (l : Notes) (kind : Kind) (from : ℕ) (max : Option ℕ) (notes : List Note) (taken left p new_state : ℕ) (more : Bool) (marks : List (ℕ × Mark))
    → IsKeptBy l h → from ≤ log_end l → notes ≡ drop (from - l.floor) (take (log_end l - l.floor) l.notes) → IsWalk kind max notes taken marks
    → left ≡ length notes - taken → p ≡ log_end l - left → more ≡ not (eqb left 0) → new_state ≡ state_at h kind p
    → page_with marks new_state more ≡ page_of h kind from (page_end h kind max from)
page_of-log h l kind from max notes taken left p new_state more marks kept reached are walk rest_is p_is more_left state =
    let floor = kept.log.floor in
    let end : log_end l ≡ end_of h = log_end-of h l kept.log in
    let rest = edits_after h from in
    let notes_are : notes ≡ map note_of rest =
    are
    ∙ (ap₂ (λ (f : ℕ) (ns : List Note). drop (from - f) ns) floor (take_all (log_end l - l.floor) l.notes (omega arith))
    ∙ (ap (drop (from - h.floor)) kept.log.notes ∙ drop-map note_of (from - h.floor) (edits_of h))) in
    let count : length notes ≡ length rest = ap length notes_are ∙ length-map rest note_of in
    let size : length rest ≡ length (edits_of h) - (from - h.floor) = length-drop (from - h.floor) (edits_of h) in
    let within = walk.within in
    let position : p ≡ position_after h from taken = omega arith in
    let marks_are : marks ≡ marks_with kind [] (map note_of (take taken rest)) =
    walk.marks_are ∙ ap (marks_with kind []) (ap (take taken) notes_are ∙ take-map note_of taken rest) in
    let told = AreMarks-first h kind from taken marks kept.fits marks_are in
    let number : length marks ≡ length (touched h kind from (position_after h from taken)) = sym (length-keys_of marks) ∙ ap length told.keys in
    let few : is_within max (length (touched h kind from (position_after h from taken))) ≡ true = ap (is_within max) (sym number) ∙ walk.few in
    let last : page_end h kind max from ≡ position_after h from taken =
    ends_at h kind from max taken (omega arith) (omega arith) few
    (λ not_all.
    let next : length (marks_with kind [] (take (taken + 1) notes)) ≡ length (numbers_with kind [] (map id_of (take (taken + 1) rest))) =
    ap (λ (ns : List Note). length (marks_with kind [] ns)) (ap (take (taken + 1)) notes_are ∙ take-map note_of (taken + 1) rest)
    ∙ (sym (length-keys_of (marks_with kind [] (map note_of (take (taken + 1) rest))))
    ∙ ap length (keys-marks (map note_of (take (taken + 1) rest)) kind [] ∙ ap (numbers_with kind []) (ids_in-notes (take (taken + 1) rest)))) in
    ap (is_within max) (sym next) ∙ walk.most (λ same. not_all (same ∙ count))) in
    page_is h kind from (position_after h from taken) new_state more marks told (state ∙ ap (state_at h kind) position)
    (more_is left (position_after h from taken) (end_of h) more (omega arith) more_left)
    ∙ ap (page_of h kind from) (sym last)
