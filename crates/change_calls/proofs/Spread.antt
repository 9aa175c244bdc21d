-- The notes of a kind among all notes: at the positions of the kind, and the marks of both.
use Rattle.std.proofs.Common.{◌≡◌, ℕ, zero, suc, ◌+◌, ◌-◌, ◌<◌, ◌≤◌, Bool, true, false, cond, ltb, List, [], ◌∷◌, Option, Some, None, take, drop, length, get_or, ◌⊎◌, inl, inr, refl, sym, ap, ◌∙◌, subst, arith, length-drop, ⊎_elim}
use Rattle.std.specs.Prelude.{slice_get}
use Rattle.std.proofs.lemmas.Bool.{cases_Bool, ltb-false, ltb-true}
use Rattle.std.proofs.lemmas.List.{drop-map, get_or-drop, length-map, take_all}
use Rattle.std.proofs.lemmas.Option.{slice_get-get_or, slice_get_past}
use Rattle.jm_base.specs.declared.identifiers.Kind.{Kind}
use Rattle.mail_records.specs.States.{ids_between, is_kind, is_kind_of}
use Rattle.state_log.specs.Logs.{Notes, ids_in, log_end, note_id}
use Rattle.state_log.specs.Positions.{positions_of}
use Rattle.state_log.specs.declared.notes.Note.{Note}
use Rattle.state_log.proofs.Spanned.{positions-bounds}
use Rattle.change_calls.specs.Changes.{is_within}
use Rattle.change_calls.specs.TouchedRecords.{IsWalk, before_or_end, marks_after, marks_with, notes_of}
use Rattle.change_calls.specs.declared.touched_records.Mark.{Mark}

pub taken_or_past : (i n : ℕ) → (i < n) ⊎ (n ≤ i)
taken_or_past i n = ⊎_elim (λ (t : ltb i n ≡ true). inl (ltb-true i n t)) (λ (t : ltb i n ≡ false). inr (ltb-false i n t)) (cases_Bool (ltb i n))

-- ---- the notes of the kind

pub length-notes : (kind : Kind) (at : ℕ) (notes : List Note) → length (notes_of kind notes) ≡ length (positions_of kind at (ids_in notes))
length-notes kind at [] = refl
length-notes kind at (n ∷ ns) =
    ⊎_elim
    (λ (t : is_kind kind n.kind ≡ true). rw t (ap suc (length-notes kind (at + 1) ns)))
    (λ (t : is_kind kind n.kind ≡ false). rw t (length-notes kind (at + 1) ns))
    (cases_Bool (is_kind kind n.kind))

-- the note at an index of all notes is the one at another index of those of the kind
abbrev IsThere : Kind → List Note → ℕ → ℕ → Type 0
IsThere kind notes i m =
    (m < length notes)
    × (notes_of kind (take m notes) ≡ take i (notes_of kind notes))
    × (notes_of kind (take (suc m) notes) ≡ take (suc i) (notes_of kind notes))
    × ((d : Note) → get_or (notes_of kind notes) i d ≡ get_or notes m d)

-- each position of the kind is that of the note of its index
pub is_there : (kind : Kind) (at : ℕ) (notes : List Note) (i m : ℕ) → i < length (positions_of kind at (ids_in notes)) → at + m + 1 ≡ get_or (positions_of kind at (ids_in notes)) i 0 → IsThere kind notes i m
is_there kind at [] i m = λ lt is. absurd (omega arith)
is_there kind at (n ∷ ns) zero zero =
    ⊎_elim
    (λ (t : is_kind kind n.kind ≡ true). rw t (λ lt is. (omega arith, refl, refl, λ d. refl)))
    (λ (t : is_kind kind n.kind ≡ false). rw t (λ lt is. let b = (positions-bounds (is_kind_of kind) (at + 1) (ids_in ns) 0 0 lt).0 in absurd (omega (arith, b, is))))
    (cases_Bool (is_kind kind n.kind))
is_there kind at (n ∷ ns) (suc i) zero =
    ⊎_elim
    (λ (t : is_kind kind n.kind ≡ true).
    rw t (λ lt is. let b = (positions-bounds (is_kind_of kind) (at + 1) (ids_in ns) i 0 (omega (arith, lt))).0 in absurd (omega (arith, b, is))))
    (λ (t : is_kind kind n.kind ≡ false). rw t (λ lt is. let b = (positions-bounds (is_kind_of kind) (at + 1) (ids_in ns) (suc i) 0 lt).0 in absurd (omega (arith, b, is))))
    (cases_Bool (is_kind kind n.kind))
is_there kind at (n ∷ ns) zero (suc m) =
    ⊎_elim
    (λ (t : is_kind kind n.kind ≡ true). rw t (λ lt is. absurd (omega (arith, is))))
    (λ (t : is_kind kind n.kind ≡ false).
    rw t (λ lt is. let rest = is_there kind (at + 1) ns 0 m lt (omega (arith, is)) in let low = rest.0 in (omega (arith, low), rest.1, rest.2, rest.3)))
    (cases_Bool (is_kind kind n.kind))
is_there kind at (n ∷ ns) (suc i) (suc m) =
    ⊎_elim
    (λ (t : is_kind kind n.kind ≡ true).
    rw t
    (λ lt is.
    let rest = is_there kind (at + 1) ns i m (omega (arith, lt)) (omega (arith, is)) in
    let low = rest.0 in
    (omega (arith, low), ap (λ zs. n ∷ zs) rest.1, ap (λ zs. n ∷ zs) rest.2, rest.3)))
    (λ (t : is_kind kind n.kind ≡ false).
    rw t (λ lt is. let rest = is_there kind (at + 1) ns (suc i) m lt (omega (arith, is)) in let low = rest.0 in (omega (arith, low), rest.1, rest.2, rest.3)))
    (cases_Bool (is_kind kind n.kind))

-- the note at a position of the kind
pub note_at : (kind : Kind) (floor a : ℕ) (notes : List Note) (ps : List ℕ) (i : ℕ) (d : Note) → ps ≡ positions_of kind (floor + a) (ids_in (drop a notes)) → i < length ps
    → get_or notes (get_or ps i 0 - floor - 1) d ≡ get_or (notes_of kind (drop a notes)) i d
note_at kind floor a notes ps i d is lt =
    let all = positions_of kind (floor + a) (ids_in (drop a notes)) in
    let p = get_or all i 0 in
    let m = p - (floor + a) - 1 in
    let short : i < length all = subst (λ zs. i < length zs) is lt in
    let above = (positions-bounds (is_kind_of kind) (floor + a) (ids_in (drop a notes)) i 0 short).0 in
    let there = is_there kind (floor + a) (drop a notes) i m short (omega (arith, above)) in
    let at : p - floor - 1 ≡ a + m = omega (arith, above) in
    ap (λ zs. get_or notes (get_or zs i 0 - floor - 1) d) is ∙ (ap (λ n. get_or notes n d) at ∙ (sym (get_or-drop a notes m d) ∙ sym (there.3 d)))

-- a position of the kind is above the floor and at most the end
pub position_there : (kind : Kind) (floor a : ℕ) (notes : List Note) (ps : List ℕ) (i : ℕ) → ps ≡ positions_of kind (floor + a) (ids_in (drop a notes)) → i < length ps → a ≤ length notes
    → (floor < get_or ps i 0) × (get_or ps i 0 ≤ floor + length notes)
position_there kind floor a notes ps i is lt within =
    let all = positions_of kind (floor + a) (ids_in (drop a notes)) in
    let b = positions-bounds (is_kind_of kind) (floor + a) (ids_in (drop a notes)) i 0 (subst (λ zs. i < length zs) is lt) in
    let low = b.0 in
    let high = b.1 in
    let size : length (ids_in (drop a notes)) ≡ length notes - a = length-map (drop a notes) note_id ∙ length-drop a notes in
    subst (λ zs. (floor < get_or zs i 0) × (get_or zs i 0 ≤ floor + length notes)) (sym is) (omega (arith, low), omega (arith, high, size, within))

-- ---- the marks

-- notes of other kinds mark nothing
pub marks-notes : (kind : Kind) (notes : List Note) (marks : List (ℕ × Mark)) → marks_with kind marks notes ≡ marks_with kind marks (notes_of kind notes)
marks-notes kind [] marks = refl
marks-notes kind (n ∷ ns) marks =
    step (is_kind kind n.kind) (marks-notes kind ns (marks_after kind marks n))
    (λ (t : is_kind kind n.kind ≡ false). let same : marks_after kind marks n ≡ marks = rw t refl in ap (λ ms. marks_with kind ms ns) same ∙ marks-notes kind ns marks) refl
  where
    step : (b : Bool) → marks_with kind (marks_after kind marks n) ns ≡ marks_with kind (marks_after kind marks n) (notes_of kind ns)
        → (is_kind kind n.kind ≡ false → marks_with kind (marks_after kind marks n) ns ≡ marks_with kind marks (notes_of kind ns)) → is_kind kind n.kind ≡ b
        → marks_with kind (marks_after kind marks n) ns ≡ marks_with kind marks (cond b (n ∷ notes_of kind ns) (notes_of kind ns))
    step true here away t = here
    step false here away t = away t

-- a walk over the notes of the kind is one over all notes, up to the one before the next of the kind
pub IsWalk-all : (kind : Kind) (max : Option ℕ) (at : ℕ) (notes : List Note) (taken count end : ℕ) (marks : List (ℕ × Mark)) → IsWalk kind max (notes_of kind notes) taken marks → end ≡ at + length notes
    → at + count ≡ before_or_end (slice_get (positions_of kind at (ids_in notes)) taken) end → IsWalk kind max notes count marks
IsWalk-all kind max at notes taken count end marks walk all upto =
    let ps = positions_of kind at (ids_in notes) in
    let own = notes_of kind notes in
    let size : length own ≡ length ps = length-notes kind at notes in
    ⊎_elim
    (λ (lt : taken < length ps).
    let above = (positions-bounds (is_kind_of kind) at (ids_in notes) taken 0 lt).0 in
    let found : slice_get ps taken ≡ Some (get_or ps taken 0) = slice_get-get_or ps taken 0 lt in
    let ends : at + count ≡ get_or ps taken 0 - 1 = upto ∙ ap (λ o. before_or_end o end) found in
    let there = is_there kind at notes taken count lt (omega (arith, above, ends)) in
    let low = there.0 in
    let next : count + 1 ≡ suc count = omega arith in
    let more : taken + 1 ≡ suc taken = omega arith in
    record {
      within = omega (arith, low);
      marks_are = walk.marks_are ∙ (ap (marks_with kind []) (sym there.1) ∙ sym (marks-notes kind (take count notes) []));
      few = walk.few;
      most = λ some.
          ap (λ ms. is_within max (length ms))
          (marks-notes kind (take (count + 1) notes) []
          ∙ ap (marks_with kind []) (ap (λ k. notes_of kind (take k notes)) next ∙ (there.2 ∙ ap (λ k. take k own) (sym more))))
          ∙ walk.most (λ same. omega (arith, lt, size, same));
    })
    (λ (le : length ps ≤ taken).
    let found : slice_get ps taken ≡ None = slice_get_past ps taken le in
    let ends : at + count ≡ end = upto ∙ ap (λ o. before_or_end o end) found in
    let whole : count ≡ length notes = omega (arith, ends, all) in
    record {
      within = omega (arith, whole);
      marks_are =
          walk.marks_are
          ∙ (ap (marks_with kind []) (take_all taken own (omega (arith, le, size)))
          ∙ (sym (marks-notes kind notes []) ∙ ap (marks_with kind []) (sym (take_all count notes (omega (arith, whole))))));
      few = walk.few;
      most = λ some. absurd (some whole);
    })
    (taken_or_past taken (length ps))

-- a walk over all notes of the kind
pub IsWalk-whole : (kind : Kind) (max : Option ℕ) (own : List Note) (taken i : ℕ) (marks : List (ℕ × Mark)) → taken ≡ i → i ≡ length own → marks ≡ marks_with kind [] (take i own)
    → is_within max (length marks) ≡ true → IsWalk kind max own taken marks
IsWalk-whole kind max own taken i marks at whole are few = record {
  within = omega (arith, at, whole);
  marks_are = are ∙ ap (λ k. marks_with kind [] (take k own)) (sym at);
  few = few;
  most = λ some. absurd (some (at ∙ whole));
}

-- the ids up to the end of a log are all
pub ids-since : (l : Notes) (from end : ℕ) → end ≡ log_end l → ids_between l.floor from end (ids_in l.notes) ≡ ids_in (drop (from - l.floor) l.notes)
ids-since l from end is =
    let size : length (ids_in l.notes) ≡ length l.notes = length-map l.notes note_id in
    ap (drop (from - l.floor)) (take_all (end - l.floor) (ids_in l.notes) (omega (arith, size, is))) ∙ drop-map note_id (from - l.floor) l.notes

pub notes-since : (l : Notes) (from : ℕ) → drop (from - l.floor) (take (log_end l - l.floor) l.notes) ≡ drop (from - l.floor) l.notes
notes-since l from = ap (drop (from - l.floor)) (take_all (log_end l - l.floor) l.notes (omega arith))
