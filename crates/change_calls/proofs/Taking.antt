-- What one note more does to the marks.
use Rattle.std.proofs.Common.{◌≡◌, ℕ, ◌+◌, ◌<◌, ◌≤◌, true, false, List, [], ◌∷◌, ◌++◌, take, length, get_or, Option, Some, None, is_some, refl, sym, ap, ◌∙◌, subst, arith}
use Rattle.std.specs.BTreeMap.{insert_entry}
use Rattle.std.specs.Ordering.{nat_cmp}
use Rattle.std.proofs.lemmas.List.{take_more}
use Rattle.jm_base.specs.declared.identifiers.Kind.{Kind}
use Rattle.mail_records.specs.States.{is_kind}
use Rattle.state_log.specs.declared.notes.Note.{Note}
use Rattle.change_calls.specs.Changes.{is_within}
use Rattle.change_calls.specs.TouchedRecords.{IsFull, IsTaken, IsWalk, mark_after, mark_of, marks_after, marks_with}
use Rattle.change_calls.specs.declared.touched_records.Mark.{Mark}
use Rattle.change_calls.proofs.Rising.{length-insert_new}

-- a note of another kind marks nothing
pub IsTaken-other : (kind : Kind) (max : Option ℕ) (marks : List (ℕ × Mark)) (note : Note) → is_kind kind note.kind ≡ false → is_within max (length marks) ≡ true → IsTaken kind max marks note marks
IsTaken-other kind max marks note away few = record { marks_are = rw away refl; few = few }

few_after : (max : Option ℕ) (count : ℕ) (earlier : Option Mark) (length_new : ℕ) → is_within max count ≡ true → (is_some earlier ≡ false → is_within max (count + 1) ≡ true)
    → (is_some earlier ≡ true → length_new ≡ count) → (is_some earlier ≡ false → length_new ≡ count + 1) → is_within max length_new ≡ true
few_after max count (Some m) length_new few room same more = ap (is_within max) (same refl) ∙ few
few_after max count None length_new few room same more = ap (is_within max) (more refl) ∙ room refl

-- a note of the kind sets its record's mark
pub IsTaken-marked : (kind : Kind) (max : Option ℕ) (marks new : List (ℕ × Mark)) (note : Note) (earlier : Option Mark) → is_kind kind note.kind ≡ true → earlier ≡ mark_of note.number marks
    → new ≡ insert_entry nat_cmp marks note.number (mark_after earlier note) → is_within max (length marks) ≡ true → (is_some earlier ≡ false → is_within max (length marks + 1) ≡ true)
    → (is_some earlier ≡ true → length new ≡ length marks) → (is_some earlier ≡ false → length new ≡ length marks + 1) → IsTaken kind max marks note new
IsTaken-marked kind max marks new note earlier here found sets few room same more = record {
  marks_are = sets ∙ (ap (λ o. insert_entry nat_cmp marks note.number (mark_after o note)) found ∙ (rw here refl));
  few = few_after max (length marks) earlier (length new) few room same more;
}

-- a note of the kind would set one mark too many
pub IsFull-new : (kind : Kind) (max : Option ℕ) (marks : List (ℕ × Mark)) (note : Note) (earlier : Option Mark) → is_kind kind note.kind ≡ true → earlier ≡ mark_of note.number marks → is_some earlier ≡ false
    → is_within max (length marks + 1) ≡ false → IsFull kind max marks note marks
IsFull-new kind max marks note (Some m) here found new full = absurd (cc)
IsFull-new kind max marks note None here found new full = record {
  same = refl;
  most = rw here (ap (is_within max) (length-insert_new note.number (mark_after (mark_of note.number marks) note) marks (sym found)) ∙ full);
}

-- ---- the notes one after the other

pub marks_with-append : (xs ys : List Note) (kind : Kind) (marks : List (ℕ × Mark)) → marks_with kind marks (xs ++ ys) ≡ marks_with kind (marks_with kind marks xs) ys
marks_with-append [] ys kind marks = refl
marks_with-append (x ∷ xs) ys kind marks = marks_with-append xs ys kind (marks_after kind marks x)

pub one_more : (kind : Kind) (notes : List Note) (i : ℕ) (d : Note) → i + 1 ≤ length notes → marks_with kind [] (take (i + 1) notes) ≡ marks_after kind (marks_with kind [] (take i notes)) (get_or notes i d)
one_more kind notes i d le =
    ap (marks_with kind []) (take_more notes i d (omega arith)) ∙ marks_with-append (take i notes) (get_or notes i d ∷ []) kind []

pub next_marks : (kind : Kind) (max : Option ℕ) (notes : List Note) (i : ℕ) (d : Note) (old new : List (ℕ × Mark)) → i < length notes → old ≡ marks_with kind [] (take i notes)
    → IsTaken kind max old (get_or notes i d) new → new ≡ marks_with kind [] (take (i + 1) notes)
next_marks kind max notes i d old new lt are taken =
    taken.marks_are ∙ (ap (λ ms. marks_after kind ms (get_or notes i d)) are ∙ sym (one_more kind notes i d (omega arith)))

pub IsWalk-full : (kind : Kind) (max : Option ℕ) (notes : List Note) (i taken : ℕ) (d : Note) (old new : List (ℕ × Mark)) → taken ≡ i → i < length notes → old ≡ marks_with kind [] (take i notes)
    → is_within max (length old) ≡ true → IsFull kind max old (get_or notes i d) new → IsWalk kind max notes taken new
IsWalk-full kind max notes i taken d old new at lt are few full =
    let here : IsWalk kind max notes i new = record {
      within = omega arith;
      marks_are = full.same ∙ are;
      few = ap (λ ms. is_within max (length ms)) full.same ∙ few;
      most = λ some.
          ap (λ ms. is_within max (length ms)) (one_more kind notes i d (omega arith) ∙ ap (λ ms. marks_after kind ms (get_or notes i d)) (sym are)) ∙ full.most;
    } in
    subst (λ k. IsWalk kind max notes k new) (sym at) here
