-- What the marks of notes say of the contents before and after the edits that were noted.
use Rattle.std.proofs.Common.{◌≡◌, ℕ, Bool, true, false, ◌||◌, ◌&&◌, not, cond, eqb, List, [], ◌∷◌, map, Option, Some, None, is_some, refl, sym, ap, ◌∙◌, subst, arith, ⊎_elim, eqb-true}
use Rattle.std.specs.Map.{keys_of}
use Rattle.std.proofs.lemmas.Bool.{cases_Bool, true≢false}
use Rattle.jm_base.specs.declared.identifiers.Kind.{Kind}
use Rattle.jm_base.specs.declared.identifiers.Kind.TheVariants.{Mailbox as OfMailbox, Email as OfEmail, Thread as OfThread}
use Rattle.mail_records.specs.Contents.{Content, is_present, mailbox_at, email_at, thread_at, mailbox_number, email_number, thread_number}
use Rattle.mail_records.specs.Edits.{AllFit, Fits, after_edit, after_edits, id_of}
use Rattle.mail_records.specs.States.{is_id, is_kind, is_kind_of}
use Rattle.mail_records.specs.Tables.{lookup, put, without}
use Rattle.mail_records.specs.declared.edits.Edit.{Edit}
use Rattle.mail_records.specs.declared.edits.Edit.TheVariants.{PutMailbox, DropMailbox, PutEmail, DropEmail, PutThread, DropThread}
use Rattle.mail_records.proofs.Tables.{lookup-put_same, lookup-put_other, lookup-without_same, lookup-without_other}
use Rattle.state_log.specs.Logs.{changes_counts, ids_in, is_put, note_id, note_of, was_there}
use Rattle.state_log.specs.declared.notes.Note.{Note}
use Rattle.change_calls.specs.Changes.{change_only_counts, numbers_with}
use Rattle.change_calls.specs.TouchedRecords.{mark_after, mark_of, marks_after, marks_with}
use Rattle.change_calls.specs.declared.touched_records.Mark.{Mark}
use Rattle.change_calls.proofs.Rising.{keys-insert, lookup-insert}

-- ---- whether a record is there, before and after an edit

put_there : {R : Type 0} (number : R → ℕ) (r : R) (n : ℕ) (xs : List R) → is_some (lookup number n (put number r xs)) ≡ cond (eqb (number r) n) true (is_some (lookup number n xs))
put_there number r n xs =
    ⊎_elim
    (λ (k : eqb (number r) n ≡ true). rw k (ap is_some (lookup-put_same number r n (eqb-true (number r) n k) xs)))
    (λ (k : eqb (number r) n ≡ false). rw k (ap is_some (lookup-put_other number r n k xs)))
    (cases_Bool (eqb (number r) n))

without_there : {R : Type 0} (number : R → ℕ) (m n : ℕ) (xs : List R) → is_some (lookup number n (without number m xs)) ≡ cond (eqb m n) false (is_some (lookup number n xs))
without_there number m n xs =
    ⊎_elim
    (λ (k : eqb m n ≡ true).
    rw k (ap is_some (subst (λ z. lookup number n (without number z xs) ≡ None) (sym (eqb-true m n k)) (lookup-without_same number n xs))))
    (λ (k : eqb m n ≡ false). rw k (ap is_some (lookup-without_other number m n k xs)))
    (cases_Bool (eqb m n))

pub present_after : (kind : Kind) (n : ℕ) (c : Content) (e : Edit) → is_present (after_edit c e) kind n ≡ cond (is_id kind n (id_of e)) (is_put e) (is_present c kind n)
present_after OfMailbox n c (PutMailbox item was counts) = put_there mailbox_number item n c.mailboxes
present_after OfMailbox n c (DropMailbox number) = without_there mailbox_number number n c.mailboxes
present_after OfMailbox n c (PutEmail item was) = refl
present_after OfMailbox n c (DropEmail number thread) = refl
present_after OfMailbox n c (PutThread item was) = refl
present_after OfMailbox n c (DropThread number) = refl
present_after OfEmail n c (PutMailbox item was counts) = refl
present_after OfEmail n c (DropMailbox number) = refl
present_after OfEmail n c (PutEmail item was) = put_there email_number item n c.emails
present_after OfEmail n c (DropEmail number thread) = without_there email_number number n c.emails
present_after OfEmail n c (PutThread item was) = refl
present_after OfEmail n c (DropThread number) = refl
present_after OfThread n c (PutMailbox item was counts) = refl
present_after OfThread n c (DropMailbox number) = refl
present_after OfThread n c (PutEmail item was) = refl
present_after OfThread n c (DropEmail number thread) = refl
present_after OfThread n c (PutThread item was) = put_there thread_number item n c.threads
present_after OfThread n c (DropThread number) = without_there thread_number number n c.threads

-- an edit that fits says whether its record was there
pub present_before : (kind : Kind) (n : ℕ) (c : Content) (e : Edit) → Fits c e → is_id kind n (id_of e) ≡ true → was_there e ≡ is_present c kind n
present_before OfMailbox n c (PutMailbox item was counts) fit h = fit.0 ∙ ap (λ m. is_some (mailbox_at c m)) (eqb-true item.number n h)
present_before OfMailbox n c (DropMailbox number) fit h = sym fit ∙ ap (λ m. is_some (mailbox_at c m)) (eqb-true number n h)
present_before OfMailbox n c (PutEmail item was) fit h = absurd (true≢false (sym h))
present_before OfMailbox n c (DropEmail number thread) fit h = absurd (true≢false (sym h))
present_before OfMailbox n c (PutThread item was) fit h = absurd (true≢false (sym h))
present_before OfMailbox n c (DropThread number) fit h = absurd (true≢false (sym h))
present_before OfEmail n c (PutMailbox item was counts) fit h = absurd (true≢false (sym h))
present_before OfEmail n c (DropMailbox number) fit h = absurd (true≢false (sym h))
present_before OfEmail n c (PutEmail item was) fit h = fit.0 ∙ ap (λ m. is_some (email_at c m)) (eqb-true item.number n h)
present_before OfEmail n c (DropEmail number thread) fit h = sym (ap is_some fit.1) ∙ ap (λ m. is_some (email_at c m)) (eqb-true number n h)
present_before OfEmail n c (PutThread item was) fit h = absurd (true≢false (sym h))
present_before OfEmail n c (DropThread number) fit h = absurd (true≢false (sym h))
present_before OfThread n c (PutMailbox item was counts) fit h = absurd (true≢false (sym h))
present_before OfThread n c (DropMailbox number) fit h = absurd (true≢false (sym h))
present_before OfThread n c (PutEmail item was) fit h = absurd (true≢false (sym h))
present_before OfThread n c (DropEmail number thread) fit h = absurd (true≢false (sym h))
present_before OfThread n c (PutThread item was) fit h = fit.0 ∙ ap (λ m. is_some (thread_at c m)) (eqb-true item.number n h)
present_before OfThread n c (DropThread number) fit h = sym fit ∙ ap (λ m. is_some (thread_at c m)) (eqb-true number n h)

-- ---- one record's mark

-- The mark of a record, or none, says whether the record was there before, whether it is there now, and whether each edit of
-- it changed only counts. Without a mark no edit named it.
abbrev pub Tells : Bool → Bool → Bool → Option Mark → Type 0
Tells before now counts None = (now ≡ before) × (counts ≡ true)
Tells before now counts (Some m) = (m.before ≡ before) × (m.after ≡ now) × (m.counts ≡ counts)

and_true : (b : Bool) → b ≡ (b && true)
and_true true = refl
and_true false = refl

tells_step : (named before now after counts : Bool) (o : Option Mark) (note : Note) → (named ≡ true → note.was ≡ now) → after ≡ cond named note.put now → Tells before now counts o
    → Tells before after (counts && (not named || note.counts)) (cond named (Some (mark_after o note)) o)
tells_step true before now after counts None note was is tells = (was refl ∙ tells.0, sym is, ap (λ b. b && note.counts) (sym tells.1))
tells_step true before now after counts (Some m) note was is tells = (tells.0, sym is, ap (λ b. b && note.counts) tells.2)
tells_step false before now after counts None note was is tells = (is ∙ tells.0, ap (λ b. b && true) tells.1)
tells_step false before now after counts (Some m) note was is tells = (tells.0, tells.1 ∙ sym is, tells.2 ∙ and_true counts)

-- the mark of a record after more edits
abbrev pub mark_with : Kind → ℕ → Option Mark → List Edit → Option Mark
mark_with kind n o [] = o
mark_with kind n o (e ∷ es) = mark_with kind n (cond (is_id kind n (id_of e)) (Some (mark_after o (note_of e))) o) es

and_assoc : (a b c : Bool) → ((a && b) && c) ≡ (a && (b && c))
and_assoc true b c = refl
and_assoc false b c = refl

pub tells_with : (edits : List Edit) (kind : Kind) (n : ℕ) (c : Content) (before counts : Bool) (o : Option Mark) → AllFit c edits → Tells before (is_present c kind n) counts o
    → Tells before (is_present (after_edits c edits) kind n) (counts && change_only_counts kind edits n) (mark_with kind n o edits)
tells_with [] kind n c before counts o fit tells = subst (λ b. Tells before (is_present c kind n) b o) (and_true counts) tells
tells_with (e ∷ es) kind n c before counts o fit tells =
    let named = is_id kind n (id_of e) in
    let here = not named || changes_counts e in
    let next = cond named (Some (mark_after o (note_of e))) o in
    let step : Tells before (is_present (after_edit c e) kind n) (counts && here) next =
    tells_step named before (is_present c kind n) (is_present (after_edit c e) kind n) counts o (note_of e)
    (present_before kind n c e fit.0) (present_after kind n c e) tells in
    subst (λ b. Tells before (is_present (after_edits (after_edit c e) es) kind n) b (mark_with kind n next es)) (and_assoc counts here (change_only_counts kind es n))
    (tells_with es kind n (after_edit c e) before (counts && here) next fit.1 step)

-- ---- the marks of all records

turned : (a b : ℕ) → eqb a b ≡ eqb b a
turned a b = grind arith

mark_step : (kind : Kind) (n : ℕ) (marks : List (ℕ × Mark)) (note : Note) → mark_of n (marks_after kind marks note) ≡ cond (is_id kind n (note_id note)) (Some (mark_after (mark_of n marks) note)) (mark_of n marks)
mark_step kind n marks note =
    ⊎_elim
    (λ (k : is_kind kind note.kind ≡ true).
    rw k
    (lookup-insert n note.number (mark_after (mark_of note.number marks) note) marks
    ∙ (ap (λ b. cond b (Some (mark_after (mark_of note.number marks) note)) (mark_of n marks)) (turned n note.number)
    ∙ ⊎_elim
    (λ (s : eqb note.number n ≡ true). rw s (ap (λ m. Some (mark_after (mark_of m marks) note)) (eqb-true note.number n s)))
    (λ (s : eqb note.number n ≡ false). rw s refl)
    (cases_Bool (eqb note.number n)))))
    (λ (k : is_kind kind note.kind ≡ false). rw k refl)
    (cases_Bool (is_kind kind note.kind))

pub mark_of-marks : (edits : List Edit) (kind : Kind) (n : ℕ) (marks : List (ℕ × Mark)) → mark_of n (marks_with kind marks (map note_of edits)) ≡ mark_with kind n (mark_of n marks) edits
mark_of-marks [] kind n marks = refl
mark_of-marks (e ∷ es) kind n marks =
    mark_of-marks es kind n (marks_after kind marks (note_of e)) ∙ ap (λ o. mark_with kind n o es) (mark_step kind n marks (note_of e))

keys_step : (kind : Kind) (marks : List (ℕ × Mark)) (note : Note) → keys_of (marks_after kind marks note) ≡ cond (is_kind_of kind (note_id note)) (put (λ n. n) note.number (keys_of marks)) (keys_of marks)
keys_step kind marks note =
    ⊎_elim
    (λ (k : is_kind kind note.kind ≡ true). rw k (keys-insert note.number (mark_after (mark_of note.number marks) note) marks))
    (λ (k : is_kind kind note.kind ≡ false). rw k refl)
    (cases_Bool (is_kind kind note.kind))

-- the numbers that have marks are those that the notes name
pub keys-marks : (notes : List Note) (kind : Kind) (marks : List (ℕ × Mark)) → keys_of (marks_with kind marks notes) ≡ numbers_with kind (keys_of marks) (ids_in notes)
keys-marks [] kind marks = refl
keys-marks (n ∷ ns) kind marks =
    keys-marks ns kind (marks_after kind marks n) ∙ ap (λ ks. numbers_with kind ks (ids_in ns)) (keys_step kind marks n)
