-- The page that a walk over the positions of a kind comes to.
use Rattle.std.proofs.Common.{◌≡◌, ℕ, ◌+◌, ◌-◌, ◌≤◌, ◌<◌, Bool, not, eqb, List, Option, Some, drop, length, get_or, refl, sym, ap, ◌∙◌, subst, arith, length-drop, ⊎_elim}
use Rattle.std.specs.Prelude.{slice_get}
use Rattle.std.proofs.lemmas.Option.{slice_get-get_or, slice_get_past}
use Rattle.jm_base.specs.declared.identifiers.Kind.{Kind}
use Rattle.mail_records.specs.Histories.{History}
use Rattle.mail_records.specs.States.{is_kind_of, state_at}
use Rattle.state_log.specs.Logs.{Notes, ids_in, log_end}
use Rattle.state_log.specs.Positions.{positions_of}
use Rattle.state_log.specs.declared.notes.Note.{Note}
use Rattle.state_log.proofs.Spanned.{positions-bounds}
use Rattle.change_calls.specs.Changes.{IsKeptBy, page_end, page_of}
use Rattle.change_calls.specs.TouchedRecords.{IsWalk, before_or_end, notes_of, page_with}
use Rattle.change_calls.specs.declared.touched_records.Mark.{Mark}
use Rattle.change_calls.proofs.Spans.{more_is, page_of-log}
use Rattle.change_calls.proofs.Spread.{IsWalk-all, notes-since, position_there, taken_or_past}

-- a page ends at the state or after it, and at the end or before it
page_bounds : (kind : Kind) (floor a : ℕ) (notes : List Note) (ps : List ℕ) (taken : ℕ) → ps ≡ positions_of kind (floor + a) (ids_in (drop a notes)) → a ≤ length notes
    → (floor + a ≤ before_or_end (slice_get ps taken) (floor + length notes)) × (before_or_end (slice_get ps taken) (floor + length notes) ≤ floor + length notes)
page_bounds kind floor a notes ps taken is within =
    ⊎_elim
    (λ (lt : taken < length ps).
    let found : slice_get ps taken ≡ Some (get_or ps taken 0) = slice_get-get_or ps taken 0 lt in
    let all = positions_of kind (floor + a) (ids_in (drop a notes)) in
    let above = (positions-bounds (is_kind_of kind) (floor + a) (ids_in (drop a notes)) taken 0 (subst (λ zs. taken < length zs) is lt)).0 in
    let same : get_or ps taken 0 ≡ get_or all taken 0 = ap (λ zs. get_or zs taken 0) is in
    let high = (position_there kind floor a notes ps taken is lt within).1 in
    subst (λ o. (floor + a ≤ before_or_end o (floor + length notes)) × (before_or_end o (floor + length notes) ≤ floor + length notes)) (sym found)
    (omega (arith, above, same), omega (arith, high)))
    (λ (le : length ps ≤ taken).
    subst (λ o. (floor + a ≤ before_or_end o (floor + length notes)) × (before_or_end o (floor + length notes) ≤ floor + length notes)) (sym (slice_get_past ps taken le))
    (omega (arith, within), omega arith))
    (taken_or_past taken (length ps))

pub page_of-positions : (h : History) (l : Notes) (kind : Kind) (from : ℕ) (max : Option ℕ) (ps : List ℕ) (taken upto end new_state : ℕ) (more : Bool) (marks : List (ℕ × Mark))
    → IsKeptBy l h → from ≤ log_end l → ps ≡ positions_of kind (l.floor + (from - l.floor)) (ids_in (drop (from - l.floor) l.notes))
    → IsWalk kind max (notes_of kind (drop (from - l.floor) l.notes)) taken marks → end ≡ log_end l → upto ≡ before_or_end (slice_get ps taken) end
    → more ≡ not (eqb upto end) → new_state ≡ state_at h kind upto → page_with marks new_state more ≡ page_of h kind from (page_end h kind max from)
page_of-positions h l kind from max ps taken upto end new_state more marks kept reached are walk end_is upto_is more_is_so state =
    let floor = l.floor in
    let a = from - floor in
    let notes = drop a l.notes in
    let at = floor + a in
    let within : a ≤ length l.notes = omega (arith, reached) in
    let size : length notes ≡ length l.notes - a = length-drop a l.notes in
    let bounds = page_bounds kind floor a l.notes ps taken are within in
    let here : upto ≡ before_or_end (slice_get ps taken) (floor + length l.notes) = upto_is ∙ ap (before_or_end (slice_get ps taken)) end_is in
    let low : at ≤ upto = omega (arith, here, bounds.0) in
    let high : upto ≤ floor + length l.notes = omega (arith, here, bounds.1) in
    let count = upto - at in
    let left = length notes - count in
    let all : end ≡ at + length notes = omega (arith, end_is, size, within) in
    let counted : at + count ≡ before_or_end (slice_get (positions_of kind at (ids_in notes)) taken) end =
    let e : at + count ≡ upto = omega (arith, low) in e ∙ (upto_is ∙ ap (λ zs. before_or_end (slice_get zs taken) end) are) in
    let sum : upto + left ≡ end = omega (arith, low, high, all, size, within) in
    page_of-log h l kind from max notes count left upto new_state more marks kept reached (sym (notes-since l from))
    (IsWalk-all kind max at notes taken count end marks walk all counted)
    refl (omega (arith, sum, end_is)) (more_is_so ∙ sym (more_is left upto end (not (eqb left 0)) sum refl)) state
