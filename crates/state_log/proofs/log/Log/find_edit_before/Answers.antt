use Rattle.std.proofs.Common.{◌≡◌, ◌+◌, ◌-◌, ◌≤◌, ◌<◌, ◌∙◌, ap, sym, subst, arith, eqb, filter, length, List, ℕ, Bool}
use Rattle.std.specs.List.{All}
use Rattle.mail_records.specs.States.{ids_between}
use Rattle.state_log.specs.Logs.{edit_before, ids_in}
use Rattle.state_log.specs.Positions.{last_or, number_at, positions_of}
use Rattle.state_log.specs.declared.notes.Note.{Note}
use Rattle.state_log.proofs.Placed.{before-is, span-bounds}
use Rattle.state_log.proofs.log.Log.find_edit_before.Goals as goal

pub find_last_naming-requires : goal.find_last_naming-requires
find_last_naming-requires c =
    let now = c.args.self.now in
    let kind = c.note-note.result.kind in
    let from = c.self.inside.floor in
    let upto = c.args.position - 1 in
    let same : from ≡ now.floor = ap (λ v. v.floor) c.self.view_is in
    subst (λ (ns : List Note). All (λ p. (from < p) × (p ≤ from + length ns)) c.positions_between-positions.result.now) (sym c.deref.ensures.value)
    (subst (λ ps. All (λ p. (from < p) × (p ≤ from + length c.self.inside.notes.items)) ps) (sym c.positions_between-positions.ensures)
    (subst (λ v. All (λ p. (v.floor < p) × (p ≤ v.floor + length v.notes)) (positions_of kind (now.floor + (from - now.floor)) (ids_between now.floor from upto (ids_in now.notes))))
    (sym c.self.view_is) (span-bounds kind now from upto (omega (arith, same, c.requires.above)) (omega (arith, c.requires.within)))))

pub returns : goal.returns
returns c =
    let now = c.args.self.now in
    let n = c.note-note.result in
    let upto = c.args.position - 1 in
    let look : ℕ → ℕ → Bool = λ floor p. eqb (number_at floor (ids_in now.notes) p) n.number in
    λ d.
    c.find_last_naming.ensures
    ∙ (ap (λ ps. last_or (filter (λ p. eqb (number_at c.self.inside.floor (ids_in c.deref.result.now) p) n.number) ps) 0) c.positions_between-positions.ensures
    ∙ (ap
    (λ (ns : List Note).
    last_or (filter (λ p. eqb (number_at c.self.inside.floor (ids_in ns) p) n.number) (positions_of n.kind (now.floor + (c.self.inside.floor - now.floor)) (ids_between now.floor c.self.inside.floor upto (ids_in now.notes)))) 0)
    c.deref.ensures.value
    ∙ (ap (λ v. last_or (filter (λ p. eqb (number_at v.floor (ids_in v.notes) p) n.number) (positions_of n.kind (now.floor + (v.floor - now.floor)) (ids_between now.floor v.floor upto (ids_in now.notes)))) 0) c.self.view_is
    ∙ (before-is now n c.args.position c.requires.above c.requires.within ∙ ap (λ m. edit_before now m c.args.position) (c.note-note.ensures d)))))
