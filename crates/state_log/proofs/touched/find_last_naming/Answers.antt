use Rattle.std.proofs.Common.{◌+◌, ◌<◌, ◌≤◌, ◌∙◌, ◌∷◌, [], ℕ, Bool, eqb, filter, length, sym, ap, subst, eq-eqb, ne_eqb}
use Rattle.std.specs.List.{All}
use Rattle.state_log.specs.Logs.{ids_in}
use Rattle.state_log.specs.Positions.{last_or, number_at}
use Rattle.state_log.proofs.Placed.{number_is}
use Rattle.state_log.proofs.Spanned.{all_front, all_last, last_kept, last_left_out}
use Rattle.state_log.proofs.touched.find_last_naming.Goals as goal

pub returns-then-notes-last : goal.returns-then-notes-last
returns-then-notes-last c =
    let floor = c.args.floor in
    let notes = c.args.notes.now in
    let last = c.in-Some.last.now in
    let before = c.in-Some.before.now in
    let f : ℕ → Bool = λ p. eqb (number_at floor (ids_in notes) p) c.args.number in
    let P : ℕ → Type 0 = λ p. (floor < p) × (p ≤ floor + length notes) in
    let parts = c.in-Some.ensures.cases.0 in
    let here : P last = all_last P before last (subst (λ ps. All P ps) parts c.loop-last.invariant.inside) in
    let names = eq-eqb (number_at floor (ids_in notes) last) c.args.number (sym (number_is floor notes last _ here.0 here.1) ∙ c.if-notes-last.true) in
    sym (last_kept f before last 0 names) ∙ (ap (λ ps. last_or (filter f ps) 0) (sym parts) ∙ c.loop-last.invariant.rest)

pub loop-last-preserved : goal.loop-last-preserved
loop-last-preserved c =
    let floor = c.args.floor in
    let notes = c.args.notes.now in
    let last = c.in-Some.last.now in
    let before = c.in-Some.before.now in
    let f : ℕ → Bool = λ p. eqb (number_at floor (ids_in notes) p) c.args.number in
    let P : ℕ → Type 0 = λ p. (floor < p) × (p ≤ floor + length notes) in
    let parts = c.in-Some.ensures.cases.0 in
    let inside = subst (λ ps. All P ps) parts c.loop-last.invariant.inside in
    let here : P last = all_last P before last inside in
    let other = ne_eqb (number_at floor (ids_in notes) last) c.args.number (λ e. c.if-notes-last.false (number_is floor notes last _ here.0 here.1 ∙ e)) in
    record {
      inside = all_front P before (last ∷ []) inside;
      rest = ap (λ ps. last_or ps 0) (sym (last_left_out f before last other)) ∙ (ap (λ ps. last_or (filter f ps) 0) (sym parts) ∙ c.loop-last.invariant.rest);
    }
