use Rattle.std.proofs.Common.{◌≡◌, ◌+◌, ◌∙◌, false, is_some, sym, ap, rules}
use Rattle.change_calls.specs.Changes.{is_within}
use Rattle.change_calls.proofs.Taking.{IsFull-new}
use Rattle.change_calls.proofs.touched_records.take_note.Goals as goal

pub returns-then-not-is_within-clause-full : goal.returns-then-not-is_within-clause-full
returns-then-not-is_within-clause-full c =
    let new : is_some c.find_mark-earlier.result ≡ false = search rules in
    λ _.
    IsFull-new c.args.kind c.args.max c.args.marks.now.entries c.args.note.now c.find_mark-earlier.result (sym c.is_of.ensures ∙ c.if-not-is_of.false) c.find_mark-earlier.ensures new
    (ap (λ n. is_within c.args.max (n + 1)) (sym c.len.ensures.len) ∙ (sym c.is_within.ensures ∙ c.if-not-is_within.true))
