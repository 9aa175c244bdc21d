use mir.Val.{to_z, of_z}
use Rattle.std.proofs.Common.{◌≡◌, true, rules, sym, ap₂, w64, ◌∙◌}
use Rattle.std.specs.Prelude.{int_lt}
use Rattle.query_engine.proofs.RowLists.{all_before}
use Rattle.query_engine.proofs.rows.is_before.Goals as goal

pub returns-in-Some : goal.returns-in-Some
returns-in-Some g c =
    let f = g.E.Candidate.timed in
    let last = c.in-Some.last.now in
    let time = c.args.time in
    let one : to_z w64 (of_z w64 c.received.result) ≡ c.received.result = search rules in
    let other : to_z w64 (of_z w64 time) ≡ time = search rules in
    λ e.
    let less : int_lt (f last).received time ≡ true = ap₂ int_lt (sym (one ∙ c.received.ensures)) (sym other) ∙ e in
    all_before f time c.args.entries.now _ last c.in-Some.ensures.cases.0 c.requires less
