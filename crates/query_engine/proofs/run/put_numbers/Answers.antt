use Rattle.std.proofs.Common.{ℕ, ◌+◌, List, ◌++◌, drop, sym, ap, ◌∙◌}
use Rattle.std.proofs.lemmas.List.{drop_more}
use Rattle.query_engine.specs.Walks.{goes_on}
use Rattle.query_engine.proofs.run.put_numbers.Goals as goal

pub loop-number-preserved : goal.loop-number-preserved
loop-number-preserved c =
    λ (rest : List ℕ).
    let ns = c.args.numbers.now in
    let i = c.loop-number.number-index in
    c.in_ok-put_number.ensures c.args.content.now.content c.find_thread_for.ensures (drop (i + 1) ns ++ rest)
    ∙ (ap (λ (xs : List ℕ). goes_on c.args.content.now.content c.loop-number.page (xs ++ rest)) (sym (drop_more ns i 0 c.loop-number-test.true)) ∙ c.loop-number.invariant rest)
