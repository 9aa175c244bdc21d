use Rattle.std.proofs.Common.{◌≡◌, ◌+◌, ℕ, IfSome, sym, subst, ◌∙◌}
use Rattle.query_engine.proofs.Replied.{sum_decides}
use Rattle.query_engine.proofs.response.count_from.Goals as goal

pub returns-in-Some : goal.returns-in-Some
returns-in-Some c =
    sum_decides c.args.frame.now c.args.position c.in-Some.limit c.add_counts.result c.requires.anchor c.requires.position (sym c.limit_of.ensures ∙ c.in-Some.is)
    (subst (λ (n : ℕ). IfSome c.add_counts.result (λ s. s ≡ c.args.position + n)) c.find_greatest_count.ensures c.add_counts.ensures)
