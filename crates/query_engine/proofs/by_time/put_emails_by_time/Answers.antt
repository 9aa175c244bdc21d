use Rattle.std.proofs.Common.{ℕ, List, OnOk, subst, ◌∙◌}
use Rattle.query_engine.specs.Walks.{Follows}
use Rattle.query_engine.proofs.by_time.put_emails_by_time.Goals as goal

pub returns : goal.returns
returns g c =
    subst (λ (ns : List ℕ). OnOk c.put_numbers.result (Follows c.args.content.now.content c.args.page.now c.put_numbers.new.page ns)) (c.deref.ensures.value ∙ c.in_ok-numbers.ensures) c.put_numbers.ensures
