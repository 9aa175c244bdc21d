use Rattle.std.proofs.Common.{ℕ, List, ◌||◌, ap, ◌∙◌}
use Rattle.jm_base.specs.Splices.{has}
use Rattle.query_changes.proofs.ThreadMembers.{same_threads}
use Rattle.query_changes.proofs.touched.add_threads.Goals as goal

pub returns-clause-same : goal.returns-clause-same
returns-clause-same c =
    λ n.
    c.put_in_order-2.ensures.same n
    ∙ (c.in_ok-push_threads.ensures n
    ∙ ap (λ b. has c.args.numbers.now.items n || b)
    (same_threads c.args.content.now.content c.deref.result.now c.args.named.now
    (λ t.
    ap (λ (ts : List ℕ). has ts t) c.deref.ensures.value
    ∙ (c.put_in_order.ensures.same t ∙ ap (λ (ts : List ℕ). has ts t) c.in_ok-threads.ensures.items))
    n))
