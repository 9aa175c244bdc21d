use Rattle.std.proofs.Common.{nat_le, length, ap, ◌∙◌}
use Rattle.tidy_check.proofs.Climbing.{root_by_depth}
use Rattle.tidy_check.proofs.roots.has_root.Goals as goal

pub returns-clause-root : goal.returns-clause-root
returns-clause-root c =
    ap (λ ms. nat_le c.in_ok-depth-2.depth (length ms)) c.mailboxes.ensures.items
    ∙ root_by_depth c.args.content.now.content c.in_ok-depth-2.depth c.args.start c.in_ok-depth-2.ensures.depth
