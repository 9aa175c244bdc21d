use Rattle.tidy_check.proofs.Climbing.{climbed_back, depths_with}
use Rattle.tidy_check.proofs.roots.descend.Goals as goal

pub loop-number-preserved : goal.loop-number-preserved
loop-number-preserved c =
    let content = c.args.content.now.content in
    let before = c.loop-number.invariant in
    let back = climbed_back content c.args.start c.loop-number.rest.items c.pop.new.self.items c.in-Some.number c.loop-number.total c.in-Some-checked_add.more before.0 c.in-Some.ensures.items c.in-Some-checked_add.ensures.1 in (
      back.0,
      depths_with content c.loop-number.depths c.insert.new.self c.in-Some.number c.in-Some-checked_add.more before.1 back.1 (λ q. c.in_ok-insert.ensures.updates.0 q),
    )
