use Rattle.std.proofs.Common.{◌≡◌, ◌++◌, List, ℕ}
use Rattle.http_parts.specs.Bodies.{Whole}
use Rattle.http_parts.specs.Parts.{Took, Passes}
use Rattle.http_parts.specs.Plans.{planned}
use Rattle.http_parts.proofs.Dropped.{on_ok_as, planned_dropped}
use Rattle.http_parts.proofs.bodies.drop_body.Goals as goal

pub returns-in-Sized-clause-ok : goal.returns-in-Sized-clause-ok
returns-in-Sized-clause-ok g c =
    on_ok_as c.drop_sized.result (Took (g.L.Link.left c.args.link.now) (g.L.Link.left c.drop_sized.new.link) (Passes c.in-Sized.size c.args.bytes.now c.drop_sized.new.bytes))
    (Took (g.L.Link.left c.args.link.now) (g.L.Link.left c.drop_sized.new.link) (λ t. (body : List ℕ) × (planned c.args.limit c.args.plan (c.args.bytes.now ++ t) ≡ Whole body c.drop_sized.new.bytes)))
    (planned_dropped c.args.limit c.in-Sized.size c.args.plan c.args.bytes.now c.drop_sized.new.bytes (g.L.Link.left c.args.link.now) (g.L.Link.left c.drop_sized.new.link) c.in-Sized.is c.requires.within) c.drop_sized.ensures.ok
