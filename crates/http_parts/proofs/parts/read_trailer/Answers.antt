use Rattle.std.proofs.Common.{◌≡◌, ℕ, List, sym, ap, ◌∙◌}
use Rattle.http_parts.specs.Bodies.{BodyInvalid, BodyUnfinished}
use Rattle.http_parts.specs.Chunks.{trailer}
use Rattle.http_parts.proofs.Halted.{halted}
use Rattle.http_parts.proofs.parts.read_trailer.Goals as goal

pub returns-in-Err-clause-err : goal.returns-in-Err-clause-err
returns-in-Err-clause-err g c body =
    halted (λ (z : List ℕ). trailer body z ≡ BodyInvalid) (λ (z : List ℕ). ⊥) (λ (z : List ℕ). trailer body z ≡ BodyUnfinished) c.args.bytes.now c.turn.bytes (g.L.Link.left c.args.link.now) (g.L.Link.left c.turn.link) (g.L.Link.left c.read_more.new.link) (g.L.Link.read_faults c.args.link.now) (g.L.Link.read_faults c.turn.link) (g.L.Link.read_faults c.read_more.new.link) c.in-Err.fault
    c.turn.invariant.holds c.in-Err.ensures.err (ap (trailer body) (sym c.as_slice.ensures) ∙ sym (c.in-Unfinished.ensures.value body)) c.turn.invariant.faults
