use Rattle.std.proofs.Common.{rules, ◌≡◌, ℕ, List}
use Rattle.http_parts.specs.Chunks.{chunk_end, EndInvalid, EndUnfinished}
use Rattle.http_parts.proofs.Halted.{halted}
use Rattle.http_parts.proofs.parts.read_chunk_end.Goals as goal

pub returns-in-Err-clause-err : goal.returns-in-Err-clause-err
returns-in-Err-clause-err g c =
    halted (λ (z : List ℕ). chunk_end z ≡ EndInvalid) (λ (z : List ℕ). ⊥) (λ (z : List ℕ). chunk_end z ≡ EndUnfinished) c.args.bytes.now c.turn.bytes (g.L.Link.left c.args.link.now) (g.L.Link.left c.turn.link) (g.L.Link.left c.read_more.new.link) (g.L.Link.read_faults c.args.link.now) (g.L.Link.read_faults c.turn.link) (g.L.Link.read_faults c.read_more.new.link) c.in-Err.fault
    c.turn.invariant.holds c.in-Err.ensures.err (search rules) c.turn.invariant.faults
