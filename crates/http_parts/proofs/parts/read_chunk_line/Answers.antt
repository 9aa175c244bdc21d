use Rattle.std.proofs.Common.{rules, ◌≡◌, ℕ, List}
use Rattle.http_parts.specs.Chunks.{chunk_line, LineInvalid, LineUnfinished}
use Rattle.http_parts.proofs.Halted.{halted}
use Rattle.http_parts.proofs.parts.read_chunk_line.Goals as goal

pub returns-in-Err-clause-err : goal.returns-in-Err-clause-err
returns-in-Err-clause-err g c =
    halted (λ (z : List ℕ). chunk_line z ≡ LineInvalid) (λ (z : List ℕ). ⊥) (λ (z : List ℕ). chunk_line z ≡ LineUnfinished) c.args.bytes.now c.turn.bytes (g.L.Link.left c.args.link.now) (g.L.Link.left c.turn.link) (g.L.Link.left c.read_more.new.link) (g.L.Link.read_faults c.args.link.now) (g.L.Link.read_faults c.turn.link) (g.L.Link.read_faults c.read_more.new.link) c.in-Err.fault
    c.turn.invariant.holds c.in-Err.ensures.err (search rules) c.turn.invariant.faults
