use Rattle.std.proofs.Common.{rules, subst, sym, arith}
use Rattle.http_parts.specs.declared.body_fault.BodyFault.{BodyFault}
use Rattle.http_parts.proofs.ChunkStages.{has_chunk, has_last, StepFault, fault_in_trailer, fault_in_bytes, fault_in_end}
use Rattle.http_parts.proofs.chunks.read_chunk.Goals as goal

pub returns-in-Ok-read_trailer-clause-ok : goal.returns-in-Ok-read_trailer-clause-ok
returns-in-Ok-read_trailer-clause-ok g c =
    has_last c.args.limit c.args.body.now.items c.args.bytes.now c.read_chunk_line.new.bytes c.read_trailer.new.bytes c.in-Ok.head (g.L.Link.left c.args.link.now) (g.L.Link.left c.read_chunk_line.new.link) (g.L.Link.left c.read_trailer.new.link) c.in-Ok.ensures.ok c.if-head-eq0.true c.in-Ok-read_trailer.ensures.ok

pub returns-in-Err-read_trailer-clause-err : goal.returns-in-Err-read_trailer-clause-err
returns-in-Err-read_trailer-clause-err g c =
    subst (λ (z : BodyFault). StepFault c.args.limit c.args.body.now.items c.args.bytes.now z (g.L.Link.left c.args.link.now) (g.L.Link.left c.read_trailer.new.link) (g.L.Link.read_faults c.args.link.now) (g.L.Link.read_faults c.read_trailer.new.link)) (sym c.add_bytes_before.ensures)
    (fault_in_trailer c.args.limit c.args.body.now.items c.args.bytes.now c.read_chunk_line.new.bytes c.in-Ok.head c.in-Err-read_trailer.fault (g.L.Link.left c.args.link.now) (g.L.Link.left c.read_chunk_line.new.link) (g.L.Link.left c.read_trailer.new.link) (g.L.Link.read_faults c.args.link.now) (g.L.Link.read_faults c.read_chunk_line.new.link) (g.L.Link.read_faults c.read_trailer.new.link) c.in-Ok.ensures.ok c.if-head-eq0.true c.in-Ok.ensures.later
    (c.in-Err-read_trailer.ensures.err c.args.body.now.items))

pub returns-in-Err-read_sized-clause-err : goal.returns-in-Err-read_sized-clause-err
returns-in-Err-read_sized-clause-err g c =
    subst (λ (z : BodyFault). StepFault c.args.limit c.args.body.now.items c.args.bytes.now z (g.L.Link.left c.args.link.now) (g.L.Link.left c.read_sized.new.link) (g.L.Link.read_faults c.args.link.now) (g.L.Link.read_faults c.read_sized.new.link)) (sym c.add_bytes_before-in-Err-read_sized.ensures)
    (fault_in_bytes c.args.limit c.args.body.now.items c.args.bytes.now c.read_chunk_line.new.bytes c.in-Ok.head c.in-Err-read_sized.fault (g.L.Link.left c.args.link.now) (g.L.Link.left c.read_chunk_line.new.link) (g.L.Link.left c.read_sized.new.link) (g.L.Link.read_faults c.args.link.now) (g.L.Link.read_faults c.read_chunk_line.new.link) (g.L.Link.read_faults c.read_sized.new.link) c.in-Ok.ensures.ok c.if-head-eq0.false (search rules) c.in-Ok.ensures.later
    c.in-Err-read_sized.ensures.err)

pub returns-in-Ok-read_chunk_end-clause-ok : goal.returns-in-Ok-read_chunk_end-clause-ok
returns-in-Ok-read_chunk_end-clause-ok g c =
    has_chunk c.args.limit c.args.body.now.items c.read_sized.new.buffer.items c.args.bytes.now c.read_chunk_line.new.bytes c.read_sized.new.bytes c.read_chunk_end.new.bytes c.in-Ok.head (g.L.Link.left c.args.link.now) (g.L.Link.left c.read_chunk_line.new.link) (g.L.Link.left c.read_sized.new.link) (g.L.Link.left c.read_chunk_end.new.link) c.in-Ok.ensures.ok c.if-head-eq0.false (search rules)
    c.in-Ok-read_sized.ensures.ok c.in-Ok-read_chunk_end.ensures.ok

pub returns-in-Err-read_chunk_end-clause-err : goal.returns-in-Err-read_chunk_end-clause-err
returns-in-Err-read_chunk_end-clause-err g c =
    subst (λ (z : BodyFault). StepFault c.args.limit c.args.body.now.items c.args.bytes.now z (g.L.Link.left c.args.link.now) (g.L.Link.left c.read_chunk_end.new.link) (g.L.Link.read_faults c.args.link.now) (g.L.Link.read_faults c.read_chunk_end.new.link)) (sym c.add_bytes_before-in-Err-read_chunk_end.ensures)
    (fault_in_end c.args.limit c.args.body.now.items c.read_sized.new.buffer.items c.args.bytes.now c.read_chunk_line.new.bytes c.read_sized.new.bytes c.in-Ok.head c.in-Err-read_chunk_end.fault (g.L.Link.left c.args.link.now) (g.L.Link.left c.read_chunk_line.new.link) (g.L.Link.left c.read_sized.new.link) (g.L.Link.left c.read_chunk_end.new.link) (g.L.Link.read_faults c.args.link.now) (g.L.Link.read_faults c.read_sized.new.link) (g.L.Link.read_faults c.read_chunk_end.new.link) c.in-Ok.ensures.ok c.if-head-eq0.false (search rules)
    c.in-Ok-read_sized.ensures.ok (omega (arith, c.in-Ok.ensures.later, c.in-Ok-read_sized.ensures.later)) c.in-Err-read_chunk_end.ensures.err)
