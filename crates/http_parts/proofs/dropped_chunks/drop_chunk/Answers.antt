use Rattle.std.proofs.Common.{rules, subst, sym, arith}
use Rattle.http_parts.specs.declared.body_fault.BodyFault.{BodyFault}
use Rattle.http_parts.proofs.Dropped.{DropFault, drops_chunk, drops_last, drop_fault_in_line, drop_fault_in_trailer, drop_fault_in_bytes, drop_fault_in_end}
use Rattle.http_parts.proofs.dropped_chunks.drop_chunk.Goals as goal

pub returns-in-Err-clause-err : goal.returns-in-Err-clause-err
returns-in-Err-clause-err g c =
    drop_fault_in_line c.args.left.now c.args.bytes.now c.in-Err.fault (g.L.Link.left c.args.link.now) (g.L.Link.left c.read_chunk_line.new.link) (g.L.Link.read_faults c.args.link.now) (g.L.Link.read_faults c.read_chunk_line.new.link) c.in-Err.ensures.err

pub returns-in-Ok-read_trailer-clause-ok : goal.returns-in-Ok-read_trailer-clause-ok
returns-in-Ok-read_trailer-clause-ok g c =
    drops_last c.args.left.now c.args.bytes.now c.read_chunk_line.new.bytes c.read_trailer.new.bytes c.in-Ok.head (g.L.Link.left c.args.link.now) (g.L.Link.left c.read_chunk_line.new.link) (g.L.Link.left c.read_trailer.new.link) c.in-Ok.ensures.ok c.if-head-eq0.true c.in-Ok-read_trailer.ensures.ok

pub returns-in-Err-read_trailer-clause-err : goal.returns-in-Err-read_trailer-clause-err
returns-in-Err-read_trailer-clause-err g c =
    subst (λ (z : BodyFault). DropFault c.args.left.now c.args.bytes.now z (g.L.Link.left c.args.link.now) (g.L.Link.left c.read_trailer.new.link) (g.L.Link.read_faults c.args.link.now) (g.L.Link.read_faults c.read_trailer.new.link)) (sym c.add_bytes_before.ensures)
    (drop_fault_in_trailer c.args.left.now c.args.bytes.now c.read_chunk_line.new.bytes c.in-Ok.head c.in-Err-read_trailer.fault (g.L.Link.left c.args.link.now) (g.L.Link.left c.read_chunk_line.new.link) (g.L.Link.left c.read_trailer.new.link) (g.L.Link.read_faults c.args.link.now) (g.L.Link.read_faults c.read_chunk_line.new.link) (g.L.Link.read_faults c.read_trailer.new.link) c.in-Ok.ensures.ok c.if-head-eq0.true c.in-Ok.ensures.later
    c.in-Err-read_trailer.ensures.err)

pub returns-in-Err-drop_sized-clause-err : goal.returns-in-Err-drop_sized-clause-err
returns-in-Err-drop_sized-clause-err g c =
    subst (λ (z : BodyFault). DropFault c.args.left.now c.args.bytes.now z (g.L.Link.left c.args.link.now) (g.L.Link.left c.drop_sized.new.link) (g.L.Link.read_faults c.args.link.now) (g.L.Link.read_faults c.drop_sized.new.link)) (sym c.add_bytes_before-in-Err-drop_sized.ensures)
    (drop_fault_in_bytes c.args.left.now c.args.bytes.now c.read_chunk_line.new.bytes c.in-Ok.head c.in-Err-drop_sized.fault (g.L.Link.left c.args.link.now) (g.L.Link.left c.read_chunk_line.new.link) (g.L.Link.left c.drop_sized.new.link) (g.L.Link.read_faults c.args.link.now) (g.L.Link.read_faults c.read_chunk_line.new.link) (g.L.Link.read_faults c.drop_sized.new.link) c.in-Ok.ensures.ok c.if-head-eq0.false (search rules) c.in-Ok.ensures.later
    c.in-Err-drop_sized.ensures.err)

pub returns-in-Ok-read_chunk_end-clause-ok : goal.returns-in-Ok-read_chunk_end-clause-ok
returns-in-Ok-read_chunk_end-clause-ok g c =
    drops_chunk c.args.left.now _ c.args.bytes.now c.read_chunk_line.new.bytes c.drop_sized.new.bytes c.read_chunk_end.new.bytes c.in-Ok.head (g.L.Link.left c.args.link.now) (g.L.Link.left c.read_chunk_line.new.link) (g.L.Link.left c.drop_sized.new.link) (g.L.Link.left c.read_chunk_end.new.link) c.in-Ok.ensures.ok c.if-head-eq0.false (search rules) (search rules)
    c.in-Ok-drop_sized.ensures.ok c.in-Ok-read_chunk_end.ensures.ok

pub returns-in-Err-read_chunk_end-clause-err : goal.returns-in-Err-read_chunk_end-clause-err
returns-in-Err-read_chunk_end-clause-err g c =
    subst (λ (z : BodyFault). DropFault c.args.left.now c.args.bytes.now z (g.L.Link.left c.args.link.now) (g.L.Link.left c.read_chunk_end.new.link) (g.L.Link.read_faults c.args.link.now) (g.L.Link.read_faults c.read_chunk_end.new.link)) (sym c.add_bytes_before-in-Err-read_chunk_end.ensures)
    (drop_fault_in_end c.args.left.now c.args.bytes.now c.read_chunk_line.new.bytes c.drop_sized.new.bytes c.in-Ok.head c.in-Err-read_chunk_end.fault (g.L.Link.left c.args.link.now) (g.L.Link.left c.read_chunk_line.new.link) (g.L.Link.left c.drop_sized.new.link) (g.L.Link.left c.read_chunk_end.new.link) (g.L.Link.read_faults c.args.link.now) (g.L.Link.read_faults c.drop_sized.new.link) (g.L.Link.read_faults c.read_chunk_end.new.link) c.in-Ok.ensures.ok c.if-head-eq0.false (search rules)
    c.in-Ok-drop_sized.ensures.ok (omega (arith, c.in-Ok.ensures.later, c.in-Ok-drop_sized.ensures.later)) c.in-Err-read_chunk_end.ensures.err)
