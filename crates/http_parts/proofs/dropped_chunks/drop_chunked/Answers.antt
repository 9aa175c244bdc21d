use Rattle.std.proofs.Common.{◌≡◌, ◌++◌, length, subst, sym, arith, ◌∙◌}
use Rattle.http_parts.specs.Bodies.{BodyInvalid, BodyTooLong, BodyUnfinished}
use Rattle.http_parts.specs.Chunks.{chunked_body}
use Rattle.http_parts.specs.Parts.{Took, Halts}
use Rattle.http_parts.specs.declared.body_fault.BodyFault.{BodyFault}
use Rattle.http_parts.proofs.Dropped.{dropped_on, dropped_less, dropped_end, dropped_halts}
use Rattle.http_parts.proofs.dropped_chunks.drop_chunked.Goals as goal

pub returns-in-Ok-None-clause-ok : goal.returns-in-Ok-None-clause-ok
returns-in-Ok-None-clause-ok g c =
    dropped_end c.args.limit c.chunk.left c.drop_chunk.new.left c.args.bytes.now c.chunk.bytes c.drop_chunk.new.bytes c.chunk.passed c.in-Ok-None.field-0 (g.L.Link.left c.args.link.now) (g.L.Link.left c.chunk.link) (g.L.Link.left c.drop_chunk.new.link) c.chunk.invariant.follows c.in-Ok-None.field-0-is c.in-Ok-None.ensures.ok

pub chunk-preserved : goal.chunk-preserved
chunk-preserved g c =
    let i = c.chunk.invariant in
    let less = dropped_less c.args.limit c.chunk.left c.drop_chunk.new.left c.args.bytes.now c.chunk.bytes c.drop_chunk.new.bytes c.chunk.passed c.in-Ok-Some.count c.in-Ok-Some.field-0 (g.L.Link.left c.args.link.now) (g.L.Link.left c.chunk.link) (g.L.Link.left c.drop_chunk.new.link) i.follows c.in-Ok-Some.field-0-is c.in-Ok-Some.ensures.ok in record {
      follows = dropped_on c.args.limit c.chunk.left c.drop_chunk.new.left c.args.bytes.now c.chunk.bytes c.drop_chunk.new.bytes c.chunk.passed c.in-Ok-Some.count c.in-Ok-Some.field-0 (g.L.Link.left c.args.link.now) (g.L.Link.left c.chunk.link) (g.L.Link.left c.drop_chunk.new.link) i.follows c.in-Ok-Some.field-0-is c.in-Ok-Some.ensures.ok;
      within = omega (arith, i.within, less.0);
      few = omega (arith, i.few, i.within, less.0, less.1);
      sized = c.in-Ok-Some.ensures.room ∙ i.sized;
      faults = omega (arith, i.faults, c.in-Ok-Some.ensures.later);
      held = c.in-Ok-Some.ensures.held ∙ i.held;
      put_faults = c.in-Ok-Some.ensures.put_faults ∙ i.put_faults;
    }

pub returns-in-Err-clause-err : goal.returns-in-Err-clause-err
returns-in-Err-clause-err g c =
    subst (λ (z : BodyFault). Took (g.L.Link.left c.args.link.now) (g.L.Link.left c.drop_chunk.new.link) (λ t. Halts z (chunked_body c.args.limit (c.args.bytes.now ++ t) ≡ BodyInvalid) (chunked_body c.args.limit (c.args.bytes.now ++ t) ≡ BodyTooLong) (chunked_body c.args.limit (c.args.bytes.now ++ t) ≡ BodyUnfinished) (length (c.args.bytes.now ++ t)) (g.L.Link.left c.drop_chunk.new.link) (g.L.Link.read_faults c.args.link.now) (g.L.Link.read_faults c.drop_chunk.new.link)))
    (sym c.add_bytes_before.ensures)
    (dropped_halts c.args.limit c.chunk.left c.args.bytes.now c.chunk.bytes c.chunk.passed (g.L.Link.left c.args.link.now) (g.L.Link.left c.chunk.link) (g.L.Link.left c.drop_chunk.new.link) (g.L.Link.read_faults c.args.link.now) (g.L.Link.read_faults c.chunk.link) (g.L.Link.read_faults c.drop_chunk.new.link) c.in-Err.fault c.chunk.invariant.follows c.chunk.invariant.faults c.in-Err.ensures.err)

pub overflow_add-passed : goal.overflow_add-passed
overflow_add-passed g c =
    let less = dropped_less c.args.limit c.chunk.left c.drop_chunk.new.left c.args.bytes.now c.chunk.bytes c.drop_chunk.new.bytes c.chunk.passed c.in-Ok-Some.count c.in-Ok-Some.field-0 (g.L.Link.left c.args.link.now) (g.L.Link.left c.chunk.link) (g.L.Link.left c.drop_chunk.new.link) c.chunk.invariant.follows c.in-Ok-Some.field-0-is c.in-Ok-Some.ensures.ok in
    omega (arith, c.chunk.invariant.few, c.chunk.invariant.within, less.0, less.1, c.requires.small)

pub chunk-smaller : goal.chunk-smaller
chunk-smaller g c = (dropped_less c.args.limit c.chunk.left c.drop_chunk.new.left c.args.bytes.now c.chunk.bytes c.drop_chunk.new.bytes c.chunk.passed c.in-Ok-Some.count c.in-Ok-Some.field-0 (g.L.Link.left c.args.link.now) (g.L.Link.left c.chunk.link) (g.L.Link.left c.drop_chunk.new.link) c.chunk.invariant.follows c.in-Ok-Some.field-0-is c.in-Ok-Some.ensures.ok).0
