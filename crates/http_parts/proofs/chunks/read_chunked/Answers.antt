use Rattle.std.proofs.Common.{◌≡◌, ◌++◌, length, subst, sym, arith, ◌∙◌}
use Rattle.http_parts.specs.Bodies.{BodyInvalid, BodyTooLong, BodyUnfinished}
use Rattle.http_parts.specs.Chunks.{chunked_body}
use Rattle.http_parts.specs.Parts.{Took, Halts}
use Rattle.http_parts.specs.declared.body_fault.BodyFault.{BodyFault}
use Rattle.http_parts.proofs.Chunked.{as_more, as_last, follows_on, follows_end, follows_fault}
use Rattle.http_parts.proofs.chunks.read_chunked.Goals as goal

pub returns-in-Ok-None-clause-ok : goal.returns-in-Ok-None-clause-ok
returns-in-Ok-None-clause-ok g c =
    follows_end c.args.limit c.args.bytes.now c.chunk.body.items c.read_chunk.new.body.items c.chunk.bytes c.read_chunk.new.bytes c.chunk.passed (g.L.Link.left c.args.link.now) (g.L.Link.left c.chunk.link) (g.L.Link.left c.read_chunk.new.link) c.chunk.invariant.follows
    (as_last c.args.limit c.chunk.body.items c.read_chunk.new.body.items c.chunk.bytes c.read_chunk.new.bytes c.in-Ok-None.field-0 (g.L.Link.left c.chunk.link) (g.L.Link.left c.read_chunk.new.link) c.in-Ok-None.field-0-is c.in-Ok-None.ensures.ok)

pub chunk-preserved : goal.chunk-preserved
chunk-preserved g c =
    let i = c.chunk.invariant in
    let k = as_more c.args.limit c.chunk.body.items c.read_chunk.new.body.items c.chunk.bytes c.read_chunk.new.bytes c.in-Ok-Some.field-0 c.in-Ok-Some.count (g.L.Link.left c.chunk.link) (g.L.Link.left c.read_chunk.new.link) c.in-Ok-Some.field-0-is c.in-Ok-Some.ensures.ok in record {
      follows = follows_on c.args.limit c.args.bytes.now c.chunk.body.items c.read_chunk.new.body.items c.chunk.bytes c.read_chunk.new.bytes c.chunk.passed c.in-Ok-Some.count (g.L.Link.left c.args.link.now) (g.L.Link.left c.chunk.link) (g.L.Link.left c.read_chunk.new.link) i.follows k;
      within = k.2.3;
      few = omega (arith, k.2.2, k.2.4, i.few);
      sized = c.in-Ok-Some.ensures.room ∙ i.sized;
      faults = omega (arith, i.faults, c.in-Ok-Some.ensures.later);
      held = c.in-Ok-Some.ensures.held ∙ i.held;
      put_faults = c.in-Ok-Some.ensures.put_faults ∙ i.put_faults;
    }

pub returns-in-Err-clause-err : goal.returns-in-Err-clause-err
returns-in-Err-clause-err g c =
    subst (λ (z : BodyFault). Took (g.L.Link.left c.args.link.now) (g.L.Link.left c.read_chunk.new.link) (λ t. Halts z (chunked_body c.args.limit (c.args.bytes.now ++ t) ≡ BodyInvalid) (chunked_body c.args.limit (c.args.bytes.now ++ t) ≡ BodyTooLong) (chunked_body c.args.limit (c.args.bytes.now ++ t) ≡ BodyUnfinished) (length (c.args.bytes.now ++ t)) (g.L.Link.left c.read_chunk.new.link) (g.L.Link.read_faults c.args.link.now) (g.L.Link.read_faults c.read_chunk.new.link)))
    (sym c.add_bytes_before.ensures)
    (follows_fault c.args.limit c.args.bytes.now c.chunk.body.items c.chunk.bytes c.chunk.passed (g.L.Link.left c.args.link.now) (g.L.Link.left c.chunk.link) (g.L.Link.left c.read_chunk.new.link) (g.L.Link.read_faults c.args.link.now) (g.L.Link.read_faults c.chunk.link) (g.L.Link.read_faults c.read_chunk.new.link) c.in-Err.fault c.chunk.invariant.follows c.chunk.invariant.faults c.in-Err.ensures.err)
