use Rattle.std.proofs.Common.{ap₂, subst}
use Rattle.http_wire.specs.Responses.{response_head}
use Rattle.jmap_http.specs.Endings.{IsUnsent}
use Rattle.jmap_http.proofs.Sent.{unsent}
use Rattle.jmap_http.proofs.refusals.put_response_head.Goals as goal

pub returns-in-Err-clause-err : goal.returns-in-Err-clause-err
returns-in-Err-clause-err g c =
    subst (λ b. IsUnsent b (g.L.Link.held c.args.link.now) (g.L.Link.held c.end_unsent.new.link) (g.L.Link.put_faults c.args.link.now) (g.L.Link.put_faults c.end_unsent.new.link) c.end_unsent.result)
    (ap₂ (λ m n. response_head c.args.response.now.status m n c.args.last) c.as_slice-media.ensures c.len-size.ensures)
    (unsent _ _ _ _ _ _ _ _ _ c.in-Err.ensures.err c.in-Err.ensures.cause c.end_unsent.ensures.cut c.end_unsent.ensures.unwritten c.in-Err.ensures.later c.end_unsent.ensures.later)
