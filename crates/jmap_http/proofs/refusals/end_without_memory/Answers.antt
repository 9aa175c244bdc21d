use Rattle.std.proofs.Common.{inl, inr, refl, take, subst}
use Rattle.std.specs.Io.KnownBytes.{Appends}
use Rattle.jmap_http.specs.Connections.{unavailable_bytes}
use Rattle.jmap_http.proofs.refusals.end_without_memory.Goals as goal

pub returns-in-Ok-clause-put : goal.returns-in-Ok-clause-put
returns-in-Ok-clause-put g c =
    (unavailable_bytes, inl refl, subst (λ b. Appends (g.L.Link.held c.args.link.now) (g.L.Link.held c.put_to_link.new.link) b) c.as_bytes.ensures.value c.in-Ok.ensures.ok)

pub returns-in-Err-clause-put : goal.returns-in-Err-clause-put
returns-in-Err-clause-put g c =
    (take c.in-Err.ensures.err.0 unavailable_bytes, inr (c.in-Err.ensures.err.0, refl, c.in-Err.ensures.cause.failed), subst (λ b. Appends (g.L.Link.held c.args.link.now) (g.L.Link.held c.put_to_link.new.link) (take c.in-Err.ensures.err.0 b)) c.as_bytes.ensures.value c.in-Err.ensures.err.1)
