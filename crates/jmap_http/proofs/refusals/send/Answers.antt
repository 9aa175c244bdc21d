use Rattle.std.proofs.Common.{sym, subst}
use Rattle.std.specs.Io.KnownBytes.{Appends}
use Rattle.jmap_http.specs.Connections.{answer_bytes}
use Rattle.jmap_http.specs.Endings.{IsSent, IsUnsent}
use Rattle.jmap_http.proofs.Sent.{sent_whole, unsent_response}
use Rattle.jmap_http.proofs.refusals.send.Goals as goal

pub returns-in-Ok-clause-sent : goal.returns-in-Ok-clause-sent
returns-in-Ok-clause-sent g c =
    subst (λ o. IsSent c.args.bodiless c.args.asks c.args.at_limit c.args.response.now (g.L.Link.held c.args.link.now) (g.L.Link.held c.put_answer.new.link) (g.L.Link.put_faults c.args.link.now) (g.L.Link.put_faults c.put_answer.new.link) o) (sym c.find_end.ensures)
    (sent_whole c.args.bodiless c.args.asks c.args.at_limit c.args.response.now _ _ _ _ (subst (λ b. Appends (g.L.Link.held c.args.link.now) (g.L.Link.held c.put_answer.new.link) (answer_bytes c.args.bodiless c.args.response.now b)) c.is_last.ensures c.in-Ok.ensures.ok))

pub returns-in-Err-clause-sent : goal.returns-in-Err-clause-sent
returns-in-Err-clause-sent g c =
    unsent_response c.args.bodiless c.args.asks c.args.at_limit c.args.response.now _ _ _ _ _
    (subst (λ b. IsUnsent (answer_bytes c.args.bodiless c.args.response.now b) (g.L.Link.held c.args.link.now) (g.L.Link.held c.put_answer.new.link) (g.L.Link.put_faults c.args.link.now) (g.L.Link.put_faults c.put_answer.new.link) c.in-Err.served) c.is_last.ensures c.in-Err.ensures.err)
