use Rattle.jmap_http.proofs.Sent.{unsent_refusal}
use Rattle.jmap_http.proofs.refusals.send_refusal.Goals as goal

pub returns-in-Err-clause-sent : goal.returns-in-Err-clause-sent
returns-in-Err-clause-sent g c = unsent_refusal _ _ _ _ _ _ _ c.in-Err.ensures.err
