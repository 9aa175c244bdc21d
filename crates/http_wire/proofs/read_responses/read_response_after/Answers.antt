use Rattle.std.proofs.Common.{ℕ, List, ◌-◌, take, drop, Err, sym, ap, ◌∙◌, subst}
use Rattle.http_parts.specs.Heads.{Head}
use Rattle.http_parts.specs.declared.fault.WireFault.{WireFault}
use Rattle.http_wire.specs.ReadResponses.{ReadsResponseFrom}
use Rattle.http_wire.proofs.Answered.{head_len}
use Rattle.http_wire.proofs.ResponseRead.{refused_response, whole_response, cut_response}
use Rattle.http_wire.proofs.read_responses.read_response_after.Goals as goal

pub returns-in-Err-clause-read : goal.returns-in-Err-clause-read
returns-in-Err-clause-read g c =
    refused_response c.in-Err.fault c.args.early.now c.args.early.now c.find_head_bytes.result.now (drop c.args.at.end c.args.early.now) (g.L.Link.left c.args.link.now) (g.L.Link.read_faults c.args.link.now)
    (c.requires.head.0 ∙ ap (λ (z : List ℕ). Head z (drop c.args.at.end c.args.early.now)) (sym (c.find_head_bytes.ensures ∙ ap (λ (z : List ℕ). take (c.args.at.end - c.args.at.start) (drop c.args.at.start z)) c.as_slice.ensures))) c.in-Err.ensures.err

pub returns-in-Ok-read_response_body-clause-read : goal.returns-in-Ok-read_response_body-clause-read
returns-in-Ok-read_response_body-clause-read g c =
    whole_response c.args.early.now c.read_response_body.new.early c.find_head_bytes.result.now c.skip.new.self c.in-Ok-read_response_body.body.items c.in-Ok.framed c.make_response.result (g.L.Link.left c.args.link.now) (g.L.Link.left c.read_response_body.new.link) (g.L.Link.read_faults c.args.link.now) (g.L.Link.read_faults c.read_response_body.new.link)
    ((c.requires.head.0 ∙ ap (λ (z : List ℕ). Head z (drop c.args.at.end c.args.early.now)) (sym (c.find_head_bytes.ensures ∙ ap (λ (z : List ℕ). take (c.args.at.end - c.args.at.start) (drop c.args.at.start z)) c.as_slice.ensures))) ∙ ap (λ (z : List ℕ). Head c.find_head_bytes.result.now z) (sym c.skip.ensures)) c.in-Ok.ensures.ok c.in-Ok-read_response_body.ensures.ok c.make_response.ensures

pub returns-in-Err-read_response_body-clause-read : goal.returns-in-Err-read_response_body-clause-read
returns-in-Err-read_response_body-clause-read g c =
    subst (λ (z : WireFault). ReadsResponseFrom c.args.early.now c.read_response_body.new.early (g.L.Link.left c.args.link.now) (g.L.Link.left c.read_response_body.new.link) (g.L.Link.read_faults c.args.link.now) (g.L.Link.read_faults c.read_response_body.new.link) (Err z)) (sym c.find_wire_fault.ensures)
    (cut_response c.in-Err-read_response_body.fault c.args.early.now c.read_response_body.new.early c.find_head_bytes.result.now c.skip.new.self c.in-Ok.framed (c.args.at.end - c.args.at.start) (g.L.Link.left c.args.link.now) (g.L.Link.left c.read_response_body.new.link) (g.L.Link.read_faults c.args.link.now) (g.L.Link.read_faults c.read_response_body.new.link)
    ((c.requires.head.0 ∙ ap (λ (z : List ℕ). Head z (drop c.args.at.end c.args.early.now)) (sym (c.find_head_bytes.ensures ∙ ap (λ (z : List ℕ). take (c.args.at.end - c.args.at.start) (drop c.args.at.start z)) c.as_slice.ensures))) ∙ ap (λ (z : List ℕ). Head c.find_head_bytes.result.now z) (sym c.skip.ensures)) c.in-Ok.ensures.ok (head_len c.args.early.now c.find_head_bytes.result.now c.args.at.start c.args.at.end (c.find_head_bytes.ensures ∙ ap (λ (z : List ℕ). take (c.args.at.end - c.args.at.start) (drop c.args.at.start z)) c.as_slice.ensures) c.requires.head.1.0 c.requires.head.1.1) c.in-Err-read_response_body.ensures.err)
