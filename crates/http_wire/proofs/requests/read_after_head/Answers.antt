use Rattle.std.proofs.Common.{Err, ◌-◌, ℕ, List, take, drop, sym, ap, ◌∙◌, subst}
use Rattle.http_parts.specs.Heads.{Head}
use Rattle.http_wire.specs.Fields.{pairs}
use Rattle.http_wire.specs.Requests.{ReadsRequestFrom}
use Rattle.http_wire.specs.declared.request.HttpField.{HttpField}
use Rattle.http_parts.specs.declared.fault.WireFault.{WireFault}
use Rattle.http_wire.proofs.Answered.{rejected_request, unwritten_request, whole_after, cut_after, head_len}
use Rattle.http_wire.proofs.requests.read_after_head.Goals as goal

pub returns-in-Err-clause-read : goal.returns-in-Err-clause-read
returns-in-Err-clause-read g c =
    rejected_request (g.B.KeepsBody.is_kept c.args.keeper.now) c.in-Err.fault c.args.early.now c.args.early.now c.find_head_bytes.result.now (drop c.args.at.end c.args.early.now) (g.L.Link.left c.args.link.now) (g.L.Link.held c.args.link.now) (g.L.Link.read_faults c.args.link.now) (g.L.Link.put_faults c.args.link.now)
    (c.requires.head.0 ∙ ap (λ (z : List ℕ). Head z (drop c.args.at.end c.args.early.now)) (sym (c.find_head_bytes.ensures ∙ ap (λ (z : List ℕ). take (c.args.at.end - c.args.at.start) (drop c.args.at.start z)) c.as_slice.ensures))) c.in-Err.ensures.err

pub returns-in-Err-put_continue-clause-read : goal.returns-in-Err-put_continue-clause-read
returns-in-Err-put_continue-clause-read g c =
    unwritten_request (g.B.KeepsBody.is_kept c.args.keeper.now) c.in-Err-put_continue.fault c.args.early.now c.args.early.now c.find_head_bytes.result.now (drop c.args.at.end c.args.early.now) c.in-Ok.framed (g.L.Link.left c.args.link.now) (g.L.Link.left c.put_continue.new.link) (g.L.Link.held c.args.link.now) (g.L.Link.held c.put_continue.new.link) (g.L.Link.read_faults c.args.link.now) (g.L.Link.read_faults c.put_continue.new.link) (g.L.Link.put_faults c.args.link.now) (g.L.Link.put_faults c.put_continue.new.link)
    (c.requires.head.0 ∙ ap (λ (z : List ℕ). Head z (drop c.args.at.end c.args.early.now)) (sym (c.find_head_bytes.ensures ∙ ap (λ (z : List ℕ). take (c.args.at.end - c.args.at.start) (drop c.args.at.start z)) c.as_slice.ensures))) c.in-Ok.ensures.ok c.in-Err-put_continue.ensures.due c.in-Err-put_continue.ensures.left c.in-Err-put_continue.ensures.err c.in-Err-put_continue.ensures.cause

pub returns-in-Ok-take_body-clause-read : goal.returns-in-Ok-take_body-clause-read
returns-in-Ok-take_body-clause-read g c =
    whole_after (g.B.KeepsBody.is_kept c.args.keeper.now) c.keeps_body-keep.result c.args.early.now c.take_body.new.early c.find_head_bytes.result.now c.skip.new.self c.in-Ok-take_body.body.items c.in-Ok.framed c.make_request.result (g.L.Link.left c.args.link.now) (g.L.Link.left c.put_continue.new.link) (g.L.Link.left c.take_body.new.link) (g.L.Link.held c.args.link.now) (g.L.Link.held c.put_continue.new.link) (g.L.Link.held c.take_body.new.link) (g.L.Link.read_faults c.args.link.now) (g.L.Link.read_faults c.take_body.new.link) (g.L.Link.put_faults c.args.link.now) (g.L.Link.put_faults c.take_body.new.link)
    ((c.requires.head.0 ∙ ap (λ (z : List ℕ). Head z (drop c.args.at.end c.args.early.now)) (sym (c.find_head_bytes.ensures ∙ ap (λ (z : List ℕ). take (c.args.at.end - c.args.at.start) (drop c.args.at.start z)) c.as_slice.ensures))) ∙ ap (λ (z : List ℕ). Head c.find_head_bytes.result.now z) (sym c.skip.ensures)) c.in-Ok.ensures.ok c.in-Ok-put_continue.ensures.left c.in-Ok-take_body.ensures.held c.in-Ok-put_continue.ensures.ok (c.keeps_body-keep.ensures ∙ ap (λ (z : List HttpField). g.B.KeepsBody.is_kept c.args.keeper.now (pairs z)) c.as_slice-2.ensures) c.in-Ok-take_body.ensures.ok c.make_request.ensures

pub returns-in-Err-take_body-clause-read : goal.returns-in-Err-take_body-clause-read
returns-in-Err-take_body-clause-read g c =
    subst (λ (z : WireFault). ReadsRequestFrom (g.B.KeepsBody.is_kept c.args.keeper.now) c.args.early.now c.take_body.new.early (g.L.Link.left c.args.link.now) (g.L.Link.left c.take_body.new.link) (g.L.Link.held c.args.link.now) (g.L.Link.held c.take_body.new.link) (g.L.Link.read_faults c.args.link.now) (g.L.Link.read_faults c.take_body.new.link) (g.L.Link.put_faults c.args.link.now) (g.L.Link.put_faults c.take_body.new.link) (Err z)) (sym c.find_wire_fault.ensures)
    (cut_after (g.B.KeepsBody.is_kept c.args.keeper.now) c.in-Err-take_body.fault c.args.early.now c.take_body.new.early c.find_head_bytes.result.now c.skip.new.self c.in-Ok.framed (c.args.at.end - c.args.at.start) (g.L.Link.left c.args.link.now) (g.L.Link.left c.put_continue.new.link) (g.L.Link.left c.take_body.new.link) (g.L.Link.held c.args.link.now) (g.L.Link.held c.put_continue.new.link) (g.L.Link.held c.take_body.new.link) (g.L.Link.read_faults c.args.link.now) (g.L.Link.read_faults c.put_continue.new.link) (g.L.Link.read_faults c.take_body.new.link) (g.L.Link.put_faults c.args.link.now) (g.L.Link.put_faults c.take_body.new.link)
    ((c.requires.head.0 ∙ ap (λ (z : List ℕ). Head z (drop c.args.at.end c.args.early.now)) (sym (c.find_head_bytes.ensures ∙ ap (λ (z : List ℕ). take (c.args.at.end - c.args.at.start) (drop c.args.at.start z)) c.as_slice.ensures))) ∙ ap (λ (z : List ℕ). Head c.find_head_bytes.result.now z) (sym c.skip.ensures)) c.in-Ok.ensures.ok (head_len c.args.early.now c.find_head_bytes.result.now c.args.at.start c.args.at.end (c.find_head_bytes.ensures ∙ ap (λ (z : List ℕ). take (c.args.at.end - c.args.at.start) (drop c.args.at.start z)) c.as_slice.ensures) c.requires.head.1.0 c.requires.head.1.1) c.in-Ok-put_continue.ensures.left c.in-Err-take_body.ensures.held c.in-Ok-put_continue.ensures.read_faults c.in-Ok-put_continue.ensures.ok c.in-Err-take_body.ensures.err)
