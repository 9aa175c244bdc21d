use Rattle.std.proofs.Common.{ℕ, List, sym, ap, ◌∙◌, subst}
use Rattle.http_wire.specs.Fields.{pairs, has_host, expects_continue}
use Rattle.http_wire.specs.Framings.{framing_of}
use Rattle.http_wire.specs.Requests.{body_limit}
use Rattle.http_wire.specs.Lengths.{IsSaid}
use Rattle.http_wire.specs.declared.request.HttpField.{HttpField}
use Rattle.http_wire.proofs.Opening.{opened, no_host, head_found}
use Rattle.http_wire.proofs.framed_head.frame_head.Goals as goal

pub returns-then-not-has_host-clause-err : goal.returns-then-not-has_host-clause-err
returns-then-not-has_host-clause-err c =
    let e = head_found c.args.bytes.now c.in-Ok-Some.field-0 c.in-Ok-Some.head c.in-Ok-Some.field-0-is c.in-Ok-Some.ensures in
    no_host c.args.bytes.now e.0 c.in-Ok-Some.head e.1 e.2
    (ap (λ (z : List HttpField). has_host (pairs z)) (sym c.as_slice.ensures) ∙ sym c.has_host.ensures ∙ c.if-not-has_host.true)

pub returns-clause-ok : goal.returns-clause-ok
returns-clause-ok c =
    let e = head_found c.args.bytes.now c.in-Ok-Some.field-0 c.in-Ok-Some.head c.in-Ok-Some.field-0-is c.in-Ok-Some.ensures in
    opened c.args.bytes.now e.0 c.in-Ok-Some.head c.find_limit-limit.result c.plan_body-plan.result c.find_length.result c.expects_continue-due.result e.1 e.2
    (ap (λ (z : List HttpField). has_host (pairs z)) (sym c.as_slice.ensures) ∙ sym c.has_host.ensures ∙ c.if-not-has_host.false)
    (c.find_limit-limit.ensures.value ∙ ap (λ (z : List ℕ). body_limit z) c.as_slice-2.ensures) c.plan_body-plan.ensures.plan
    (subst (λ (z : List HttpField). IsSaid (framing_of (pairs z)) c.find_length.result) c.as_slice-3.ensures c.find_length.ensures)
    c.plan_body-plan.ensures.within (sym c.find_refusal.ensures ∙ c.in-None.is)
    (c.expects_continue-due.ensures ∙ ap (λ (z : List HttpField). expects_continue c.in-Ok-Some.head.minor (pairs z)) c.as_slice-4.ensures)
