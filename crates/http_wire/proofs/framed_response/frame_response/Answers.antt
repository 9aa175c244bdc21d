use Rattle.std.proofs.Common.{List, sym, ◌∙◌, subst}
use Rattle.http_wire.specs.Fields.{pairs}
use Rattle.http_wire.specs.Framings.{framing_of}
use Rattle.http_wire.specs.Lengths.{IsSaid}
use Rattle.http_wire.specs.ReadResponses.{response_framing}
use Rattle.http_wire.specs.declared.request.HttpField.{HttpField}
use Rattle.http_wire.proofs.ResponseFramed.{framed, interim, head_found}
use Rattle.http_wire.proofs.framed_response.frame_response.Goals as goal

pub returns-then-is_interim-clause-err : goal.returns-then-is_interim-clause-err
returns-then-is_interim-clause-err c =
    let e = head_found c.args.bytes.now c.in-Ok-Some.field-0 c.in-Ok-Some.head c.in-Ok-Some.field-0-is c.in-Ok-Some.ensures in
    interim c.args.bytes.now e.0 c.in-Ok-Some.head e.1 e.2 (sym c.is_interim.ensures ∙ c.if-is_interim.true)

pub returns-clause-ok : goal.returns-clause-ok
returns-clause-ok c =
    let e = head_found c.args.bytes.now c.in-Ok-Some.field-0 c.in-Ok-Some.head c.in-Ok-Some.field-0-is c.in-Ok-Some.ensures in
    framed c.args.bytes.now e.0 c.in-Ok-Some.head c.find_response_length.result c.plan_response_body-plan.result e.1 e.2 (sym c.is_interim.ensures ∙ c.if-is_interim.false)
    (subst (λ (z : List HttpField). IsSaid (response_framing c.in-Ok-Some.head.status (framing_of (pairs z))) c.find_response_length.result) c.as_slice.ensures c.find_response_length.ensures)
    c.plan_response_body-plan.ensures.plan c.plan_response_body-plan.ensures.within c.plan_response_body-plan.ensures.last
