use Rattle.std.proofs.Common.{length, map, option_map, ap, ap₂, ◌∙◌, arith}
use Rattle.std.proofs.lemmas.List.{length-map}
use Rattle.set_parts.specs.Outcomes.{ground_of, plan_of}
use Rattle.set_parts.specs.Views.{create_of}
use Rattle.set_parts.proofs.Rejecting.{few_objects}
use Rattle.mail_copies.specs.Arguments.{forms}
use Rattle.mail_copies.specs.Carried.{deliveries}
use Rattle.mail_copies.specs.Views.{delivery_of}
use Rattle.mail_copies.proofs.Planning.{placed}
use Rattle.mail_copies.proofs.place.plan_members.Goals as goal

pub perform_all-requires-clause-email : goal.perform_all-requires-clause-email
perform_all-requires-clause-email c =
    let few = few_objects forms c.len.result c.state_of.result c.args.members.now c.in_ok-check_place.ensures in
    let n = ap length c.as_slice-4.ensures.value in omega (arith, few, n, c.len.ensures, c.requires.email)

pub perform_all-requires-clause-thread : goal.perform_all-requires-clause-thread
perform_all-requires-clause-thread c =
    let few = few_objects forms c.len.result c.state_of.result c.args.members.now c.in_ok-check_place.ensures in
    let n = ap length c.as_slice-4.ensures.value in omega (arith, few, n, c.len.ensures, c.requires.thread)

pub returns : goal.returns
returns c =
    let creates = c.as_slice-4.result.now in
    placed (ground_of c.args.setting.now.content.now.content c.args.log.now) c.args.setting.now.blobs.now.blobs c.args.carried.now c.args.made.now c.as_slice-3.result.now c.args.setting.now.moment c.args.members.now
    c.len.result c.state_of.result c.read_account_id.result.now c.read_from_account.result.now (map create_of creates) (map (λ d. option_map delivery_of d) c.as_slice-5.result.now) (plan_of c.in_ok-finish_plan.field-0)
    c.in_ok-check_place.ensures
    (omega (arith, c.len.ensures, c.as_slice-4.ensures.len, length-map creates create_of))
    c.state_of.ensures.state
    (ap (map create_of) c.as_slice-4.ensures.value ∙ c.in_ok-creates.ensures)
    (ap (map (λ d. option_map delivery_of d)) c.as_slice-5.ensures.value ∙ (c.in_ok-deliveries.ensures ∙ ap₂ deliveries c.as_slice.ensures c.as_slice-2.ensures))
    c.as_slice-3.ensures c.read_account_id.ensures c.read_from_account.ensures
    (c.in_ok-finish_plan.ensures _ c.in_ok-planner.ensures)
