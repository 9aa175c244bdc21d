use Rattle.std.proofs.Common.{◌≡◌, ◌≤◌, length, sym, ap, ◌∙◌, arith}
use Rattle.std.proofs.lemmas.List.{length-map}
use Rattle.method_args.specs.declared.TheConstants.{MAX_OBJECTS_PER_CALL}
use Rattle.set_parts.specs.Arguments.{count_objects, creates_in}
use Rattle.set_parts.specs.Views.{create_of}
use Rattle.set_parts.proofs.Rejecting.{few_objects}
use Rattle.mailbox_set.specs.Sets.{mailbox_set_forms}
use Rattle.mailbox_set.proofs.plan.plan_members.Goals as goal

pub plan_objects-requires-clause-room : goal.plan_objects-requires-clause-room
plan_objects-requires-clause-room c =
    let ms = c.args.members.now in
    let creates = c.in_ok-creates.creates.items in
    let few : c.count_objects-objects.result ≤ MAX_OBJECTS_PER_CALL = few_objects mailbox_set_forms c.count_objects-objects.result c.state_of.result ms c.in_ok-check_arguments.ensures in
    let count : c.count_objects-objects.result ≡ count_objects ms = c.count_objects-objects.ensures in
    let same : length (creates_in ms) ≡ length creates = ap length (sym c.in_ok-creates.ensures) ∙ length-map creates create_of in
    let next = c.requires.next in
    omega (arith, few, count, same, next)
