use Rattle.std.proofs.Common.{◌≤◌, length, refl, subst, arith}
use Rattle.mail_records.specs.Contents.{Content}
use Rattle.set_parts.specs.Creates.{after_create, before_creates}
use Rattle.set_parts.specs.CreatesViews.{KeepUp}
use Rattle.set_parts.specs.Views.{create_of}
use Rattle.email_set.specs.Plans.{create_email}
use Rattle.email_set.proofs.Planning.{create_more, creates_end}
use Rattle.email_set.proofs.Stepping.{from_item}
use Rattle.email_set.proofs.plan.perform_creates.Goals as goal

pub loop-create-init : goal.loop-create-init
loop-create-init c = λ (content : Content). (before_creates content c.args.made.now, c.in_ok-performed.ensures content, refl)

pub loop-create-preserved : goal.loop-create-preserved
loop-create-preserved c =
    λ (content : Content).
    let was = c.loop-create.invariant content in
    let x = c.create-item.result in (
      after_create x.creation.now was.0 (create_email was.0 (create_of x)),
      c.in_ok-enter_create.ensures.follows was.0 was.1,
      create_more (before_creates content c.args.made.now) was.0 c.args.creates.now c.loop-create.create-index x (from_item c.args.creates.now c.loop-create.create-index x c.loop-create-test.true c.create-item.is) was.2,
    )

pub returns : goal.returns
returns c =
    λ (content : Content).
    let was = c.loop-create.invariant content in
    let end : length c.args.creates.now ≤ c.loop-create.create-index = omega arith in
    subst (KeepUp c.loop-create.performed) (creates_end (before_creates content c.args.made.now) was.0 c.args.creates.now c.loop-create.create-index end was.2) was.1
