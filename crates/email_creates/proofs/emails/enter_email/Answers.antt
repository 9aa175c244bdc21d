use Rattle.std.proofs.Common.{◌∙◌, ◌+◌, ◌++◌, refl, ap, subst}
use Rattle.mail_records.specs.Contents.{Content}
use Rattle.mail_records.specs.declared.records.Email.{Email}
use Rattle.set_parts.specs.Creates.{Creating, after_create, blobs_brought}
use Rattle.set_parts.specs.CreatesViews.{KeepUp}
use Rattle.set_parts.specs.declared.creates.CreateStep.TheVariants.{Done}
use Rattle.set_parts.specs.declared.creates.NewRecord.{NewRecord}
use Rattle.email_creates.specs.Emails.{Progress, next_after}
use Rattle.email_creates.specs.Views.{Follows}
use Rattle.email_creates.specs.declared.planner.Planner.{Planner}
use Rattle.email_creates.proofs.Following.{Adds, Follows-made}
use Rattle.email_creates.proofs.emails.enter_email.Goals as goal

pub returns-clause-follows : goal.returns-clause-follows
returns-clause-follows c =
    λ (base : Content) (s : Progress) (f : Follows base c.args.planner.now s) number thread joined.
    let item : Email = c.args.email.item in
    let p : Planner = c.args.planner.now in
    let q : Planner = record p {
      next_email = p.next_email + 1;
      next_thread = c.count_thread-planner.result;
      new_emails = c.add_new_email.new.new_emails;
      creates = c.enter_create.new.creates;
    } in
    let adds : Adds base p q c.args.creation.now item c.args.brought = record {
      next_email = refl;
      next_thread = c.count_thread-planner.ensures ∙ ap (λ o. next_after o p.next_thread) (joined ∙ f.threads item.summary);
      threads = c.in_ok-add_new_email.ensures.threads;
      creates = λ (t : Creating) k.
          subst (λ (x : NewRecord). KeepUp c.enter_create.new.creates (after_create c.args.creation.now t (Done x))) c.in_ok-made.ensures
          (c.in_ok-enter_create.ensures.follows t k);
    } in
    Follows-made base p q s c.args.creation.now item c.args.brought adds f number

pub returns-clause-blobs : goal.returns-clause-blobs
returns-clause-blobs c = c.in_ok-enter_create.ensures.blobs ∙ ap (λ (x : NewRecord). c.args.planner.now.creates.blobs ++ blobs_brought x.blob) c.in_ok-made.ensures
