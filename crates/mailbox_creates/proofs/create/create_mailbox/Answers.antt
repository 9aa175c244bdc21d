use Rattle.std.proofs.Common.{◌+◌, ◌&&◌, ◌||◌, Some, None, refl, ap, ◌∙◌, subst, bytes_eq}
use Rattle.mail_records.specs.declared.records.Mailbox.{Mailbox}
use Rattle.mail_counts.specs.Tidy.{same_parent, same_role}
use Rattle.mailbox_creates.specs.Properties.{SentProperties}
use Rattle.mailbox_creates.specs.Creates.{after_made, mailbox_of, new_record}
use Rattle.set_parts.specs.Arguments.{Create}
use Rattle.set_parts.specs.Creates.{Creating, after_create as after_step}
use Rattle.set_parts.specs.CreatesViews.{KeepUp}
use Rattle.set_parts.specs.Views.{create_of, holds}
use Rattle.set_parts.specs.declared.creates.CreateStep.TheVariants.{Done}
use Rattle.set_parts.specs.declared.creates.NewRecord.{NewRecord}
use Rattle.mailbox_creates.specs.Views.{Follows, properties_of}
use Rattle.mailbox_creates.specs.declared.planner.Planner.{Planner}
use Rattle.mailbox_creates.proofs.Following.{Adds, Follows-made}
use Rattle.mailbox_creates.proofs.create.create_mailbox.Goals as goal

pub returns-clause-follows : goal.returns-clause-follows
returns-clause-follows c =
    λ (s : Creating) (f : Follows c.args.planner.now s).
    let p : Planner = c.args.planner.now in
    let q : Planner = record p { next = p.next + 1; names = c.add_text.new.set; roles = c.add_role.new.roles; creates = c.enter_create.new.creates } in
    let x : Create = create_of c.args.draft.now in
    let a : SentProperties = properties_of c.args.properties.now in
    let m : Mailbox = mailbox_of p.next a in
    let w = c.choose_values-values.ensures in
    let adds : Adds p q x m = record {
      content = refl;
      number = refl;
      next = refl;
      names = λ g t.
          c.in_ok-add_text.ensures g t
          ∙ (ap (λ k. same_parent k g && bytes_eq c.choose_values-values.result.name.now t || holds p.names.keys.keys g t) w.parent
          ∙ ap (λ k. same_parent m.parent g && bytes_eq k t || holds p.names.keys.keys g t) w.name);
      roles = λ t. c.in_ok-add_role.ensures t ∙ ap (λ r. same_role r (Some t) || holds p.roles.keys.keys None t) w.role;
      creates = λ (t : Creating) k.
          subst (λ (y : NewRecord). KeepUp c.enter_create.new.creates (after_step x.creation t (Done y))) (c.in_ok-made.ensures ∙ ap (new_record x.members) c.in_ok-item.ensures)
          (c.in_ok-enter_create.ensures.follows t k);
    } in
    subst (λ k. Follows q (after_made s x (mailbox_of k a))) f.next (Follows-made p q s x m adds f)
