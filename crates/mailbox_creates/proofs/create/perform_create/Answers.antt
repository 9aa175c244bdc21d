use Rattle.std.proofs.Common.{◌≡◌, sym, ◌∙◌, subst}
use Rattle.set_parts.specs.Creates.{Creating}
use Rattle.mailbox_creates.specs.Creates.{after_create, after_made, mailbox_of}
use Rattle.set_parts.specs.Arguments.{Create}
use Rattle.mailbox_creates.specs.Views.{Follows, properties_of}
use Rattle.set_parts.specs.Views.{create_of}
use Rattle.mailbox_creates.proofs.Following.{checks_made, all_good, some_bad, on_ok}
use Rattle.mailbox_creates.proofs.create.perform_create.Goals as goal

pub returns-then-is_empty : goal.returns-then-is_empty
returns-then-is_empty c =
    let x : Create = create_of c.args.draft.now in
    record {
      follows =
          on_ok c.create_mailbox.result _ _
          (λ k (s : Creating) (f : Follows c.args.planner.now s).
          let same : after_create s x ≡ after_made s x (mailbox_of s.content.next_mailbox (properties_of c.read_properties-properties.result)) =
          checks_made s x (properties_of c.read_properties-properties.result) c.check_properties-faults.result c.in_ok-given.given c.in_ok-bad.bad c.args.planner.now.next
          (c.read_properties-properties.ensures s f) (c.check_properties-faults.ensures s f) f.next c.in_ok-given.ensures c.in_ok-bad.ensures
          ∙ all_good s x (mailbox_of s.content.next_mailbox (properties_of c.read_properties-properties.result)) c.as_slice.result.now c.in_ok-bad.bad c.as_slice.ensures.value (sym c.is_empty.ensures ∙ c.if-is_empty.true) in
          subst (Follows c.create_mailbox.new.planner) (sym same) (k s f))
          c.create_mailbox.ensures.follows;
      next = c.create_mailbox.ensures.next;
    }

pub returns-clause-follows : goal.returns-clause-follows
returns-clause-follows c =
    let x : Create = create_of c.args.draft.now in
    on_ok c.reject_create.result _ _
    (λ k (s : Creating) (f : Follows c.args.planner.now s).
    let same : after_create s x ≡ _ =
    checks_made s x (properties_of c.read_properties-properties.result) c.check_properties-faults.result c.in_ok-given.given c.in_ok-bad.bad c.args.planner.now.next
    (c.read_properties-properties.ensures s f) (c.check_properties-faults.ensures s f) f.next c.in_ok-given.ensures c.in_ok-bad.ensures
    ∙ some_bad s x (mailbox_of s.content.next_mailbox (properties_of c.read_properties-properties.result)) c.as_slice.result.now c.in_ok-bad.bad c.as_slice.ensures.value (sym c.is_empty.ensures ∙ c.if-is_empty.false) in
    subst (Follows c.reject_create.new.planner) (sym same) (k s f))
    c.reject_create.ensures.follows
