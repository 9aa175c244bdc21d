use Rattle.std.proofs.Common.{true, false, [], ◌∷◌, ◌==◌, length, sym, ap, ◌∙◌}
use Rattle.mail_records.specs.declared.edits.Edit.TheVariants.{PutMailbox}
use Rattle.mailbox_updates.proofs.Updating.{done_all, rejected_some}
use Rattle.mailbox_updates.proofs.updates.check_rules.Goals as goal

pub returns-then-is_empty : goal.returns-then-is_empty
returns-then-is_empty c =
    λ d shows count there.
    record {
      step = done_all c.as_slice.result.now _ (PutMailbox c.args.item true false ∷ []) (c.as_slice.ensures ∙ c.in_ok-names.ensures d shows count there) (sym c.is_empty.ensures ∙ c.if-is_empty.true);
      there = there;
    }

pub returns : goal.returns
returns c =
    λ d shows count there.
    record {
      step = rejected_some c.in_ok-names.names _ (PutMailbox c.args.item true false ∷ []) (c.in_ok-names.ensures d shows count there) (ap (λ xs. length xs == 0) (sym c.as_slice.ensures) ∙ (sym c.is_empty.ensures ∙ c.if-is_empty.false));
      there = tt;
    }
