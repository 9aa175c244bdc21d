use Rattle.std.proofs.Common.{◌≡◌, ◌∙◌, arith}
use Rattle.message_texts.proofs.Found.{next_name}
use Rattle.message_texts.proofs.headers.has_in_named_fields.Goals as goal

pub loop-name-preserved : goal.loop-name-preserved
loop-name-preserved c = (
  c.has_in_fields.ensures.same ∙ c.loop-name.invariant.0,
  next_name c.args.needle.now c.args.fields.now c.args.names.now c.loop-name.name-index _ c.in_ok-has_in_fields.field-0 (omega arith) (rw c.loop-name.invariant.0 at c.in_ok-has_in_fields.ensures.value) c.if-branch.false c.loop-name.invariant.1,
)
