use Rattle.std.proofs.Common.{sym, ◌∙◌}
use Rattle.message_texts.proofs.PlainText.{plain_stays}
use Rattle.message_texts.proofs.plain_value.read_plain_text.Goals as goal

pub returns : goal.returns
returns c = c.skip_spaces.ensures ∙ plain_stays c.args.value.now (sym c.is_plain_value.ensures ∙ c.if-not-is_plain_value.false)
