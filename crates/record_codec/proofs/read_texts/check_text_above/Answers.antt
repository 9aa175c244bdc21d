use Rattle.std.proofs.Common.{sym, ◌∙◌}
use Rattle.std.proofs.lemmas.Bool.{and_from, and_left, false_from_ne_true}
use Rattle.std.proofs.lemmas.Str.{is_utf8-from_IsUtf8, IsUtf8-from_is_utf8}
use Rattle.record_codec.proofs.read_texts.check_text_above.Goals as goal

pub returns-then-is_above : goal.returns-then-is_above
returns-then-is_above c = (c.in-Ok.ensures.cases.0, and_from _ _ (is_utf8-from_IsUtf8 _ c.in-Ok.ensures.cases.1) (sym c.is_above.ensures ∙ c.if-is_above.true))

pub returns-in-Err : goal.returns-in-Err
returns-in-Err c = and_left _ _ (false_from_ne_true _ (λ e. c.in-Err.ensures.cases.0 (IsUtf8-from_is_utf8 c.args.bytes.now e)))
