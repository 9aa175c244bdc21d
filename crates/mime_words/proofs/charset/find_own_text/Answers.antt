use Rattle.std.proofs.Common.{◌∙◌, sym}
use Rattle.std.proofs.lemmas.Str.{encodes-IsAscii}
use Rattle.mime_words.proofs.Bytes.{own_text}
use Rattle.mime_words.proofs.charset.find_own_text.Goals as goal

pub returns-in-Ok-clause-ascii : goal.returns-in-Ok-clause-ascii
returns-in-Ok-clause-ascii c = c.in-Ok.ensures.cases.0 ∙ sym (own_text c.args.bytes.now c.if-not-is_ascii.ensures.cases)

pub returns-in-Ok-clause-latin : goal.returns-in-Ok-clause-latin
returns-in-Ok-clause-latin c = c.in-Ok.ensures.cases.0 ∙ sym (encodes-IsAscii c.args.bytes.now c.if-not-is_ascii.ensures.cases)
