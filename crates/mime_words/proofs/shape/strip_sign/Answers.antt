use Rattle.std.proofs.lemmas.Str.Pattern.{strip_prefix_char}
use Rattle.mime_words.proofs.Signs.{stripped}
use Rattle.mime_words.proofs.shape.strip_sign.Goals as goal

pub returns-clause-value : goal.returns-clause-value
returns-clause-value c =
    stripped c.args.sign c.args.text.now c.strip_prefix.result (strip_prefix_char c.args.sign c.args.text.now c.strip_prefix.result c.strip_prefix.ensures.cases c.requires)
