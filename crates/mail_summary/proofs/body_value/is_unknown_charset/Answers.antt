use Rattle.std.proofs.Common.{◌∙◌}
use Rattle.mime_words.specs.Charsets.{charset_named}
use Rattle.mail_summary.proofs.Fronts.{problem_of_none}
use Rattle.mail_summary.proofs.body_value.is_unknown_charset.Goals as goal

pub returns : goal.returns
returns c = c.in_ok-problem.ensures.problem ∙ problem_of_none (charset_named c.args.charset.now)
