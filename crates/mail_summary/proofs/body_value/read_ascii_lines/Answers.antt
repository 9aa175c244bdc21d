use Rattle.std.proofs.Common.{refl, sym, ap, ◌∙◌}
use Rattle.mail_summary.specs.Texts.{with_line_feeds}
use Rattle.mail_summary.proofs.Fronts.{whole_ascii, problem_ascii}
use Rattle.mail_summary.proofs.body_value.read_ascii_lines.Goals as goal

pub returns-in-Ok-clause-text : goal.returns-in-Ok-clause-text
returns-in-Ok-clause-text c charset =
    ap (λ v. v.items) c.in-Ok.ensures.ok ∙ c.in_ok-replace_line_ends.ensures
    ∙ ap with_line_feeds (sym (whole_ascii charset c.args.bytes.now (c.if-not-is_ascii.ensures refl)))

pub returns-in-Ok-clause-problem : goal.returns-in-Ok-clause-problem
returns-in-Ok-clause-problem c charset = problem_ascii charset c.args.bytes.now (c.if-not-is_ascii.ensures refl)
