use Rattle.std.proofs.Common.{sym}
use Rattle.mail_summary.proofs.CharacterFacts.{after_sized}
use Rattle.mail_summary.proofs.subjects.skip_first_prefix.Goals as goal

pub returns-clause-value : goal.returns-clause-value
returns-clause-value c =
    after_sized c.args.text.now c.in-Some.c.now c.in-Some.after.now c.skip_characters.result.now c.prefix_size-size.result
    c.in-Some.ensures.cases.0 (sym c.if-is_ascii_whitespace.ensures.value) c.prefix_size-size.ensures.value c.if-size-eq0.false c.skip_characters.ensures
