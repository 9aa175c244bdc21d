use Rattle.std.proofs.Common.{arith}
use Rattle.mail_summary.specs.declared.characters.TheConstants.{MAX_SHOWN_CHARACTERS}
use Rattle.mail_summary.proofs.CharacterFacts.{front_size, front_all}
use Rattle.mail_summary.proofs.characters.shown_prefix.Goals as goal

pub slice_bounds-result-end : goal.slice_bounds-result-end
slice_bounds-result-end c = front_size MAX_SHOWN_CHARACTERS c.args.text.now (omega (arith, c.if-text-gt-MAX_SHOWN_CHARACTERS.true))

pub returns-else-text-gt-MAX_SHOWN_CHARACTERS : goal.returns-else-text-gt-MAX_SHOWN_CHARACTERS
returns-else-text-gt-MAX_SHOWN_CHARACTERS c = front_all MAX_SHOWN_CHARACTERS c.args.text.now (omega (arith, c.if-text-gt-MAX_SHOWN_CHARACTERS.false))
