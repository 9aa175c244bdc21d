use Rattle.std.proofs.Common.{refl}
use Rattle.std.specs.Fmt.Cut.{floor_char_boundary}
use Rattle.mail_summary.proofs.laws.check_example_texts.Goals as goal

pub returns-clause-cut : goal.returns-clause-cut
unfolding floor_char_boundary
returns-clause-cut c = refl
