use Rattle.std.proofs.Common.{arith}
use Rattle.std.proofs.lemmas.Str.Pattern.{strip_prefix_char}
use Rattle.result_refs.proofs.Steps.{mark_taken}
use Rattle.result_refs.proofs.references.strip_mark.Goals as goal

pub returns : goal.returns
returns c = mark_taken c.strip_prefix.result c.args.name.now (strip_prefix_char 35 c.args.name.now c.strip_prefix.result c.strip_prefix.ensures.cases (omega arith))
