use Rattle.std.proofs.Common.{sym}
use Rattle.method_args.proofs.IdTexts.{number_none, number_reads}
use Rattle.method_args.proofs.ids.read_position.Goals as goal

pub returns-in-Ok : goal.returns-in-Ok
returns-in-Ok c = sym (number_reads c.args.string.now c.in-Ok.position c.in-Ok.ensures.ok)

pub returns-in-Err : goal.returns-in-Err
returns-in-Err c = sym (number_none c.args.string.now (λ n is. c.in-Err.ensures.err n is.0 is.1))
