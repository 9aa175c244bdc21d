use Rattle.std.proofs.Common.{ℕ, arith, codes, take}
use Rattle.std.proofs.lemmas.List.{length-take}
use Rattle.jm_base.proofs.LaidOut.{laid_out_length}
use Rattle.jm_base.proofs.utc_dates.read_utc.Goals as goal

pub returns-then-text-clause-err : goal.returns-then-text-clause-err
returns-then-text-clause-err c = λ date is. omega (arith, laid_out_length (codes "0000-00-00T00:00:00") (take 19 c.args.text.now) is.laid_out, length-take {A = ℕ})
