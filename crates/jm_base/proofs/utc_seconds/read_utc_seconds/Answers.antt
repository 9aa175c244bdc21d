use Rattle.std.proofs.Common.{arith, w64}
use Rattle.jiff_core.proofs.SignedLemmas.{signed_arith}
use Rattle.std.proofs.lemmas.Int.{to_z-of_z}
use Rattle.jm_base.proofs.DateTests.{dated, undated}
use Rattle.jm_base.proofs.utc_seconds.read_utc_seconds.Goals as goal

pub returns-in-Ok : goal.returns-in-Ok
returns-in-Ok c =
    rw (to_z-of_z w64 c.in-Ok.date.seconds (omega (arith, signed_arith, c.in-Ok.ensures.range.not_before, c.in-Ok.ensures.range.not_after)))
    (dated c.args.text.now c.in-Ok.date c.in-Ok.ensures.ok)

pub returns-in-Err : goal.returns-in-Err
returns-in-Err c = undated c.args.text.now c.in-Err.ensures.err
