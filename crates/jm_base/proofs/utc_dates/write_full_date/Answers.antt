use Rattle.std.proofs.Common.{◌∙◌, arith, w64, rules}
use Rattle.std.proofs.lemmas.Int.{to_z-of_z}
use Rattle.jiff_core.proofs.SignedLemmas.{signed_arith}
use Rattle.jm_base.proofs.Days.{civil_of}
use Rattle.jm_base.proofs.utc_dates.write_full_date.Goals as goal

pub returns : goal.returns
returns c =
    let s = c.in-Ok.shown in
    let is = civil_of c.args.day s.year s.month s.day (s.year_in, s.month_in, s.day_in) s.year_in.1 c.requires.from (c.in-Ok.ensures.value ∙ to_z-of_z w64 c.args.day (omega (arith, signed_arith, c.requires.from, c.requires.to))) in
    rw (← is.0, ← is.1, ← is.2) (search rules)
