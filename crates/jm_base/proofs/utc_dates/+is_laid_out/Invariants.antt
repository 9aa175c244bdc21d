use Rattle.std.proofs.Common.{length}
use Rattle.jm_base.proofs.utc_dates.+is_laid_out.Given as goal

abbrev pub decreases-is_laid_out : goal.decreases-is_laid_out
decreases-is_laid_out l = length l.layout.now
