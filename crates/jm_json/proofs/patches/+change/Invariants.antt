use Rattle.std.proofs.Common.{◌+◌, ◌*◌, length}
use Rattle.jm_json.proofs.patches.+change.Given as goal

abbrev pub decreases-change : goal.decreases-change
decreases-change l = 2 * length l.path.now + 1

abbrev pub decreases-change_member : goal.decreases-change_member
decreases-change_member l = 2 * length l.more.now
