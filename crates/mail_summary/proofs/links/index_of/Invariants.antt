use Rattle.std.proofs.Common.{◌≡◌, ◌++◌, take, drop}
use Rattle.mail_summary.specs.Links.{put}
use Rattle.mail_summary.proofs.links.index_of.Given as goal

abbrev pub invariant-loop-i : goal.invariant-loop-i
invariant-loop-i l = put l.id l.kept ≡ take l.i l.kept ++ put l.id (drop l.i l.kept)
