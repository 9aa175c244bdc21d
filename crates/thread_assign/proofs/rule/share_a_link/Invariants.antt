use Rattle.std.proofs.Common.{◌≡◌, false, take}
use Rattle.thread_assign.specs.Threads.{share_link}
use Rattle.thread_assign.proofs.rule.share_a_link.Given as goal

-- no link up to here is one of the others
abbrev pub invariant-loop-link : goal.invariant-loop-link
invariant-loop-link l = share_link (take l.link-index l.links) l.others ≡ false
