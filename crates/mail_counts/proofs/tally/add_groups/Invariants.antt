use Rattle.std.proofs.Common.{◌≡◌, ◌++◌, drop, map}
use Rattle.mail_counts.specs.Members.{member_group}
use Rattle.mail_counts.proofs.tally.add_groups.Given as goal

abbrev pub invariant-loop-member : goal.invariant-loop-member
invariant-loop-member l = l.numbers.items ++ map member_group (drop l.member-index l.members) ≡ l.fn.numbers.items ++ map member_group l.members
