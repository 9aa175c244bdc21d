use Rattle.std.proofs.Common.{◌≡◌, ◌++◌, drop, map}
use Rattle.mail_counts.specs.Members.{member_number}
use Rattle.mail_counts.proofs.following.collect_numbers.Given as goal

abbrev pub invariant-loop-member : goal.invariant-loop-member
invariant-loop-member l = l.numbers.items ++ map member_number (drop l.member-index l.members) ≡ map member_number l.members
