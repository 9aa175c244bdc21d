use Rattle.std.proofs.Common.{◌≡◌, ◌++◌, map, filter, drop}
use Rattle.jm_json.specs.Json.{member_of}
use Rattle.mailbox_creates.specs.Creates.{is_bad, property}
use Rattle.mailbox_creates.proofs.checks.collect_invalid.Given as goal

abbrev pub invariant-loop-member : goal.invariant-loop-member
invariant-loop-member l =
    l.bad ++ map property (filter (is_bad l.faults l.given) (map member_of (drop l.member-index l.sent))) ≡ map property (filter (is_bad l.faults l.given) (map member_of l.sent))
