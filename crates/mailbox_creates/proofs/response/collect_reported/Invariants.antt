use Rattle.std.proofs.Common.{◌≡◌, ◌++◌, map, filter, length}
use Rattle.jm_json.specs.Json.{member_of}
use Rattle.mailbox_creates.specs.Creates.{is_reported}
use Rattle.mailbox_creates.proofs.response.collect_reported.Given as goal

abbrev pub invariant-loop-member : goal.invariant-loop-member
invariant-loop-member l = l.told ++ filter (is_reported l.fn.sent) (map member_of l.rest.items) ≡ filter (is_reported l.fn.sent) l.fn.view

abbrev pub decreases-loop-member : goal.decreases-loop-member
decreases-loop-member l = length l.rest.items
