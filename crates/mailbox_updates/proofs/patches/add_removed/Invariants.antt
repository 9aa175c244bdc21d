use Rattle.std.proofs.Common.{◌≡◌, map, filter, drop}
use Rattle.jm_json.specs.Json.{member_of}
use Rattle.jm_json.specs.Order.{put_all}
use Rattle.mailbox_creates.specs.Creates.{property}
use Rattle.mailbox_updates.specs.Updates.{is_removed}
use Rattle.mailbox_updates.proofs.patches.add_removed.Given as goal

abbrev pub invariant-loop-member : goal.invariant-loop-member
invariant-loop-member l =
    put_all (map property (filter (is_removed l.after) (map member_of (drop l.member-index l.before)))) l.bad
    ≡ put_all (map property (filter (is_removed l.after) (map member_of l.before))) l.fn.bad
