use Rattle.std.proofs.Common.{◌≡◌, sym, ◌∙◌, true}
use Rattle.jm_json.specs.Json.{member_of}
use Rattle.mailbox_creates.specs.Creates.{is_bad}
use Rattle.mailbox_creates.proofs.Rising.{rise_pushed}
use Rattle.mailbox_creates.proofs.checks.collect_invalid.Goals as goal

pub push-requires : goal.push-requires
push-requires c =
    let passes : is_bad c.args.faults.now c.args.given.now (member_of c.member-item.result) ≡ true = sym c.is_bad.ensures ∙ c.if-is_bad.true in
    rise_pushed (is_bad c.args.faults.now c.args.given.now) c.args.sent.now c.loop-member.member-index c.member-item.result c.loop-member.bad c.in_ok-copy.field-0 c.loop-member-test.true c.member-item.is passes
    c.in_ok-copy.ensures c.loop-member.invariant c.requires
