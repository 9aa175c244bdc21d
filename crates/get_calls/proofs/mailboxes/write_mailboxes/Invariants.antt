use Rattle.std.proofs.Common.{◌≡◌, map, drop, ◌++◌}
use Rattle.get_calls.specs.Members.{mailbox_without}
use Rattle.get_calls.proofs.mailboxes.write_mailboxes.Given as goal

abbrev pub invariant-loop-mailbox : goal.invariant-loop-mailbox
invariant-loop-mailbox l =
    map (mailbox_without l.read_only (map (λ h. h.now) l.hidden)) l.mailboxes
    ≡ l.objects ++ map (mailbox_without l.read_only (map (λ h. h.now) l.hidden)) (drop l.mailbox-index l.mailboxes)
