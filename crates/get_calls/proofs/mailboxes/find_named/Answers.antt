use Rattle.std.proofs.Common.{[], map}
use Rattle.mail_counts.specs.Views.{mailbox_named}
use Rattle.get_calls.specs.Members.{mailbox_without}
use Rattle.get_calls.proofs.FirstMentions.{texts_more, objects_more, unknown_more}
use Rattle.get_calls.proofs.mailboxes.find_named.Goals as goal

pub loop-id-preserved : goal.loop-id-preserved
loop-id-preserved c =
    let named = mailbox_named c.args.content.now.content.mailboxes in
    let view = mailbox_without c.args.read_only (map (λ h. h.now) c.args.hidden.now) in
    let more = texts_more c.args.ids.now c.loop-id.id-index (record { ref_ptr = (0, 0); now = [] }) c.loop-id-test.true in
    record {
      objects = objects_more named view _ _ _ _ _ more c.loop-id.invariant.objects c.in_ok-push_mailbox.ensures.objects;
      unknown = unknown_more named _ _ _ _ _ more c.loop-id.invariant.unknown c.in_ok-push_mailbox.ensures.unknown;
    }
