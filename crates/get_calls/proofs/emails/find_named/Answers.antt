use Rattle.std.proofs.Common.{[]}
use Rattle.mail_view.specs.Emails.{email_named, email_view}
use Rattle.get_calls.proofs.FirstMentions.{texts_more, objects_more, unknown_more}
use Rattle.get_calls.proofs.emails.find_named.Goals as goal

pub loop-id-preserved : goal.loop-id-preserved
loop-id-preserved c =
    let named = email_named c.args.content.now.content.emails in
    let view = email_view c.args.blobs.now.blobs c.args.wanted.now in
    let more = texts_more c.args.ids.now c.loop-id.id-index (record { ref_ptr = (0, 0); now = [] }) c.loop-id-test.true in
    record {
      objects = objects_more named view _ _ _ _ _ more c.loop-id.invariant.objects c.in_ok-push_email.ensures.objects;
      unknown = unknown_more named _ _ _ _ _ more c.loop-id.invariant.unknown c.in_ok-push_email.ensures.unknown;
    }
