use Rattle.std.proofs.Common.{[], map}
use Rattle.mail_view.specs.Threads.{thread_named}
use Rattle.get_calls.specs.Members.{thread_without}
use Rattle.get_calls.proofs.FirstMentions.{texts_more, objects_more, unknown_more}
use Rattle.get_calls.proofs.threads.find_named.Goals as goal

pub loop-id-preserved : goal.loop-id-preserved
loop-id-preserved c =
    let named = thread_named c.args.content.now.content.threads in
    let view = thread_without (map (λ h. h.now) c.args.hidden.now) in
    let more = texts_more c.args.ids.now c.loop-id.id-index (record { ref_ptr = (0, 0); now = [] }) c.loop-id-test.true in
    record {
      objects = objects_more named view _ _ _ _ _ more c.loop-id.invariant.objects c.in_ok-push_thread.ensures.objects;
      unknown = unknown_more named _ _ _ _ _ more c.loop-id.invariant.unknown c.in_ok-push_thread.ensures.unknown;
    }
