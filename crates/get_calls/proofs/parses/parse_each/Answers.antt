use Rattle.std.proofs.Common.{[]}
use Rattle.mail_view.specs.Parses.{parsed_member, parsed_view}
use Rattle.get_calls.proofs.FirstMentions.{texts_more, unknown_more}
use Rattle.get_calls.proofs.Parsed.{views_more}
use Rattle.get_calls.proofs.parses.parse_each.Goals as goal

pub loop-id-preserved : goal.loop-id-preserved
loop-id-preserved c =
    let more = texts_more c.args.ids.now c.loop-id.id-index (record { ref_ptr = (0, 0); now = [] }) c.loop-id-test.true in
    record {
      views = views_more (parsed_member c.args.blobs.now.blobs c.args.wanted.now) _ _ _ _ _ more c.loop-id.invariant.views c.in_ok-push.ensures.views;
      unknown = unknown_more (parsed_view c.args.blobs.now.blobs c.args.wanted.now) _ _ _ _ _ more c.loop-id.invariant.unknown c.in_ok-push.ensures.unknown;
    }
