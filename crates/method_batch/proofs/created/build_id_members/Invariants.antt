use Rattle.std.proofs.Common.{◌≡◌, [], length}
use Rattle.method_batch.specs.Outcome.{put_ids}
use Rattle.method_batch.proofs.created.build_id_members.Given as goal

abbrev pub invariant-loop-created : goal.invariant-loop-created
invariant-loop-created l = put_ids [] l.fn.made ≡ put_ids l.members l.rest.items

abbrev pub decreases-loop-created : goal.decreases-loop-created
decreases-loop-created l = length l.rest.items
