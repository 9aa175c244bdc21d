use Rattle.std.proofs.Common.{◌≡◌, map, length, []}
use Rattle.jm_json.specs.Order.{put_all}
use Rattle.reply_readers.specs.Objects.{object_of}
use Rattle.client_cache.specs.Records.{under_id}
use Rattle.client_cache.proofs.gets.collect_objects.Given as goal

abbrev pub invariant-loop-read : goal.invariant-loop-read
invariant-loop-read l = put_all (map (under_id l.kind) (map object_of l.rest.items)) l.members ≡ put_all (map (under_id l.kind) (map object_of l.fn.objects)) []

abbrev pub decreases-loop-read : goal.decreases-loop-read
decreases-loop-read l = length l.rest.items
