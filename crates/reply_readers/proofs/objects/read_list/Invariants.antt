use Rattle.std.proofs.Common.{◌≡◌, ◌++◌, map, option_map, length}
use Rattle.jm_json.specs.Json.{tree_of}
use Rattle.reply_readers.specs.Objects.{object_of, objects_from}
use Rattle.reply_readers.proofs.objects.read_list.Given as goal

abbrev pub invariant-loop-value : goal.invariant-loop-value
invariant-loop-value l = objects_from l.kind l.fn.values ≡ option_map (λ os. map object_of l.objects ++ os) (objects_from l.kind (map tree_of l.rest.items))

abbrev pub decreases-loop-value : goal.decreases-loop-value
decreases-loop-value l = length l.rest.items
