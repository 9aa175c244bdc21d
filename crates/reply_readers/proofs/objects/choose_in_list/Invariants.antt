use Rattle.std.proofs.Common.{◌≡◌, map, drop}
use Rattle.jm_json.specs.Json.{tree_of}
use Rattle.jm_json.specs.LeastPlaces.{least_from}
use Rattle.reply_readers.specs.Objects.{left_after_all, object_number, objects_places}
use Rattle.reply_readers.proofs.objects.choose_in_list.Given as goal

abbrev pub invariant-loop-index : goal.invariant-loop-index
invariant-loop-index l = record {
  least : least_from l.least (objects_places l.kind l.pointer l.index l.left.items (map tree_of (drop l.index l.values))) ≡ least_from l.fn.least (objects_places l.kind l.pointer 0 l.fn.left.items (map tree_of l.values));
  left : left_after_all (object_number l.kind) l.left.items (map tree_of (drop l.index l.values)) ≡ left_after_all (object_number l.kind) l.fn.left.items (map tree_of l.values);
}
