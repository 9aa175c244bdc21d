use Rattle.std.proofs.Common.{◌≡◌, ◌+◌, ◌*◌, ◌++◌, map, drop}
use Rattle.jm_json.specs.Json.{tree_of}
use Rattle.draft_form.specs.Structures.{DraftParts, each_before, ids_of, part_before}
use Rattle.draft_form.specs.Rows.{rows_of}
use Rattle.draft_form.proofs.structures.+rows.Given as goal

abbrev pub decreases-push_part : goal.decreases-push_part
decreases-push_part l = 4 * l.levels

abbrev pub decreases-push_members : goal.decreases-push_members
decreases-push_members l = 4 * l.levels + 3

abbrev pub decreases-push_multipart : goal.decreases-push_multipart
decreases-push_multipart l = 4 * l.levels + 2

abbrev pub decreases-push_parts : goal.decreases-push_parts
decreases-push_parts l = 4 * l.levels + 1

abbrev pub invariant-push_parts-loop-item : goal.invariant-push_parts-loop-item
invariant-push_parts-loop-item l = record {
  rows : (later : DraftParts) → l.parts.rows ++ rows_of (each_before (part_before l.levels l.values) (map tree_of (drop l.item-index l.items)) later)
      ≡ l.fn.parts.rows ++ rows_of (each_before (part_before l.levels l.values) (map tree_of l.items) later);
  ids : (later : DraftParts) → l.parts.blob_ids ++ ids_of (each_before (part_before l.levels l.values) (map tree_of (drop l.item-index l.items)) later)
      ≡ l.fn.parts.blob_ids ++ ids_of (each_before (part_before l.levels l.values) (map tree_of l.items) later);
}
