use Rattle.std.proofs.Common.{◌≡◌, ◌++◌, map, length}
use Rattle.mime_lines.specs.Written.{fold, parted_by}
use Rattle.header_forms.specs.WrittenForms.{angled, ids_value}
use Rattle.draft_writer.proofs.fields.push_ids.Given as goal

abbrev pub invariant-loop-id : goal.invariant-loop-id
invariant-loop-id l = l.out.items ++ parted_by fold (map angled l.rest) ≡ l.fn.out.items ++ ids_value l.fn.ids

abbrev pub decreases-loop-id : goal.decreases-loop-id
decreases-loop-id l = length l.rest
