use Rattle.std.proofs.Common.{◌≡◌, ◌≤◌, ◌+◌, ◌-◌, ◌*◌, length}
use Rattle.std.specs.Prelude.{slice_range}
use Rattle.mime_lines.specs.Lines.{lines}
use Rattle.mime_cut.specs.DelimiterLines.{by_line_kind}
use Rattle.mime_cut.specs.Cut.{cut, after_line}
use Rattle.mime_type.specs.PartTrees.{none}
use Rattle.mime_type.specs.PartViews.{joined}
use Rattle.mime_tree.specs.Places.{AllPlaced}
use Rattle.mime_tree.specs.Tree.{part_tree, trees_of}
use Rattle.mime_tree.specs.Budget.{taken}
use Rattle.mime_tree.specs.declared.walk.TheConstants.{MAX_PARTS}
use Rattle.mime_tree.proofs.TakenFacts.{onto}
use Rattle.mime_tree.proofs.walk.+walk.Given as goal

abbrev pub decreases-read_part_tree : goal.decreases-read_part_tree
decreases-read_part_tree l = 2 * l.levels + 1

abbrev pub decreases-read_parts_within : goal.decreases-read_parts_within
decreases-read_parts_within l = 2 * l.levels

abbrev pub invariant-read_parts_within-loop-found : goal.invariant-read_parts_within-loop-found
invariant-read_parts_within-loop-found l = record {
  taken : onto l.items.items (taken (trees_of (part_tree (l.levels - 1) l.digest) (after_line l.boundary l.found.kind l.offset (lines l.found.rest.now))) l.budget.left l.budget.number)
      ≡ taken (trees_of (part_tree (l.levels - 1) l.digest) (cut l.boundary l.part.body (lines (slice_range l.message l.part.body l.part.end)))) l.fn.budget.left l.fn.budget.number;
  rest : l.found.rest.now ≡ slice_range l.message l.offset l.part.end;
  placed : AllPlaced (length l.message) (joined l.items.items none);
  ordered : l.offset ≤ l.part.end;
  room : l.budget.number + l.budget.left ≤ MAX_PARTS + 1;
}

abbrev pub decreases-read_parts_within-loop-found : goal.decreases-read_parts_within-loop-found
decreases-read_parts_within-loop-found l = length l.found.rest.now + by_line_kind l.found.kind 0 1 0
