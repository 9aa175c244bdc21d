use Rattle.std.proofs.Common.{◌≡◌, ◌++◌, ◌∷◌, [], length}
use Rattle.mime_lines.specs.Written.{parted_by}
use Rattle.mime_writer.proofs.heads.push_tags.Given as goal

abbrev pub invariant-loop-tag : goal.invariant-loop-tag
invariant-loop-tag l = l.out.items ++ parted_by (44 ∷ 32 ∷ []) l.rest ≡ l.fn.out.items ++ parted_by (44 ∷ 32 ∷ []) l.fn.tags

abbrev pub decreases-loop-tag : goal.decreases-loop-tag
decreases-loop-tag l = length l.rest
