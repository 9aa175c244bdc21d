use Rattle.std.proofs.Common.{◌≡◌, drop}
use Rattle.mime_type.specs.PartTrees.{none}
use Rattle.mime_type.specs.PartViews.{part_before}
use Rattle.mail_summary.specs.Leaves.{first_text}
use Rattle.mail_summary.proofs.preview.find_first_text.Given as goal

abbrev pub invariant-loop-number : goal.invariant-loop-number
invariant-loop-number l = first_text (part_before l.root none) (drop l.number-index l.numbers) ≡ first_text (part_before l.root none) l.numbers
