use Rattle.std.proofs.Common.{◌≡◌, drop}
use Rattle.mail_view.specs.Parts.{part_numbered}
use Rattle.mail_view.specs.Views.{nodes_of}
use Rattle.mail_view.proofs.part_list.find_part.Given as goal

abbrev pub invariant-loop-part : goal.invariant-loop-part
invariant-loop-part l = part_numbered (nodes_of l.parts) l.number ≡ part_numbered (nodes_of (drop l.part-index l.parts)) l.number
