use Rattle.std.proofs.Common.{◌≡◌, drop, ◌++◌}
use Rattle.mail_view.specs.Parts.{leaves_among}
use Rattle.mail_view.specs.Views.{nodes_of}
use Rattle.mail_view.proofs.part_list.write_leaves.Given as goal

abbrev pub invariant-loop-number : goal.invariant-loop-number
invariant-loop-number l =
    leaves_among l.showing.bytes.now l.showing.blob.now l.showing.asked.now (nodes_of l.parts) l.numbers
    ≡ l.items ++ leaves_among l.showing.bytes.now l.showing.blob.now l.showing.asked.now (nodes_of l.parts) (drop l.number-index l.numbers)
