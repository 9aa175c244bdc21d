use Rattle.std.proofs.Common.{◌≡◌, drop, []}
use Rattle.body_lists.specs.Views.{lists_of}
use Rattle.mail_view.specs.Objects.{put_all}
use Rattle.mail_view.specs.Views.{nodes_of}
use Rattle.mail_view.specs.Values.{entries}
use Rattle.mail_view.proofs.values.write_part_values.Given as goal

abbrev pub invariant-loop-part : goal.invariant-loop-part
invariant-loop-part l =
    put_all (entries l.bytes l.wanted (lists_of l.lists) (nodes_of (drop l.part-index l.parts))) l.values
    ≡ put_all (entries l.bytes l.wanted (lists_of l.lists) (nodes_of l.parts)) []
