use Rattle.std.proofs.Common.{◌≡◌, map, drop, []}
use Rattle.mime_type.specs.PartViews.{node_of}
use Rattle.mail_view.specs.Objects.{put_all}
use Rattle.mail_view.specs.Parts.{part_member}
use Rattle.mail_view.proofs.part.write_part_members.Given as goal

abbrev pub invariant-loop-asked : goal.invariant-loop-asked
invariant-loop-asked l =
    put_all (map (part_member l.showing.bytes.now l.showing.blob.now (node_of l.part)) (drop l.asked-index l.showing.asked.now)) l.members
    ≡ put_all (map (part_member l.showing.bytes.now l.showing.blob.now (node_of l.part)) l.showing.asked.now) []
