use Rattle.std.proofs.Common.{◌≡◌, drop, [], map, option_map}
use Rattle.mail_view.specs.Objects.{put_all}
use Rattle.mail_view.specs.View.{view_member}
use Rattle.mail_view.proofs.message_view.write_header_members.Given as goal

abbrev pub invariant-loop-asked : goal.invariant-loop-asked
invariant-loop-asked l =
    put_all (map (view_member l.bytes l.blob (option_map (λ e. e.now) l.email) l.wanted) (drop l.asked-index l.properties)) l.members
    ≡ put_all (map (view_member l.bytes l.blob (option_map (λ e. e.now) l.email) l.wanted) l.wanted.properties) []
