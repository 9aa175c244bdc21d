use Rattle.std.proofs.Common.{refl, map, ap, ◌∙◌}
use Rattle.mail_counts.specs.Members.{listed_in, member_cmp}
use Rattle.mail_counts.specs.Touched.{sorted_once}
use Rattle.mail_counts.proofs.Groups.{group-list}
use Rattle.mail_counts.proofs.thread_lists.ThreadLists.new.Goals as goal

pub returns : goal.returns
returns c =
    let emails = map (λ r. r.now) c.args.emails.now in
    λ t.
    ap (λ members. listed_in members t) (c.new.ensures ∙ ap (sorted_once member_cmp) c.in_ok-collect_thread_members.ensures)
    ∙ group-list t emails emails refl
