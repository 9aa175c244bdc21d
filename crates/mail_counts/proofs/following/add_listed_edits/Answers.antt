use Rattle.std.proofs.Common.{◌++◌, ap, ◌∙◌}
use Rattle.std.specs.List.{flat_map}
use Rattle.mail_counts.specs.Members.{member_cmp}
use Rattle.mail_counts.specs.Steps.{listed_edits}
use Rattle.mail_counts.specs.Touched.{sorted_once}
use Rattle.mail_counts.proofs.following.add_listed_edits.Goals as goal

pub returns : goal.returns
returns c =
    c.in_ok-add_thread_edits.ensures
    ∙ ap (λ ms. c.args.edits.now.items ++ flat_map (listed_edits c.args.content.now ms) c.args.threads.now)
    (c.new-members.ensures ∙ ap (sorted_once member_cmp) c.in_ok-collect_thread_members.ensures)
