use Rattle.std.proofs.Common.{◌+◌, drop, get_or, map, ap, ap₂, ◌∙◌}
use Rattle.std.proofs.lemmas.List.{drop_more}
use Rattle.mail_counts.specs.DerivedEdits.{edits_of_thread}
use Rattle.mail_counts.specs.Members.{member_number}
use Rattle.mail_counts.specs.Steps.{listed_edits}
use Rattle.mail_counts.proofs.Turns.{item_turned}
use Rattle.mail_counts.proofs.following.add_thread_edits.Goals as goal

pub loop-thread-preserved : goal.loop-thread-preserved
loop-thread-preserved c =
    let threads = c.args.threads.now in
    let i = c.loop-thread.thread-index in
    let t = get_or threads i 0 in
    item_turned (listed_edits c.args.content.now c.args.members.now) t (drop i threads) (drop (i + 1) threads) _
    c.loop-thread.edits.items c.add_edits_of_thread.new.edits.items _
    (drop_more threads i 0 c.loop-thread-test.true)
    (ap₂ (λ ns o. edits_of_thread t ns o) (c.in_ok-emails.ensures ∙ ap (map member_number) c.of_group.ensures) c.thread.ensures)
    c.in_ok-add_edits_of_thread.ensures c.loop-thread.invariant
