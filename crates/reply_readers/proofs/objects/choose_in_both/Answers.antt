use Rattle.std.proofs.Common.{◌==◌, ap, ◌∙◌}
use Rattle.reply_readers.proofs.LeftRecords.{both_chosen}
use Rattle.reply_readers.proofs.objects.choose_in_both.Goals as goal

pub returns : goal.returns
returns c =
    both_chosen c.choose_member.result c.args.kind c.args.pointer.now c.args.members.now c.args.least c.in_ok-in_list.in_list c.in_ok-in_both.in_both
    c.args.asked.now c.in_ok-left.left.items c.choose_in_list_member.new.left.items c.choose_in_unknown_member.new.left.items c.is_empty.result
    c.in_ok-left.ensures.items c.in_ok-in_list.ensures.least c.in_ok-in_list.ensures.left c.in_ok-in_both.ensures.least c.in_ok-in_both.ensures.left
    (c.is_empty.ensures ∙ ap (λ n. n == 0) c.choose_in_unknown_member.new.left.ok.0) c.choose_member.ensures
