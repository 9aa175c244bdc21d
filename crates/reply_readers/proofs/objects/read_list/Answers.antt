use Rattle.std.proofs.Common.{◌∙◌}
use Rattle.reply_readers.proofs.ReadLists.{on_object}
use Rattle.reply_readers.proofs.objects.read_list.Goals as goal

pub loop-value-preserved : goal.loop-value-preserved
loop-value-preserved c =
    c.loop-value.invariant
    ∙ on_object c.args.kind c.loop-value.objects c.push.new.self c.in-Some.value c.in-Some-read_object.object c.loop-value.rest.items c.pop_front.new.self.items
    c.in-Some.ensures.items c.in-Some-read_object.ensures c.in_ok-push-in-Some-read_object.ensures.ok
