use Rattle.header_forms.proofs.PartTexts.{comment_begun}
use Rattle.header_forms.proofs.address_items.find_last_comment.Goals as goal

pub loop-rest-init : goal.loop-rest-init
loop-rest-init c = comment_begun c.args.item.now
