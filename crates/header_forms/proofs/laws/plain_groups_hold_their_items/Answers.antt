use Rattle.header_forms.proofs.PlainGroup.{one_group}
use Rattle.header_forms.proofs.laws.plain_groups_hold_their_items.Goals as goal

pub returns : goal.returns
returns c = one_group
