use Rattle.std.proofs.Common.{◌≡◌, length}
use Rattle.header_forms.specs.Addresses.{last_comment}
use Rattle.header_forms.proofs.PartTexts.{comment_from}
use Rattle.header_forms.proofs.address_items.find_last_comment.Given as goal

abbrev pub invariant-loop-rest : goal.invariant-loop-rest
invariant-loop-rest l = comment_from l.found l.rest ≡ last_comment l.item

abbrev pub decreases-loop-rest : goal.decreases-loop-rest
decreases-loop-rest l = length l.rest
