use Rattle.std.proofs.Common.{◌≡◌, length}
use Rattle.header_forms.specs.WrittenForms.{has_two_spaces}
use Rattle.mime_writer.proofs.values.has_two_spaces.Given as goal

abbrev pub invariant-loop-more : goal.invariant-loop-more
invariant-loop-more l = has_two_spaces l.rest ≡ has_two_spaces l.fn.text

abbrev pub decreases-loop-more : goal.decreases-loop-more
decreases-loop-more l = length l.rest
