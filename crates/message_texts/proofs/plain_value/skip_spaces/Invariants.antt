use Rattle.std.proofs.Common.{◌≡◌, length}
use Rattle.header_forms.specs.Texts.{without_spaces}
use Rattle.message_texts.proofs.plain_value.skip_spaces.Given as goal

abbrev pub invariant-loop-first : goal.invariant-loop-first
invariant-loop-first l = without_spaces l.rest ≡ without_spaces l.value

abbrev pub decreases-loop-first : goal.decreases-loop-first
decreases-loop-first l = length l.rest
