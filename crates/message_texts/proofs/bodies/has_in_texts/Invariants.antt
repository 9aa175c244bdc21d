use Rattle.std.proofs.Common.{◌≡◌, drop}
use Rattle.filter_terms.specs.Contains.{some_contains}
use Rattle.message_texts.proofs.bodies.has_in_texts.Given as goal

abbrev pub invariant-loop-text : goal.invariant-loop-text
invariant-loop-text l = some_contains l.needle (drop l.text-index l.texts) ≡ some_contains l.needle l.texts
