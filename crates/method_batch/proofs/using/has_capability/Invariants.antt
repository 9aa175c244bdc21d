use Rattle.std.proofs.Common.{◌≡◌, drop}
use Rattle.method_batch.specs.Request.{uses}
use Rattle.method_batch.proofs.using.has_capability.Given as goal

abbrev pub invariant-loop-text : goal.invariant-loop-text
invariant-loop-text l = uses l.capability l.texts ≡ uses l.capability (drop l.text-index l.texts)
