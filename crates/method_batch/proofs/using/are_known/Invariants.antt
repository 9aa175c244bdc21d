use Rattle.std.proofs.Common.{◌≡◌, drop}
use Rattle.std.specs.List.{list_all}
use Rattle.method_batch.specs.Method.{is_capability}
use Rattle.method_batch.proofs.using.are_known.Given as goal

abbrev pub invariant-loop-text : goal.invariant-loop-text
invariant-loop-text l = list_all is_capability l.texts ≡ list_all is_capability (drop l.text-index l.texts)
