use Rattle.std.proofs.Common.{◌≡◌, ◌++◌, drop}
use Rattle.method_args.specs.Ids.{id_trees}
use Rattle.method_args.proofs.ids.make_ids.Given as goal

abbrev pub invariant-loop-number : goal.invariant-loop-number
invariant-loop-number l = l.ids ++ id_trees l.kind (drop l.number-index l.numbers) ≡ id_trees l.kind l.numbers
