use Rattle.std.proofs.Common.{◌≡◌, ◌≤◌, false, length}
use Rattle.mime_type.specs.Grammar.{quoted_from, with_prefix}
use Rattle.mime_type.proofs.values.read_quoted_rest.Given as goal

abbrev pub invariant-loop-rest : goal.invariant-loop-rest
invariant-loop-rest l = record {
  same : with_prefix l.out.items (quoted_from l.quoted l.rest) ≡ quoted_from false l.text;
  within : length l.rest ≤ length l.text;
}

abbrev pub decreases-loop-rest : goal.decreases-loop-rest
decreases-loop-rest l = length l.rest
