use Rattle.std.proofs.Common.{◌≡◌, ◌≤◌, false, length}
use Rattle.mime_type.specs.Grammar.{quoted_from}
use Rattle.mime_type.specs.Views.{rest_found}
use Rattle.mime_type.proofs.values.skip_quoted.Given as goal

abbrev pub invariant-loop-rest : goal.invariant-loop-rest
invariant-loop-rest l = record {
  same : rest_found (quoted_from l.quoted l.rest) ≡ rest_found (quoted_from false l.text);
  within : length l.rest ≤ length l.text;
}

abbrev pub decreases-loop-rest : goal.decreases-loop-rest
decreases-loop-rest l = length l.rest
