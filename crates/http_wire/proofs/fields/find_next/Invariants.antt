use Rattle.std.proofs.Common.{◌≡◌, ◌≤◌, length}
use Rattle.http_wire.specs.Fields.{pairs, values_of}
use Rattle.http_wire.proofs.fields.find_next.Given as goal

abbrev pub invariant-field : goal.invariant-field
invariant-field l = record {
  same : values_of l.name (pairs l.rest) ≡ values_of l.name (pairs l.fields);
  within : length l.rest ≤ length l.fields;
}

abbrev pub decreases-field : goal.decreases-field
decreases-field l = length l.rest
