use Rattle.std.proofs.Common.{◌≡◌, drop}
use Rattle.filter_terms.specs.Contains.{begins_with}
use Rattle.filter_terms.proofs.containment.begins_with.Given as goal

abbrev pub invariant-loop-byte : goal.invariant-loop-byte
invariant-loop-byte l = begins_with (drop l.byte-index l.needle) l.rest ≡ begins_with l.needle l.text
