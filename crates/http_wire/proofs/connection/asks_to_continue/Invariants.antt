use Rattle.std.proofs.Common.{◌≡◌, length, codes}
use Rattle.std.specs.List.{list_any}
use Rattle.std.specs.Str.{str_eq_ignore_ascii_case}
use Rattle.http_wire.specs.Fields.{pairs, values_of}
use Rattle.http_wire.proofs.connection.asks_to_continue.Given as goal

abbrev pub invariant-field : goal.invariant-field
invariant-field l = list_any (λ v. str_eq_ignore_ascii_case v (codes "100-continue")) (values_of (codes "Expect") (pairs l.rest)) ≡ list_any (λ v. str_eq_ignore_ascii_case v (codes "100-continue")) (values_of (codes "Expect") (pairs l.fields))

abbrev pub decreases-field : goal.decreases-field
decreases-field l = length l.rest
