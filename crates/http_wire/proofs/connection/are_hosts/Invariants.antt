use Rattle.std.proofs.Common.{◌≡◌, length, codes}
use Rattle.std.specs.List.{list_all}
use Rattle.http_wire.specs.Fields.{pairs, values_of, is_host_byte}
use Rattle.http_wire.proofs.connection.are_hosts.Given as goal

abbrev pub invariant-field : goal.invariant-field
invariant-field l = list_all (list_all is_host_byte) (values_of (codes "Host") (pairs l.rest)) ≡ list_all (list_all is_host_byte) (values_of (codes "Host") (pairs l.fields))

abbrev pub decreases-field : goal.decreases-field
decreases-field l = length l.rest
