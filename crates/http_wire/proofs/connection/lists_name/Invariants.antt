use Rattle.std.proofs.Common.{◌≡◌, length}
use Rattle.http_wire.specs.Fields.{lists_name}
use Rattle.http_wire.proofs.connection.lists_name.Given as goal

abbrev pub invariant-part : goal.invariant-part
invariant-part l = lists_name l.name l.rest ≡ lists_name l.name l.value

abbrev pub decreases-part : goal.decreases-part
decreases-part l = length l.rest
