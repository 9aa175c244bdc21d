use Rattle.std.proofs.Common.{◌≡◌, length}
use Rattle.http_wire.specs.Fields.{pairs}
use Rattle.jmap_http.specs.Authorization.{field_value}
use Rattle.jmap_http.proofs.authorization.find_field.Given as goal

abbrev pub invariant-field : goal.invariant-field
invariant-field l = field_value l.name (pairs l.rest) ≡ field_value l.name (pairs l.fields)

abbrev pub decreases-field : goal.decreases-field
decreases-field l = length l.rest
