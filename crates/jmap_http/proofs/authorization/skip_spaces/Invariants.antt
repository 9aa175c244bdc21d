use Rattle.std.proofs.Common.{◌≡◌, length}
use Rattle.jmap_http.specs.Authorization.{without_spaces}
use Rattle.jmap_http.proofs.authorization.skip_spaces.Given as goal

abbrev pub invariant-space : goal.invariant-space
invariant-space l = without_spaces l.rest ≡ without_spaces l.bytes

abbrev pub decreases-space : goal.decreases-space
decreases-space l = length l.rest
