use Rattle.std.proofs.Common.{◌≡◌, length}
use Rattle.client_cache.specs.Sessions.{after_scheme}
use Rattle.client_cache.proofs.session.find_after_scheme.Given as goal

abbrev pub invariant-part : goal.invariant-part
invariant-part l = after_scheme l.rest ≡ after_scheme l.url

abbrev pub decreases-part : goal.decreases-part
decreases-part l = length l.rest
