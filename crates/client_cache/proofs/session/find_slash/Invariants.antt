use Rattle.std.proofs.Common.{◌≡◌, length}
use Rattle.client_cache.specs.Sessions.{from_slash}
use Rattle.client_cache.proofs.session.find_slash.Given as goal

abbrev pub invariant-part : goal.invariant-part
invariant-part l = from_slash l.rest ≡ from_slash l.text

abbrev pub decreases-part : goal.decreases-part
decreases-part l = length l.rest
