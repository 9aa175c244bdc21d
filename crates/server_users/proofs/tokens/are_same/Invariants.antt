use Rattle.std.proofs.Common.{◌≡◌, ◌&&◌, bytes_eq, length}
use Rattle.server_users.proofs.tokens.are_same.Given as goal

abbrev pub invariant-byte : goal.invariant-byte
invariant-byte l = (l.same && bytes_eq l.rest l.others) ≡ bytes_eq l.kept l.given

abbrev pub decreases-byte : goal.decreases-byte
decreases-byte l = length l.rest
