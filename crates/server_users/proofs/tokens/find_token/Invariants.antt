use Rattle.std.proofs.Common.{◌≡◌, ◌+◌, length, bytes_eq}
use Rattle.std.specs.List.{position_from}
use Rattle.std.specs.Option.{option_or}
use Rattle.server_users.specs.Lookups.{user_with}
use Rattle.server_users.proofs.tokens.find_token.Given as goal

abbrev pub invariant-user : goal.invariant-user
invariant-user l = record {
  first : option_or l.found (position_from (λ u. bytes_eq u.token l.token) l.index l.rest) ≡ user_with l.token l.users;
  within : l.index + length l.rest ≡ length l.users;
}

abbrev pub decreases-user : goal.decreases-user
decreases-user l = length l.rest
