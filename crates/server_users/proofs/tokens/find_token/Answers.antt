use Rattle.std.proofs.Common.{arith, bytes_eq, sym}
use Rattle.std.proofs.lemmas.Iterator.Adapters.{position_from-zero}
use Rattle.server_users.proofs.tokens.find_token.Goals as goal

pub user-init : goal.user-init
user-init c = record { first = sym (position_from-zero (λ u. bytes_eq u.token c.args.token.now) c.args.users.now); within = omega arith }
