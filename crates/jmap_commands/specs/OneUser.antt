-- The one user of `batch`, and the one account, which the user may change.
use Rattle.std.specs.Prelude.{ℕ, List, [], ◌∷◌, false, codes}
use Rattle.server_users.specs.Configuration.{Configuration}
use Rattle.server_users.specs.declared.users.User.{User}
use Rattle.server_users.specs.declared.users.UserAccount.{UserAccount}

-- the account's identifier
abbrev pub account_id : List ℕ
account_id = codes "A1"

abbrev pub the_account : UserAccount
the_account = record { number = 0; id = account_id; name = account_id; read_only = false }

abbrev pub the_accounts : List UserAccount
the_accounts = the_account ∷ []

abbrev pub the_user : User
the_user = record { name = codes "batch"; token = codes "batch"; accounts = the_accounts }

abbrev pub the_users : Configuration
the_users = record { users = the_user ∷ []; account_ids = account_id ∷ [] }
