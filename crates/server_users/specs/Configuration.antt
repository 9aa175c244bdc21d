-- The configuration of a server, as a tree: its users, and the accounts of each user (RFC 8620, 2;
-- the form of the configuration is our own).
--
--     {"users":[{"accounts":[{"id":I,"name":N,"readOnly":B}],"name":N,"token":T}]}
--
-- Other members are ignored. `BadPlaces` says which trees are of this form.
use Rattle.std.specs.Prelude.{ℕ, get_or, nat_lt, nat_le, ◌==◌, ◌<◌, ◌≡◌, unwrap_or, Bool, not, ◌&&◌, ◌||◌, List, [], ◌∷◌, ◌++◌, length, map, codes, bytes_eq, if◌then◌else◌}
use Rattle.std.specs.List.{fold, list_any, list_all, position, AllByRecursion}
use Rattle.std.specs.Char.{is_ascii_alphanumeric}
use Rattle.jm_json.specs.Tree.{Tree}
use Rattle.server_users.specs.Values.{text_or_empty, flag_or_false, items_or_none}
use Rattle.server_users.specs.declared.users.User.{User}
use Rattle.server_users.specs.declared.users.UserAccount.{UserAccount}
use Rattle.server_users.specs.declared.limits.TheConstants.{MAX_ACCOUNTS, MAX_ACCOUNT_ID_BYTES}

-- ---- identifiers of accounts

-- a letter, a digit, `-` or `_` (RFC 8620, 1.2)
abbrev pub is_id_byte : ℕ → Bool
is_id_byte b = is_ascii_alphanumeric b || (b == 45 || b == 95)

abbrev pub is_account_id : List ℕ → Bool
is_account_id id =
    nat_lt 0 (length id) && nat_le (length id) MAX_ACCOUNT_ID_BYTES && list_all is_id_byte id

abbrev pub is_among : List (List ℕ) → List ℕ → Bool
is_among ids id = list_any (λ other. bytes_eq other id) ids

-- ---- the users and the accounts in the tree of a configuration

abbrev pub user_trees : Tree → List Tree
user_trees t = items_or_none (codes "users") t

abbrev pub account_trees : Tree → List Tree
account_trees user = items_or_none (codes "accounts") user

abbrev pub id_in : Tree → List ℕ
id_in account = text_or_empty (codes "id") account

-- The accounts by number: their identifiers in the order of their first mention, of which a server
-- has at most `MAX_ACCOUNTS`. This is the list after one more mention.
abbrev pub with_mention : List (List ℕ) → Tree → List (List ℕ)
with_mention ids account =
    if is_account_id (id_in account) && not (is_among ids (id_in account))
    && nat_lt (length ids) MAX_ACCOUNTS
    then ids ++ id_in account ∷ []
    else ids

abbrev pub with_mentions : List (List ℕ) → Tree → List (List ℕ)
with_mentions ids user = fold with_mention ids (account_trees user)

abbrev pub account_ids : Tree → List (List ℕ)
account_ids t = fold with_mentions [] (user_trees t)

-- the number of an account: the index of its identifier
abbrev pub number_of : List (List ℕ) → List ℕ → ℕ
number_of ids id = unwrap_or (position (λ other. bytes_eq other id) ids) 0

abbrev pub account_in : List (List ℕ) → Tree → UserAccount
account_in ids t = record {
  number = number_of ids (id_in t);
  id = id_in t;
  name = text_or_empty (codes "name") t;
  read_only = flag_or_false (codes "readOnly") t;
}

abbrev pub user_in : List (List ℕ) → Tree → User
user_in ids t = record {
  name = text_or_empty (codes "name") t;
  token = text_or_empty (codes "token") t;
  accounts = map (account_in ids) (account_trees t);
}

-- ---- the users of a server

-- the users in order, and the identifiers of the accounts by number
pub record Configuration : Type 0 where
  pub users : List User
  pub account_ids : List (List ℕ)

abbrev pub configuration_in : Tree → Configuration
configuration_in t = record {
  users = map (user_in (account_ids t)) (user_trees t);
  account_ids = account_ids t;
}

-- the number of an account is the index of its identifier
abbrev pub IsNumbered : List (List ℕ) → UserAccount → Type 0
IsNumbered ids a = (a.number < length ids) × (get_or ids a.number [] ≡ a.id)

abbrev pub AreNumbered : Configuration → Type 0
AreNumbered c = AllByRecursion (λ u. AllByRecursion (IsNumbered c.account_ids) u.accounts) c.users
