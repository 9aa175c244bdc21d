-- The account that a call names, or the error by the accounts that it names (RFC 8620, 3.6.2 and
-- 5.4).
use Rattle.std.specs.Prelude.{ℕ, ◌==◌, List, [], Bool, ◌&&◌, ◌||◌, Option, Some, None, Result, Ok, Err, is_none, option_and_then, cond, codes, bytes_eq, slice_get}
use Rattle.jm_json.specs.Call.{Call}
use Rattle.jm_json.specs.Find.{as_object}
use Rattle.jm_json.specs.Tree.{Tree}
use Rattle.method_args.specs.Arguments.{text_in}
use Rattle.server_users.specs.Configuration.{Configuration}
use Rattle.server_users.specs.Lookups.{account_with}
use Rattle.server_users.specs.declared.users.User.{User}
use Rattle.server_users.specs.declared.users.UserAccount.{UserAccount}

-- the accounts of the user with an index; no user has none
abbrev pub accounts_by : Option User → List UserAccount
accounts_by None = []
accounts_by (Some user) = user.accounts

abbrev pub accounts_of : Configuration → ℕ → List UserAccount
accounts_of users user = accounts_by (slice_get users.users user)

-- the string of an argument of a call, if it is one
abbrev pub argument_in : List ℕ → Tree → Option (List ℕ)
argument_in name args = option_and_then (text_in name) (as_object args)

-- the method copies from another account (RFC 8620, 5.4 and 6.3)
abbrev pub is_copy : List ℕ → Bool
is_copy name = bytes_eq name (codes "Email/copy") || bytes_eq name (codes "Blob/copy")

-- the method may change the account (RFC 8620, 5.3 and 5.4; RFC 8621, 4.8)
abbrev pub is_change : List ℕ → Bool
is_change name =
    is_copy name
    || bytes_eq name (codes "Mailbox/set")
    || bytes_eq name (codes "Email/set")
    || bytes_eq name (codes "Email/import")

-- the account from which a copy is made; None if the call is no copy
abbrev pub source_of : List UserAccount → Call → Option UserAccount
source_of accounts c =
    cond (is_copy c.name)
    (option_and_then (λ id. account_with id accounts) (argument_in (codes "fromAccountId") c.args))
    None

-- Each definition below is the account on which a call is performed, or the type of its error.

-- a copy to an account, from one that is found or not
abbrev pub from_found : UserAccount → Option UserAccount → Result UserAccount (List ℕ)
from_found to None = Err (codes "fromAccountNotFound")
from_found to (Some from) =
    cond (from.number == to.number) (Err (codes "invalidArguments")) (Ok to)

-- a copy to an account, from the one with this identifier
abbrev pub from_named : List UserAccount → UserAccount → Option (List ℕ)
    → Result UserAccount (List ℕ)
from_named accounts to None = Err (codes "invalidArguments")
from_named accounts to (Some id) = from_found to (account_with id accounts)

-- a call on an account that is found or not
abbrev pub to_found : List UserAccount → (copies changes : Bool) → Option (List ℕ)
    → Option UserAccount → Result UserAccount (List ℕ)
to_found accounts copies changes from None = Err (codes "accountNotFound")
to_found accounts copies changes from (Some to) =
    cond (changes && to.read_only)
    (Err (codes "accountReadOnly"))
    (cond copies (from_named accounts to from) (Ok to))

-- a call on the account with this identifier
abbrev pub to_named : List UserAccount → (copies changes : Bool) → (from to : Option (List ℕ))
    → Result UserAccount (List ℕ)
to_named accounts copies changes from None = Err (codes "invalidArguments")
to_named accounts copies changes from (Some id) =
    cond (copies && is_none from)
    (Err (codes "invalidArguments"))
    (to_found accounts copies changes from (account_with id accounts))

-- a call of a user with these accounts
abbrev pub target_of : List UserAccount → Call → Result UserAccount (List ℕ)
target_of accounts c =
    to_named accounts (is_copy c.name) (is_change c.name)
    (argument_in (codes "fromAccountId") c.args)
    (argument_in (codes "accountId") c.args)
