-- The places at which the tree of a configuration is not of its form, each as a JSON Pointer (RFC
-- 6901). A place where a member is missing is bad.
use Rattle.std.specs.Prelude.{ℕ, nat_lt, ◌==◌, Bool, false, not, ◌&&◌, is_some, is_none, List, [], ◌∷◌, ◌++◌, length, map, codes, decimal, if◌then◌else◌, Option, Some, None}
use Rattle.std.specs.List.{list_all}
use Rattle.jm_json.specs.Tree.{Tree}
use Rattle.jm_json.specs.Find.{as_object}
use Rattle.server_users.specs.Values.{text_at, flag_at, items_at, text_or_empty}
use Rattle.server_users.specs.Configuration.{is_account_id, is_among, id_in, account_ids}

-- ---- JSON Pointers to users, accounts and their members

abbrev pub user_pointer : ℕ → List ℕ
user_pointer user = codes "/users/" ++ decimal user

abbrev pub account_pointer : ℕ → ℕ → List ℕ
account_pointer user account = user_pointer user ++ (codes "/accounts/" ++ decimal account)

-- a place, if it is bad
abbrev pub bad_if : Bool → List ℕ → List (List ℕ)
bad_if bad place = if bad then place ∷ [] else []

-- ---- an account of a user

-- an identifier, which no earlier account of the user has, and which is one of the server's
abbrev pub is_good_id : List (List ℕ) → Bool → Option (List ℕ) → Bool
is_good_id ids repeated None = false
is_good_id ids repeated (Some id) = is_account_id id && not repeated && is_among ids id

-- The account with this index of a user. `ids` are the identifiers of the server's accounts.
abbrev pub account_members : List (List ℕ) → ℕ → ℕ → Bool → Tree → List (List ℕ)
account_members ids user index repeated t =
    bad_if (not (is_good_id ids repeated (text_at (codes "id") t)))
    (account_pointer user index ++ codes "/id")
    ++ (bad_if (is_none (text_at (codes "name") t)) (account_pointer user index ++ codes "/name")
    ++ bad_if (is_none (flag_at (codes "readOnly") t))
    (account_pointer user index ++ codes "/readOnly"))

abbrev pub account_places : List (List ℕ) → ℕ → ℕ → Bool → Tree → List (List ℕ)
account_places ids user index repeated t =
    if is_some (as_object t) then account_members ids user index repeated t
    else account_pointer user index ∷ []

-- of the accounts after those with the identifiers `before`
abbrev pub accounts_places : List (List ℕ) → ℕ → List (List ℕ) → List Tree → List (List ℕ)
accounts_places ids user before [] = []
accounts_places ids user before (t ∷ ts) =
    account_places ids user (length before) (is_among before (id_in t)) t
    ++ accounts_places ids user (before ++ id_in t ∷ []) ts

abbrev pub list_places : List (List ℕ) → ℕ → Option (List Tree) → List (List ℕ)
list_places ids user None = (user_pointer user ++ codes "/accounts") ∷ []
list_places ids user (Some ts) = accounts_places ids user [] ts

-- ---- a user

-- a string that is not empty, and that no earlier user has
abbrev pub is_good_name : Bool → Option (List ℕ) → Bool
is_good_name repeated None = false
is_good_name repeated (Some name) = nat_lt 0 (length name) && not repeated

abbrev pub user_members : List (List ℕ) → ℕ → Bool → Bool → Tree → List (List ℕ)
user_members ids user name_repeated token_repeated t =
    list_places ids user (items_at (codes "accounts") t)
    ++ (bad_if (not (is_good_name name_repeated (text_at (codes "name") t)))
    (user_pointer user ++ codes "/name")
    ++ bad_if (not (is_good_name token_repeated (text_at (codes "token") t)))
    (user_pointer user ++ codes "/token"))

abbrev pub user_places : List (List ℕ) → ℕ → Bool → Bool → Tree → List (List ℕ)
user_places ids user name_repeated token_repeated t =
    if is_some (as_object t) then user_members ids user name_repeated token_repeated t
    else user_pointer user ∷ []

abbrev pub names_in : List Tree → List (List ℕ)
names_in users = map (text_or_empty (codes "name")) users

abbrev pub tokens_in : List Tree → List (List ℕ)
tokens_in users = map (text_or_empty (codes "token")) users

-- of the users after those before
abbrev pub users_places : List (List ℕ) → List Tree → List Tree → List (List ℕ)
users_places ids before [] = []
users_places ids before (t ∷ ts) =
    user_places ids (length before)
    (is_among (names_in before) (text_or_empty (codes "name") t))
    (is_among (tokens_in before) (text_or_empty (codes "token") t)) t
    ++ users_places ids (before ++ t ∷ []) ts

-- ---- the configuration

-- the list of a user's accounts is there and empty
abbrev pub is_empty_list : Option (List Tree) → Bool
is_empty_list None = false
is_empty_list (Some ts) = length ts == 0

abbrev pub has_no_account : Tree → Bool
has_no_account user = is_empty_list (items_at (codes "accounts") user)

-- the server has an account: each user's list of accounts is not empty, or it is no list
abbrev pub document_places : List (List ℕ) → Option (List Tree) → List (List ℕ)
document_places ids None = codes "/users" ∷ []
document_places ids (Some users) =
    bad_if (list_all has_no_account users) (codes "/users") ++ users_places ids [] users

-- the bad places of a configuration
abbrev pub bad_places : Tree → List (List ℕ)
bad_places t =
    if is_some (as_object t) then document_places (account_ids t) (items_at (codes "users") t)
    else [] ∷ []
