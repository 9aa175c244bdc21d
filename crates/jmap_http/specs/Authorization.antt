-- Whose request it is (RFC 6750, 2.1).
use Rattle.std.specs.Prelude.{ℕ, ◌==◌, ◌&&◌, not, nat_le, Bool, List, [], ◌∷◌, length, take, drop, codes, Option, None, Some, option_and_then, is_none, if◌then◌else◌}
use Rattle.std.specs.Str.{str_eq_ignore_ascii_case}
use Rattle.http_wire.specs.Fields.{values_of}
use Rattle.server_users.specs.declared.users.User.{User}
use Rattle.server_users.specs.Lookups.{user_with}

abbrev pub first_of : List (List ℕ) → Option (List ℕ)
first_of [] = None
first_of (x ∷ xs) = Some x

-- the value of the first field of a name
abbrev pub field_value : List ℕ → List (List ℕ × List ℕ) → Option (List ℕ)
field_value name fields = first_of (values_of name fields)

abbrev pub without_spaces : List ℕ → List ℕ
without_spaces [] = []
without_spaces (b ∷ bytes) = if b == 32 then without_spaces bytes else b ∷ bytes

-- what follows one or more spaces
abbrev pub after_spaces : List ℕ → Option (List ℕ)
after_spaces [] = None
after_spaces (b ∷ bytes) = if b == 32 then Some (without_spaces bytes) else None

abbrev pub is_bearer : List ℕ → Bool
is_bearer value =
    nat_le (length (codes "Bearer")) (length value)
    && str_eq_ignore_ascii_case (take (length (codes "Bearer")) value) (codes "Bearer")

-- the word Bearer, in either case, one or more spaces, and the token
abbrev pub token_in : List ℕ → Option (List ℕ)
token_in value =
    if is_bearer value then after_spaces (drop (length (codes "Bearer")) value) else None

-- the index of the user whose token a request has
abbrev pub user_of : List User → List (List ℕ × List ℕ) → Option ℕ
user_of users fields =
    option_and_then (λ token. user_with token users)
    (option_and_then token_in (field_value (codes "Authorization") fields))

-- a request has the token of a user
abbrev pub is_known : List User → List (List ℕ × List ℕ) → Bool
is_known users fields = not (is_none (user_of users fields))
