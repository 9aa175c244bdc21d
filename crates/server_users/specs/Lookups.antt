-- Why a configuration is not read, whose a token is, and which account an identifier names.
use Rattle.std.specs.Prelude.{◌≡◌, ⊤, ℕ, Bool, List, [], ◌∷◌, Option, None, Some, bytes_eq, if◌then◌else◌}
use Rattle.std.specs.List.{position}
use Rattle.jm_json.specs.Tree.{Tree}
use Rattle.jm_json.specs.LeastPlaces.{IsLeast}
use Rattle.jm_json.specs.Reading.{Reading, not_json, not_whole, whole, reading_of}
use Rattle.server_users.specs.Configuration.{Configuration, configuration_in}
use Rattle.server_users.specs.BadPlaces.{bad_places}
use Rattle.std.specs.HashSet.{contains_by}
use Rattle.server_users.specs.declared.seen_texts.SeenTexts.{SeenTexts}
use Rattle.server_users.specs.declared.users.User.{User}
use Rattle.server_users.specs.declared.users.UserAccount.{UserAccount}
use Rattle.server_users.specs.declared.fault.ConfigFault.{ConfigFault}
use Rattle.server_users.specs.declared.fault.ConfigFault.TheVariants.{BadConfig, NoMemory}

-- ---- reading

-- The bad places of some bytes. Bytes that are no JSON text are bad as a whole (RFC 8259). If a
-- number is no integer, the first such number, in the order of keys, is the one bad place (RFC
-- 7493, 2.2).
abbrev pub places_by : Reading → List (List ℕ)
places_by not_json = [] ∷ []
places_by (not_whole path) = path ∷ []
places_by (whole t) = bad_places t

abbrev pub places_of : List ℕ → List (List ℕ)
places_of bytes = places_by (reading_of bytes)

-- The bytes are of the form, and these are the users that they configure.
abbrev pub IsConfigurationOf : List ℕ → Configuration → Type 0
IsConfigurationOf bytes users =
    (t : Tree) × (reading_of bytes ≡ whole t) × (bad_places t ≡ [])
    × (users ≡ configuration_in t)

-- the fault carries the least bad place
abbrev pub IsFaultOf : List (List ℕ) → ConfigFault → Type 0
IsFaultOf places (BadConfig place) = IsLeast places place
IsFaultOf places NoMemory = ⊤

-- ---- sets of strings

-- the set has this string
abbrev pub holds : SeenTexts → List ℕ → Bool
holds seen text = contains_by (λ k. bytes_eq text k.now) seen.texts

-- ---- tokens

-- the index of the user with this token
abbrev pub user_with : List ℕ → List User → Option ℕ
user_with token users = position (λ u. bytes_eq u.token token) users

-- ---- accounts

-- the account of a user with this identifier
abbrev pub account_with : List ℕ → List UserAccount → Option UserAccount
account_with id [] = None
account_with id (a ∷ accounts) = if bytes_eq a.id id then Some a else account_with id accounts
