-- The Session, as a client reads it (RFC 8620, 2): the path of its API, and the account of mail.
-- Nothing else of it is looked at.
use Rattle.std.specs.Prelude.{ℕ, List, [], ◌∷◌, ◌++◌, drop, Bool, ◌&&◌, ◌==◌, nat_eq, nat_le, Option, Some, None, is_some, option_and_then, if◌then◌else◌, codes}
use Rattle.std.specs.List.{list_all, starts_with}
use Rattle.std.specs.Option.{option_or}
use Rattle.jm_json.specs.Find.{as_object, as_text, find}
use Rattle.jm_json.specs.Tree.{Tree}
use Rattle.method_args.specs.Arguments.{text_in}
use Rattle.method_args.specs.Places.{at_name, member_places, place_unless, places_in}
use Rattle.mail_view.specs.RecordPlaces.{Form}

-- ---- the path of a URL

-- a character from `!` to `~`
abbrev pub is_visible : ℕ → Bool
is_visible b = nat_le 33 b && nat_le b 126

-- what follows the first `://`
abbrev pub after_scheme : List ℕ → Option (List ℕ)
after_scheme [] = None
after_scheme (b ∷ bs) =
    if starts_with nat_eq (b ∷ bs) (codes "://") then Some (drop 3 (b ∷ bs)) else after_scheme bs

-- the text from its first slash on
abbrev pub from_slash : List ℕ → Option (List ℕ)
from_slash [] = None
from_slash (b ∷ bs) = if b == 47 then Some (b ∷ bs) else from_slash bs

-- A text that begins with a slash is a path. Of another the path begins at the first slash after
-- the first `://`.
abbrev pub path_of_url : List ℕ → Option (List ℕ)
path_of_url [] = None
path_of_url (b ∷ bs) =
    if b == 47 then Some (b ∷ bs) else option_and_then from_slash (after_scheme (b ∷ bs))

-- the path of a URL of visible characters alone
abbrev pub path_in : List ℕ → Option (List ℕ)
path_in url = if list_all is_visible url then path_of_url url else None

abbrev pub path_of_tree : Tree → Option (List ℕ)
path_of_tree t = option_and_then path_in (as_text t)

-- ---- the account

-- the capability of mail (RFC 8621, 1.3.1)
abbrev pub mail_capability : List ℕ
mail_capability = codes "urn:ietf:params:jmap:mail"

-- the primary account of mail
abbrev pub primary_account : List (List ℕ × Tree) → Option (List ℕ)
primary_account ms =
    option_and_then (text_in mail_capability)
    (option_and_then as_object (find (codes "primaryAccounts") ms))

-- the account that is kept, or else the primary one
abbrev pub account_after : Option (List ℕ) → List (List ℕ × Tree) → Option (List ℕ)
account_after account ms = option_or account (primary_account ms)

-- ---- where it is not of its form

abbrev pub url_places : Form
url_places p t = place_unless (is_some (path_of_tree t)) p

-- an object that has the account that is kept, if there is one
abbrev pub account_places : Option (List ℕ) → List ℕ → List (List ℕ × Tree) → List (List ℕ)
account_places None p ms = []
account_places (Some id) p ms = place_unless (is_some (find id ms)) (at_name p id)

abbrev pub accounts_places : Option (List ℕ) → Form
accounts_places account p t = places_in (account_places account p) p (as_object t)

-- an object of texts, with that of mail if no account is kept
abbrev pub text_places : List ℕ → List (List ℕ × Tree) → List (List ℕ)
text_places p [] = []
text_places p (m ∷ ms) = place_unless (is_some (as_text m.1)) (at_name p m.0) ++ text_places p ms

abbrev pub primary_places : Option (List ℕ) → List ℕ → List (List ℕ × Tree) → List (List ℕ)
primary_places None p ms =
    place_unless (is_some (find mail_capability ms)) (at_name p mail_capability) ++ text_places p ms
primary_places (Some id) p ms = text_places p ms

abbrev pub primaries_places : Option (List ℕ) → Form
primaries_places account p t = places_in (primary_places account p) p (as_object t)

abbrev pub session_member_places
    : Option (List ℕ) → List ℕ → List (List ℕ × Tree) → List (List ℕ)
session_member_places account p ms =
    member_places (accounts_places account) p (codes "accounts") ms
    ++ member_places url_places p (codes "apiUrl") ms
    ++ member_places (primaries_places account) p (codes "primaryAccounts") ms

-- the places in a Session, for a client that keeps this account or none
abbrev pub session_places : Option (List ℕ) → Tree → List (List ℕ)
session_places account t = places_in (session_member_places account []) [] (as_object t)
