-- The Session object (RFC 8620, 2; RFC 8621, 1.3.1; RFC 8887, 3).
use Rattle.std.specs.Prelude.{ℕ, pos, Bool, true, not, List, [], ◌∷◌, ◌++◌, map, codes}
use Rattle.jm_json.specs.Tree.{Tree, null, boolean, number, text, list, object, trees_of, fields_of}
use Rattle.jm_json.specs.Order.{put_all}
use Rattle.method_batch.specs.Method.{core_capability, mail_capability, websocket_capability}
use Rattle.jm_base.specs.declared.limits.TheConstants.{MAX_REQUEST_BYTES, MAX_SESSIONS, MAX_UPLOAD_BYTES}
use Rattle.method_batch.specs.declared.limits.TheConstants.{MAX_CALLS_PER_REQUEST}
use Rattle.method_args.specs.declared.TheConstants.{MAX_OBJECTS_PER_CALL}
use Rattle.server_users.specs.declared.users.User.{User}
use Rattle.server_users.specs.declared.users.UserAccount.{UserAccount}
use Rattle.jm_base.specs.declared.limits.TheConstants.{MAX_MAILBOXES_PER_EMAIL}
use Rattle.jm_base.specs.declared.limits.TheConstants.{MAX_MAILBOX_NAME_BYTES}

-- ---- capabilities

-- what the core says of its limits (RFC 8620, 2)
abbrev pub core_tree : Tree
core_tree =
    object (fields_of (
    (codes "collationAlgorithms", list (trees_of (text (codes "i;ascii-casemap") ∷ [])))
    ∷ (codes "maxCallsInRequest", number (pos MAX_CALLS_PER_REQUEST))
    ∷ (codes "maxConcurrentRequests", number (pos MAX_SESSIONS))
    ∷ (codes "maxConcurrentUpload", number (pos MAX_SESSIONS))
    ∷ (codes "maxObjectsInGet", number (pos MAX_OBJECTS_PER_CALL))
    ∷ (codes "maxObjectsInSet", number (pos MAX_OBJECTS_PER_CALL))
    ∷ (codes "maxSizeRequest", number (pos MAX_REQUEST_BYTES))
    ∷ (codes "maxSizeUpload", number (pos MAX_UPLOAD_BYTES))
    ∷ []
    ))

-- WebSocket connections, over which changes are pushed (RFC 8887, 3)
abbrev pub websocket_tree : List ℕ → Tree
websocket_tree host =
    object (fields_of (
    (codes "supportsPush", boolean true)
    ∷ (codes "url", text (codes "ws://" ++ (host ++ codes "/jmap/ws")))
    ∷ []
    ))

abbrev pub capabilities_tree : List ℕ → Tree
capabilities_tree host =
    object (fields_of (
    (core_capability, core_tree)
    ∷ (mail_capability, object (fields_of []))
    ∷ (websocket_capability, websocket_tree host)
    ∷ []
    ))

-- ---- accounts

-- the properties by which emails can be sorted (RFC 8621, 4.4.2)
abbrev pub sort_options : List Tree
sort_options =
    text (codes "receivedAt") ∷ text (codes "size") ∷ text (codes "from") ∷ text (codes "to")
    ∷ text (codes "subject") ∷ text (codes "sentAt") ∷ text (codes "hasKeyword")
    ∷ text (codes "allInThreadHaveKeyword") ∷ text (codes "someInThreadHaveKeyword") ∷ []

-- what an account says of its mail (RFC 8621, 1.3.1)
abbrev pub mail_tree : Bool → Tree
mail_tree read_only =
    object (fields_of (
    (codes "emailQuerySortOptions", list (trees_of sort_options))
    ∷ (codes "maxMailboxDepth", null)
    ∷ (codes "maxMailboxesPerEmail", number (pos MAX_MAILBOXES_PER_EMAIL))
    ∷ (codes "maxSizeAttachmentsPerEmail", number (pos MAX_UPLOAD_BYTES))
    ∷ (codes "maxSizeMailboxName", number (pos MAX_MAILBOX_NAME_BYTES))
    ∷ (codes "mayCreateTopLevelMailbox", boolean (not read_only))
    ∷ []
    ))

abbrev pub account_tree : UserAccount → Tree
account_tree a =
    object (fields_of (
    (codes "accountCapabilities", object (fields_of ((mail_capability, mail_tree a.read_only) ∷ [])))
    ∷ (codes "isPersonal", boolean true)
    ∷ (codes "isReadOnly", boolean a.read_only)
    ∷ (codes "name", text a.name)
    ∷ []
    ))

-- the accounts by their identifiers
abbrev pub account_members : List UserAccount → List (List ℕ × Tree)
account_members accounts = put_all (map (λ a. (a.id, account_tree a)) accounts) []

-- the first account is the primary one; a user without accounts has none
abbrev pub primary_members : List UserAccount → List (List ℕ × Tree)
primary_members [] = []
primary_members (a ∷ accounts) = (mail_capability, text a.id) ∷ []

-- ---- the Session

-- a URL at the host that the request names
abbrev pub url : List ℕ → List ℕ → Tree
url host path = text (codes "http://" ++ (host ++ path))

abbrev pub session_tree : User → List ℕ → Tree
session_tree user host =
    object (fields_of (
    (codes "accounts", object (fields_of (account_members user.accounts)))
    ∷ (codes "apiUrl", url host (codes "/jmap/api"))
    ∷ (codes "capabilities", capabilities_tree host)
    ∷ (
      codes "downloadUrl",
      url host (codes "/jmap/download/{accountId}/{blobId}/{name}?accept={type}"),
    )
    ∷ (
      codes "eventSourceUrl",
      url host (codes "/jmap/events?types={types}&closeafter={closeafter}&ping={ping}"),
    )
    ∷ (codes "primaryAccounts", object (fields_of (primary_members user.accounts)))
    ∷ (codes "state", text (codes "0"))
    ∷ (codes "uploadUrl", url host (codes "/jmap/upload/{accountId}/"))
    ∷ (codes "username", text user.name)
    ∷ []
    ))
