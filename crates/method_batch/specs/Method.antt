-- The methods, and the capabilities that they belong to (RFC 8620, sections 1.8, 2 and 4; RFC 8621,
-- section 1.3).
use Rattle.std.specs.Prelude.{ℕ, List, Bool, ◌&&◌, ◌||◌, codes, bytes_eq}

abbrev pub core_capability : List ℕ
core_capability = codes "urn:ietf:params:jmap:core"

abbrev pub mail_capability : List ℕ
mail_capability = codes "urn:ietf:params:jmap:mail"

abbrev pub websocket_capability : List ℕ
websocket_capability = codes "urn:ietf:params:jmap:websocket"

abbrev pub is_capability : List ℕ → Bool
is_capability s =
    bytes_eq s core_capability || bytes_eq s mail_capability || bytes_eq s websocket_capability

-- the methods of the core
abbrev pub is_core_method : List ℕ → Bool
is_core_method n = bytes_eq n (codes "Core/echo") || bytes_eq n (codes "Blob/copy")

abbrev pub is_mailbox_method : List ℕ → Bool
is_mailbox_method n =
    bytes_eq n (codes "Mailbox/get")
    || bytes_eq n (codes "Mailbox/changes")
    || bytes_eq n (codes "Mailbox/query")
    || bytes_eq n (codes "Mailbox/queryChanges")
    || bytes_eq n (codes "Mailbox/set")

abbrev pub is_thread_method : List ℕ → Bool
is_thread_method n = bytes_eq n (codes "Thread/get") || bytes_eq n (codes "Thread/changes")

abbrev pub is_email_method : List ℕ → Bool
is_email_method n =
    bytes_eq n (codes "Email/get")
    || bytes_eq n (codes "Email/changes")
    || bytes_eq n (codes "Email/query")
    || bytes_eq n (codes "Email/queryChanges")
    || bytes_eq n (codes "Email/set")
    || bytes_eq n (codes "Email/copy")
    || bytes_eq n (codes "Email/import")
    || bytes_eq n (codes "Email/parse")

-- the methods of mail
abbrev pub is_mail_method : List ℕ → Bool
is_mail_method n = is_mailbox_method n || is_thread_method n || is_email_method n

-- a method may be called where the request uses its capability
abbrev pub is_allowed : Bool → Bool → List ℕ → Bool
is_allowed core mail n = (core && is_core_method n) || (mail && is_mail_method n)
