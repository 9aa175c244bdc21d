-- What a request's target names (RFC 8620, 2, 3.1, 6.1 and 6.2; the paths are our own).
use Rattle.std.specs.Prelude.{ℕ, Bool, false, ◌&&◌, List, [], codes, bytes_eq, Option, None, Some, option_and_then, is_none, unwrap_or, if◌then◌else◌}
use Rattle.httparse.specs.Grammar.{is_token}
use Rattle.percent_encoding.specs.Percent.{percent_decode}
use Rattle.server_users.specs.Lookups.{account_with}
use Rattle.server_users.specs.declared.users.UserAccount.{UserAccount}
use Rattle.jmap_http.specs.Cuts.{cut_before, cut_after, strip_start, strip_end}

-- nothing; the Session; the API; uploads to an account; or a blob of an account, with what the
-- client asks its media type to be
pub data Resource : Type 0 where
  Missing SessionResource ApiResource : Resource
  UploadResource : UserAccount → Resource
  BlobResource : UserAccount → (blob accept : List ℕ) → Resource

-- an account that can be written
abbrev pub upload_to : Option UserAccount → Resource
upload_to None = Missing
upload_to (Some a) = if a.read_only then Missing else UploadResource a

-- `ACCOUNT/`
abbrev pub upload_resource : List UserAccount → List ℕ → Resource
upload_resource accounts rest =
    upload_to (option_and_then (λ id. account_with id accounts) (strip_end (codes "/") rest))

-- ---- `ACCOUNT/BLOB/NAME`, and perhaps a query `accept=TYPE`

-- what the client asks the media type to be: nothing unless the query begins with `accept=`
abbrev pub accept_by : Option (List ℕ) → List ℕ
accept_by None = []
accept_by (Some query) = unwrap_or (strip_start (codes "accept=") query) []

-- `?`
abbrev pub question_mark : ℕ
question_mark = 63

-- `/`
abbrev pub slash : ℕ
slash = 47

abbrev pub blob_of : Option UserAccount → (blob accept : List ℕ) → Resource
blob_of None blob accept = Missing
blob_of (Some a) blob accept = BlobResource a blob accept

-- the name is one segment, perhaps empty
abbrev pub blob_with_name : Option UserAccount → (blob accept : List ℕ) → Option (List ℕ) → Resource
blob_with_name account blob accept None = Missing
blob_with_name account blob accept (Some name) =
    if is_none (cut_after slash name) then blob_of account blob accept else Missing

abbrev pub blob_after : Option UserAccount → List ℕ → Option (List ℕ) → Resource
blob_after account accept None = Missing
blob_after account accept (Some rest) =
    blob_with_name account (cut_before slash rest) accept (cut_after slash rest)

abbrev pub blob_path : List UserAccount → List ℕ → List ℕ → Resource
blob_path accounts accept path =
    blob_after (account_with (cut_before slash path) accounts) accept (cut_after slash path)

abbrev pub blob_resource : List UserAccount → List ℕ → Resource
blob_resource accounts rest =
    blob_path accounts (accept_by (cut_after question_mark rest)) (cut_before question_mark rest)

-- ---- all targets

abbrev pub blob_if : List UserAccount → Option (List ℕ) → Resource
blob_if accounts None = Missing
blob_if accounts (Some rest) = blob_resource accounts rest

abbrev pub upload_if : List UserAccount → List ℕ → Option (List ℕ) → Resource
upload_if accounts target None = blob_if accounts (strip_start (codes "/jmap/download/") target)
upload_if accounts target (Some rest) = upload_resource accounts rest

-- what a target names for a user with these accounts
abbrev pub resource_of : List UserAccount → List ℕ → Resource
resource_of accounts target =
    if bytes_eq target (codes "/.well-known/jmap") then SessionResource
    else if bytes_eq target (codes "/jmap/api") then ApiResource
    else upload_if accounts target (strip_start (codes "/jmap/upload/") target)

-- the method by which a resource is asked for
abbrev pub is_method_of : Resource → List ℕ → Bool
is_method_of Missing method = false
is_method_of SessionResource method = bytes_eq method (codes "GET")
is_method_of ApiResource method = bytes_eq method (codes "POST")
is_method_of (UploadResource a) method = bytes_eq method (codes "POST")
is_method_of (BlobResource a blob accept) method = bytes_eq method (codes "GET")

-- ---- the media type of a blob

-- two tokens with `/` between (RFC 9110, 8.3.1; without parameters)
abbrev pub is_token_after : Option (List ℕ) → Bool
is_token_after None = false
is_token_after (Some subtype) = is_token subtype

abbrev pub is_media_type : List ℕ → Bool
is_media_type media = is_token (cut_before slash media) && is_token_after (cut_after slash media)

abbrev pub default_media : List ℕ
default_media = codes "application/octet-stream"

-- what the client asks for, percent-decoded (RFC 3986, 2.1), if that is a media type
abbrev pub media_of : List ℕ → List ℕ
media_of accept =
    if is_media_type (percent_decode accept) then percent_decode accept else default_media
