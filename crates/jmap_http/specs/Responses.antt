-- The response to a request, over any port.
use Rattle.std.specs.Prelude.{◌≡◌, ◌⊎◌, ℕ, pos, ◌==◌, Bool, List, [], ◌∷◌, length, codes, get_or, Option, None, Some, unwrap_or, if◌then◌else◌, cond, not, ◌&&◌, true, false}
use Rattle.std.specs.Str.Lossy.{utf8_lossy}
use Rattle.serde_json.specs.Written.{compact_text}
use Rattle.jm_json.specs.Tree.{Tree, number, text, object, fields_of}
use Rattle.jm_json.specs.JsonValues.{data_of}
use Rattle.jm_json.specs.Json.{tree_of}
use Rattle.method_batch.specs.Outcome.{IsAnswer, HasBegunAnswer, limit_tree}
use Rattle.method_batch.specs.declared.outcome.Outcome.{Outcome}
use Rattle.blob_ids.specs.BlobIds.{blob_text}
use Rattle.server_users.specs.declared.users.User.{User}
use Rattle.server_users.specs.declared.users.UserAccount.{UserAccount}
use Rattle.jmap_http.specs.Authorization.{field_value, user_of}
use Rattle.jmap_http.specs.Targets.{Resource, Missing, SessionResource, ApiResource, UploadResource, BlobResource, resource_of, is_method_of, default_media, media_of}
use Rattle.jmap_http.specs.Session.{session_tree}
use Rattle.jmap_http.specs.Steps.{UserSteps}
use Rattle.jmap_http.specs.declared.port.Stored.{Stored}
use Rattle.jmap_http.specs.declared.port.Stored.TheVariants.{Kept, Full, Failed}
use Rattle.jmap_http.specs.declared.response.Response.{Response}

-- a request: its method, its target, the names and values of its fields, and its body
pub record AskedRequest : Type 0 where
  pub method : List ℕ
  pub target : List ℕ
  pub fields : List (List ℕ × List ℕ)
  pub body : List ℕ

-- ---- JSON bodies

abbrev pub json_text : Tree → List ℕ
json_text t = compact_text (data_of t)

abbrev pub json_media : List ℕ
json_media = codes "application/json"

abbrev pub problem_media : List ℕ
problem_media = codes "application/problem+json"

-- a response with this status and this tree; problem details have a media type of their own (RFC
-- 7807, 3)
abbrev pub json_response : ℕ → Tree → Response
json_response status t = record { status = status; media = json_media; body = json_text t }

abbrev pub problem_response : ℕ → Tree → Response
problem_response status t = record { status = status; media = problem_media; body = json_text t }

-- problem details that say the status alone (RFC 7807, 4.2)
abbrev pub blank_tree : ℕ → Tree
blank_tree status =
    object (fields_of (
    (codes "status", number (pos status)) ∷ (codes "type", text (codes "about:blank")) ∷ []
    ))

abbrev pub blank_response : ℕ → Response
blank_response status = problem_response status (blank_tree status)

-- a limit of this name was passed
abbrev pub limit_response : List ℕ → Response
limit_response name = problem_response 413 (limit_tree name)

-- ---- each resource

-- the host that the request names (RFC 9112, 3.2)
abbrev pub host_of : List (List ℕ × List ℕ) → List ℕ
host_of fields = utf8_lossy (unwrap_or (field_value (codes "Host") fields) [])

abbrev pub session_response : User → List (List ℕ × List ℕ) → Response
session_response user fields = json_response 200 (session_tree user (host_of fields))

-- the media type of a Response, or of a problem (RFC 7807, 3)
abbrev pub api_media : ℕ → List ℕ
api_media status = if status == 200 then json_media else problem_media

-- a Response, or the problem for which a request is rejected (RFC 8620, 3.6.1)
abbrev pub api_response : Outcome → Response
api_response o = record {
  status = o.status;
  media = api_media o.status;
  body = json_text (tree_of o.tree);
}

-- the media type of an upload: that of the request, which is not checked
abbrev pub upload_media : List (List ℕ × List ℕ) → List ℕ
upload_media fields =
    utf8_lossy (unwrap_or (field_value (codes "Content-Type") fields) default_media)

-- the blob that holds an upload of so many bytes (RFC 8620, 6.1)
abbrev pub stored_tree : List ℕ → List ℕ → ℕ → ℕ → Tree
stored_tree id media size blob =
    object (fields_of (
    (codes "accountId", text id)
    ∷ (codes "blobId", text (blob_text blob))
    ∷ (codes "size", number (pos size))
    ∷ (codes "type", text media)
    ∷ []
    ))

-- an upload of so many bytes: the blob that holds them, or why none does
abbrev pub upload_response : List ℕ → List ℕ → ℕ → Stored → Response
upload_response id media size (Kept blob) = json_response 201 (stored_tree id media size blob)
upload_response id media size Full = limit_response (codes "maxSizeBlobs")
upload_response id media size Failed = blank_response 500

-- the bytes of a blob, or of a leaf (RFC 8620, 6.2)
abbrev pub blob_response : List ℕ → Option (List ℕ) → Response
blob_response accept None = blank_response 404
blob_response accept (Some bytes) = record { status = 200; media = media_of accept; body = bytes }

-- ---- the response, where the port goes from the state s to s' meanwhile

-- a response for which the port is not asked
abbrev pub IsUnasked : {S : Type 0} → S → S → Response → Response → Type 0
IsUnasked s s' response r = (s' ≡ s) × (r ≡ response)

abbrev pub IsApiResponse : {S : Type 0} → UserSteps S → S → S → List ℕ → Response → Type 0
IsApiResponse steps s s' body r =
    (o : Outcome) × IsAnswer steps.answers s s' body o × (r ≡ api_response o)

abbrev pub IsUploadResponse : {S : Type 0} → UserSteps S → S → S → UserAccount
    → List (List ℕ × List ℕ) → (body : List ℕ) → Response → Type 0
IsUploadResponse steps s s' a fields body r =
    (stored : Stored) × steps.uploads s a.number body stored s'
    × (r ≡ upload_response a.id (upload_media fields) (length body) stored)

abbrev pub IsBlobResponse : {S : Type 0} → UserSteps S → S → S → UserAccount → (blob accept : List
    ℕ) → Response → Type 0
IsBlobResponse steps s s' a blob accept r =
    (o : Option (List ℕ)) × steps.reads s a.number blob o s' × (r ≡ blob_response accept o)

-- a response for which the port is asked, once the user's request has begun
abbrev pub IsBegun : {S : Type 0} → UserSteps S → S → ℕ → ℕ → (S → Type 0) → Type 0
IsBegun {S} steps s user time P = (m : S) × steps.begins s user time m × P m

-- the response of a resource that is asked for by its method, to a request with these fields and
-- this body
abbrev pub IsResourceResponse : {S : Type 0} → UserSteps S → S → S → (index time : ℕ) → User
    → (fields : List (List ℕ × List ℕ)) → (body : List ℕ) → Resource → Response → Type 0
IsResourceResponse steps s s' index time user fields body Missing r =
    IsUnasked s s' (blank_response 404) r
IsResourceResponse steps s s' index time user fields body SessionResource r =
    IsUnasked s s' (session_response user fields) r
IsResourceResponse steps s s' index time user fields body ApiResource r =
    IsBegun steps s index time (λ m. IsApiResponse steps m s' body r)
IsResourceResponse steps s s' index time user fields body (UploadResource a) r =
    IsBegun steps s index time (λ m. IsUploadResponse steps m s' a fields body r)
IsResourceResponse steps s s' index time user fields body (BlobResource a blob accept) r =
    IsBegun steps s index time (λ m. IsBlobResponse steps m s' a blob accept r)

-- there is no such resource
abbrev pub is_missing : Resource → Bool
is_missing Missing = true
is_missing SessionResource = false
is_missing ApiResource = false
is_missing (UploadResource a) = false
is_missing (BlobResource a blob accept) = false

-- the resource is there, and is asked for by another method
abbrev pub is_refused : Resource → List ℕ → Bool
is_refused resource method = not (is_missing resource) && not (is_method_of resource method)

-- Unknown paths and accounts come first (404), then other methods (405).
abbrev pub IsResponseOf : {S : Type 0} → UserSteps S → S → S → (index time : ℕ) → User
    → AskedRequest → Resource → Response → Type 0
IsResponseOf steps s s' index time user q resource r =
    cond (is_refused resource q.method) (IsUnasked s s' (blank_response 405) r)
    (IsResourceResponse steps s s' index time user q.fields q.body resource r)

-- a request without the token of a user (401), or of the user with this index
abbrev pub IsResponseBy : {S : Type 0} → UserSteps S → List User → S → S → ℕ → AskedRequest
    → Option ℕ → Response → Type 0
IsResponseBy steps users s s' time q None r = IsUnasked s s' (blank_response 401) r
IsResponseBy steps users s s' time q (Some index) r =
    (user : User) × (get_or users index user ≡ user)
    × IsResponseOf steps s s' index time user q (resource_of user.accounts q.target) r

-- the response to a complete request, for which the clock showed this timestamp
abbrev pub IsResponse : {S : Type 0} → UserSteps S → List User → S → S → ℕ → AskedRequest → Response
    → Type 0
IsResponse steps users s s' time q r =
    IsResponseBy steps users s s' time q (user_of users q.fields) r

-- ---- A request whose response ended out of memory: the port was not asked; or it was asked, and
-- stopped, or its answer was lost.

abbrev pub HasBegunApi : {S : Type 0} → UserSteps S → S → S → (body : List ℕ) → Type 0
HasBegunApi steps s s' body =
    HasBegunAnswer steps.answers steps.stops s s' body
    ⊎ ((o : Outcome) × IsAnswer steps.answers s s' body o)

abbrev pub HasBegunUpload : {S : Type 0} → UserSteps S → S → S → UserAccount → (body : List ℕ)
    → Type 0
HasBegunUpload steps s s' a body =
    steps.upload_stops s a.number body s'
    ⊎ ((stored : Stored) × steps.uploads s a.number body stored s')

abbrev pub HasBegunBlob : {S : Type 0} → UserSteps S → S → S → UserAccount → (blob : List ℕ)
    → Type 0
HasBegunBlob steps s s' a blob =
    steps.read_stops s a.number blob s'
    ⊎ ((o : Option (List ℕ)) × steps.reads s a.number blob o s')

abbrev pub HasBegunResource : {S : Type 0} → UserSteps S → S → S → (index time : ℕ)
    → (body : List ℕ) → Resource → Type 0
HasBegunResource steps s s' index time body Missing = s' ≡ s
HasBegunResource steps s s' index time body SessionResource = s' ≡ s
HasBegunResource steps s s' index time body ApiResource =
    IsBegun steps s index time (λ m. HasBegunApi steps m s' body)
HasBegunResource steps s s' index time body (UploadResource a) =
    (s' ≡ s) ⊎ IsBegun steps s index time (λ m. HasBegunUpload steps m s' a body)
HasBegunResource steps s s' index time body (BlobResource a blob accept) =
    IsBegun steps s index time (λ m. HasBegunBlob steps m s' a blob)

abbrev pub HasBegunOf : {S : Type 0} → UserSteps S → S → S → (index time : ℕ) → AskedRequest
    → Resource → Type 0
HasBegunOf steps s s' index time q resource =
    cond (is_refused resource q.method) (s' ≡ s)
    (HasBegunResource steps s s' index time q.body resource)

abbrev pub HasBegunBy : {S : Type 0} → UserSteps S → List User → S → S → ℕ → AskedRequest → Option ℕ
    → Type 0
HasBegunBy steps users s s' time q None = s' ≡ s
HasBegunBy steps users s s' time q (Some index) =
    (user : User) × (get_or users index user ≡ user)
    × HasBegunOf steps s s' index time q (resource_of user.accounts q.target)

abbrev pub HasBegunRequest : {S : Type 0} → UserSteps S → List User → S → S → ℕ → AskedRequest
    → Type 0
HasBegunRequest steps users s s' time q =
    HasBegunBy steps users s s' time q (user_of users q.fields)
