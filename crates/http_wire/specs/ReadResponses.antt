-- The first response of some bytes (RFC 9112, 4 to 7), and what the reading of it ends with.
use Rattle.std.specs.Prelude.{◌≡◌, ⊤, ℕ, ◌<◌, ◌≤◌, ◌==◌, ◌||◌, nat_lt, Bool, true, false, IsTrue, List, [], ◌++◌, length, if◌then◌else◌, Option, Result, MatchResult}
use Rattle.std.specs.Io.KnownBytes.{Consumes, IsAtEnd}
use Rattle.httparse.specs.Grammar.{ResponseHead, ReadsResponse, status_code}
use Rattle.http_parts.specs.Heads.{begun_bytes}
use Rattle.http_parts.specs.Bodies.{Body, BodyInvalid, BodyTooLong, BodyUnfinished, Whole, sized_body}
use Rattle.http_parts.specs.Chunks.{chunked_body}
use Rattle.http_parts.specs.declared.fault.WireFault.{WireFault}
use Rattle.http_parts.specs.declared.fault.WireFault.TheVariants.{End, ReadFault, WriteFault, BadHead, HeadTooLong, BodyTooLong, CutOff, NoMemory}
use Rattle.http_parts.specs.declared.limits.TheConstants.{MAX_HEAD_FIELDS}
use Rattle.jm_edge.specs.Causes.{Rose}
use Rattle.http_wire.specs.Fields.{is_last}
use Rattle.http_wire.specs.Framings.{Framing, InvalidLength, Chunked, NotSaid, Sized, framing_of}
use Rattle.http_wire.specs.Requests.{Grammar, TooLong, Invalid, Begun, OverLimit, Complete, IsMessage, names_and_values}
use Rattle.http_wire.specs.declared.limits.TheConstants.{MAX_RESPONSE_BYTES}
use Rattle.http_wire.specs.declared.response.HttpResponse.{HttpResponse}

-- A response with this status has no body, whatever its fields say (RFC 9112, 6.3): 204 No Content,
-- and 304 Not Modified.
abbrev pub has_no_body : ℕ → Bool
has_no_body status = status == 204 || status == 304

-- the length of the body of a response with this status, whose fields say that
abbrev pub response_framing : ℕ → Framing → Framing
response_framing status framing = if has_no_body status then Sized 0 else framing

-- A body that goes to the end of the bytes: which bytes it has is known only if they have ended.
-- That it is longer than the limit is known before.
abbrev pub body_to_end : ℕ → Bool → List ℕ → Body
body_to_end limit ended bytes =
    if nat_lt limit (length bytes) then BodyTooLong
    else if ended then Whole bytes [] else BodyUnfinished

-- The body of a response, of which the bytes that follow its head have ended or may go on: if no
-- field says its length, it goes to the end of the bytes (RFC 9112, 6.3).
abbrev pub response_body : Bool → Framing → List ℕ → Body
response_body ended InvalidLength rest = BodyInvalid
response_body ended NotSaid rest = body_to_end MAX_RESPONSE_BYTES ended rest
response_body ended (Sized size) rest = sized_body MAX_RESPONSE_BYTES size rest
response_body ended Chunked rest = chunked_body MAX_RESPONSE_BYTES rest

-- the body goes to the end of the bytes
abbrev pub goes_to_end : Framing → Bool
goes_to_end InvalidLength = false
goes_to_end NotSaid = true
goes_to_end (Sized size) = false
goes_to_end Chunked = false

-- the heads of responses: those that `httparse` reads, of at most so many fields
abbrev pub IsResponse : List ℕ → ResponseHead → Type 0
IsResponse bytes h = ReadsResponse bytes h [] × (length h.fields ≤ MAX_HEAD_FIELDS)

-- what the fields of a response say of its length
abbrev pub framing_by_fields : ResponseHead → Framing
framing_by_fields h = response_framing (status_code h) (framing_of (names_and_values h.fields))

-- Responses, after which the bytes have ended or may go on. One with a status below 200 is invalid:
-- it is interim, and a client that does not ask for it need not get it (RFC 9110, 15.2).
abbrev pub responses : Bool → Grammar ResponseHead
responses ended = record {
  reads = IsResponse;
  fields = λ h. names_and_values h.fields;
  is_refused = λ h. nat_lt (status_code h) 200;
  body = λ h framing rest. response_body ended (response_framing (status_code h) framing) rest;
  limit = λ h. MAX_RESPONSE_BYTES;
}

-- The response with this head and body. The connection ends after it if its head says so, or if its
-- body goes to the end of the bytes (RFC 9112, 9.3).
pub record IsResponseOf (h : ResponseHead) (body : List ℕ) (r : HttpResponse) : Type 0 where
  pub status : r.status ≡ status_code h
  pub body_is : r.body ≡ body
  pub last : r.last
      ≡ (is_last h.minor (names_and_values h.fields) || goes_to_end (framing_by_fields h))

-- when the reading of a response may fail, after these bytes were read
abbrev pub MayFailToRead : WireFault → List ℕ → Option (List ℕ) → ℕ → ℕ → Type 0
MayFailToRead End seen left reads_old reads_new =
    IsMessage (responses true) seen Begun × IsAtEnd left × (begun_bytes seen ≡ 0)
MayFailToRead (CutOff count) seen left reads_old reads_new =
    IsMessage (responses true) seen Begun × IsAtEnd left × (begun_bytes seen ≡ count) × (0 < count)
MayFailToRead ReadFault seen left reads_old reads_new =
    IsMessage (responses false) seen Begun × Rose reads_old reads_new
MayFailToRead WriteFault seen left reads_old reads_new = ⊥
MayFailToRead BadHead seen left reads_old reads_new = IsMessage (responses false) seen Invalid
MayFailToRead HeadTooLong seen left reads_old reads_new = IsMessage (responses false) seen TooLong
MayFailToRead (BodyTooLong limit) seen left reads_old reads_new =
    IsMessage (responses false) seen (OverLimit limit)
MayFailToRead NoMemory seen left reads_old reads_new = ⊤

-- The response is the first message of these bytes, which have ended or may go on, and those come
-- after it. They have ended only if the link has.
pub record IsFirstResponse (seen rest : List ℕ) (left : Option (List ℕ)) (r : HttpResponse) : Type 0
  where
    pub head : ResponseHead
    pub body : List ℕ
    pub is : IsResponseOf head body r
    pub ended : Bool
    pub at_end : IsTrue ended → IsAtEnd left
    pub message : IsMessage (responses ended) seen (Complete head body rest)

-- What a call that reads a response did: it read these bytes of the link, and what it returned is
-- the first message of `early` and these; then `early` has the bytes after it.
pub record ReadsResponseFrom (early_old early_new : List ℕ) (left_old left_new : Option (List ℕ))
    (reads_old reads_new : ℕ) (result : Result HttpResponse WireFault) : Type 0 where
  pub taken : List ℕ
  pub consumed : Consumes left_old left_new taken
  pub outcome : MatchResult result (IsFirstResponse (early_old ++ taken) early_new left_new)
      (λ fault. MayFailToRead fault (early_old ++ taken) left_new reads_old reads_new)
