-- The first request of some bytes (RFC 9112, 3 to 7), and what the reading of it ends with.
use Rattle.std.specs.Prelude.{◌≡◌, ◌⊎◌, ⊤, ℕ, ◌<◌, ◌≤◌, ◌&&◌, not, Bool, true, false, IsTrue, List, [], ◌++◌, length, take, map, codes, bytes_eq, if◌then◌else◌, Option, None, Some, Result, Err, MatchResult}
use Rattle.std.specs.Io.KnownBytes.{Appends, Consumes, IsAtEnd}
use Rattle.httparse.specs.Grammar.{RequestHead, ReadsRequest, field_value, Field}
use Rattle.http_parts.specs.Heads.{Beginning, HeadTooLong, Unfinished, Head, beginning_of, begun_bytes}
use Rattle.http_wire.specs.Fields.{has_host, is_last, expects_continue}
use Rattle.http_wire.specs.Framings.{Framing, InvalidLength, Chunked, NotSaid, Sized, framing_of}
use Rattle.http_parts.specs.Bodies.{Body, BodyInvalid, BodyTooLong, BodyUnfinished, Whole, sized_body}
use Rattle.http_parts.specs.Chunks.{chunked_body}
use Rattle.http_parts.specs.Plans.{kept_bytes}
use Rattle.jm_edge.specs.Causes.{Rose}
use Rattle.http_wire.specs.Responses.{continue_bytes}
use Rattle.http_wire.specs.declared.request.HttpField.{HttpField}
use Rattle.http_wire.specs.declared.request.HttpRequest.{HttpRequest}
use Rattle.http_parts.specs.declared.fault.WireFault.{WireFault}
use Rattle.http_parts.specs.declared.fault.WireFault.TheVariants.{End, ReadFault, WriteFault, BadHead, HeadTooLong as IsTooLong, BodyTooLong as BodyOver, CutOff, NoMemory as OutOfMemory}
use Rattle.jm_base.specs.declared.limits.TheConstants.{MAX_REQUEST_BYTES, MAX_UPLOAD_BYTES}
use Rattle.http_parts.specs.declared.limits.TheConstants.{MAX_HEAD_FIELDS}

-- What the heads of a kind of message are: which bytes read as which head; what its body's length
-- is, given what its fields say; whether it is invalid though it reads; and the most bytes of its
-- body. Requests and responses differ in nothing else.
pub record Grammar (H : Type 0) : Type 1 where
  pub reads : List ℕ → H → Type 0
  pub fields : H → List (List ℕ × List ℕ)
  pub is_refused : H → Bool
  pub body : H → Framing → List ℕ → Body
  pub limit : H → ℕ

-- The first message of some bytes: its head is too long; its head or the length of its body is
-- invalid; its body is longer than the limit; it has not ended; or it is this one, with this body,
-- and those bytes come after it.
pub data Message (H : Type 0) : Type 0 where
  TooLong Invalid Begun : Message H
  OverLimit : ℕ → Message H
  Complete : H → (body rest : List ℕ) → Message H

abbrev pub with_body : {H : Type 0} → Grammar H → H → Body → Message H
with_body g h BodyInvalid = Invalid
with_body g h BodyTooLong = OverLimit (g.limit h)
with_body g h BodyUnfinished = Begun
with_body g h (Whole body rest) = Complete h body rest

-- what is there, where this is the head that its bytes read as, if they read as one
abbrev pub message_by : {H : Type 0} → Grammar H → Option H → Beginning → Message H
message_by g o HeadTooLong = TooLong
message_by g o Unfinished = Begun
message_by g None (Head head rest) = Invalid
message_by g (Some h) (Head head rest) =
    if g.is_refused h then Invalid else with_body g h (g.body h (framing_of (g.fields h)) rest)

-- the bytes read as this head, or as none
abbrev pub AreReadAs : {H : Type 0} → Grammar H → List ℕ → Option H → Type 0
AreReadAs {H} g bytes None = (h : H) → ¬ (g.reads bytes h)
AreReadAs g bytes (Some h) = g.reads bytes h

abbrev pub IsHead : {H : Type 0} → Grammar H → Beginning → Option H → Type 0
IsHead g HeadTooLong o = o ≡ None
IsHead g Unfinished o = o ≡ None
IsHead g (Head head rest) o = AreReadAs g head o

-- the first message of the bytes
abbrev pub IsMessage : {H : Type 0} → Grammar H → List ℕ → Message H → Type 0
IsMessage {H} g bytes message =
    (o : Option H) × IsHead g (beginning_of bytes) o
    × (message ≡ message_by g o (beginning_of bytes))

-- the names and the values of a head's fields; white space around a value does not count
abbrev pub names_and_values : List Field → List (List ℕ × List ℕ)
names_and_values fields = map (λ f. (f.name, field_value f)) fields

-- the most bytes of the body of a request to this target
abbrev pub body_limit : List ℕ → ℕ
body_limit target =
    if bytes_eq (take (length (codes "/jmap/upload/")) target) (codes "/jmap/upload/")
    then MAX_UPLOAD_BYTES
    else MAX_REQUEST_BYTES

-- the body of a request: none if no field says its length (RFC 9112, 6.3)
abbrev pub request_body : ℕ → Framing → List ℕ → Body
request_body limit InvalidLength rest = BodyInvalid
request_body limit NotSaid rest = sized_body limit 0 rest
request_body limit (Sized size) rest = sized_body limit size rest
request_body limit Chunked rest = chunked_body limit rest

-- the heads of requests: those that `httparse` reads, of at most so many fields
abbrev pub requests : Grammar RequestHead
requests = record {
  reads = λ bytes h. ReadsRequest bytes h [] × (length h.fields ≤ MAX_HEAD_FIELDS);
  fields = λ h. names_and_values h.fields;
  is_refused = λ h. not (has_host (names_and_values h.fields));
  body = λ h framing rest. request_body (body_limit h.target) framing rest;
  limit = λ h. body_limit h.target;
}

-- the length that the head says is neither invalid nor over the limit
abbrev pub is_open : Body → Bool
is_open BodyInvalid = false
is_open BodyTooLong = false
is_open BodyUnfinished = true
is_open (Whole body rest) = true

-- The interim response is due: the head is complete and valid, the length that it says is valid and
-- within the limit, and it asks for the response (RFC 9110, 10.1.1).
abbrev pub is_due_by : Option RequestHead → Beginning → Bool
is_due_by o HeadTooLong = false
is_due_by o Unfinished = false
is_due_by None (Head head rest) = false
is_due_by (Some h) (Head head rest) =
    has_host (names_and_values h.fields)
    && is_open (request_body (body_limit h.target) (framing_of (names_and_values h.fields)) [])
    && expects_continue h.minor (names_and_values h.fields)

abbrev pub IsDue : List ℕ → Type 0
IsDue bytes = (o : Option RequestHead) × IsHead requests (beginning_of bytes) o
    × IsTrue (is_due_by o (beginning_of bytes))

-- the request with this head and body
pub record IsRequestOf (h : RequestHead) (body : List ℕ) (r : HttpRequest) : Type 0 where
  pub method : r.method ≡ h.method
  pub target : r.target ≡ h.target
  pub fields : map (λ (f : HttpField). (f.name, f.value)) r.fields ≡ names_and_values h.fields
  pub body_is : r.body ≡ body
  pub minor : r.minor ≡ h.minor
  pub last : r.last ≡ is_last h.minor (names_and_values h.fields)

-- when the reading of a request may fail, after these bytes were read, with all that is known of
-- the link: what is left, and its counts of faults before and after
abbrev pub MayFailWith : WireFault → List ℕ → Option (List ℕ) → ℕ → ℕ → ℕ → ℕ → Type 0
MayFailWith End seen left reads_old reads_new puts_old puts_new =
    IsMessage requests seen Begun × IsAtEnd left × (begun_bytes seen ≡ 0)
MayFailWith (CutOff count) seen left reads_old reads_new puts_old puts_new =
    IsMessage requests seen Begun × IsAtEnd left × (begun_bytes seen ≡ count) × (0 < count)
MayFailWith ReadFault seen left reads_old reads_new puts_old puts_new =
    IsMessage requests seen Begun × Rose reads_old reads_new
MayFailWith WriteFault seen left reads_old reads_new puts_old puts_new =
    IsDue seen × Rose puts_old puts_new
MayFailWith BadHead seen left reads_old reads_new puts_old puts_new =
    IsMessage requests seen Invalid
MayFailWith IsTooLong seen left reads_old reads_new puts_old puts_new =
    IsMessage requests seen TooLong
MayFailWith (BodyOver limit) seen left reads_old reads_new puts_old puts_new =
    IsMessage requests seen (OverLimit limit)
MayFailWith OutOfMemory seen left reads_old reads_new puts_old puts_new = ⊤

-- The interim response was written if and only if it is due; after a fault of writing, a prefix of
-- it. If an allocation failed, all of it was written, which happens only if it is due, or nothing
-- was.
abbrev pub HasContinued : Result HttpRequest WireFault → List ℕ → Option (List ℕ) → Option (List ℕ)
    → Type 0
HasContinued (Err WriteFault) seen held_old held_new =
    (n : ℕ) × Appends held_old held_new (take n continue_bytes)
HasContinued (Err OutOfMemory) seen held_old held_new =
    (IsDue seen × Appends held_old held_new continue_bytes) ⊎ Appends held_old held_new []
HasContinued result seen held_old held_new =
    (IsDue seen × Appends held_old held_new continue_bytes)
    ⊎ (¬ (IsDue seen) × Appends held_old held_new [])

-- What a call that reads a request did: it read these bytes of the link, and what it returned is
-- the first message of `early` and these, with its body or not, by what its fields are; after a
-- request `early` has the bytes after it.
pub record ReadsRequestFrom (keeps : List (List ℕ × List ℕ) → Bool)
    (early_old early_new : List ℕ) (left_old left_new held_old held_new : Option (List ℕ))
    (reads_old reads_new puts_old puts_new : ℕ) (result : Result HttpRequest WireFault) : Type 0
  where
    pub taken : List ℕ
    pub consumed : Consumes left_old left_new taken
    pub outcome : MatchResult result
        (λ r. (h : RequestHead) × (body : List ℕ)
        × IsRequestOf h (kept_bytes (keeps (names_and_values h.fields)) body) r
        × IsMessage requests (early_old ++ taken) (Complete h body early_new))
        (λ fault. MayFailWith fault (early_old ++ taken) left_new reads_old reads_new puts_old
        puts_new)
    pub continued : HasContinued result (early_old ++ taken) held_old held_new
