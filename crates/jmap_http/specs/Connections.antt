-- The requests of a connection in order, and what is written for them (RFC 9112, 9.3 and 9.6).
use Rattle.std.specs.Prelude.{◌≡◌, ◌⊎◌, ℕ, zero, suc, ◌+◌, ◌<◌, ◌==◌, ◌||◌, Bool, true, false, List, [], ◌++◌, take, length, bytes_eq, codes, Option, if◌then◌else◌}
use Rattle.std.specs.Io.KnownBytes.{Appends, Consumes, IsAtEnd}
use Rattle.httparse.specs.Grammar.{RequestHead}
use Rattle.jm_edge.specs.Causes.{Rose}
use Rattle.jm_edge.specs.Clocks.{Shows}
use Rattle.jm_base.specs.declared.limits.TheConstants.{MAX_UPLOAD_BYTES}
use Rattle.http_wire.specs.Fields.{is_last}
use Rattle.http_wire.specs.Requests.{TooLong, Invalid, Begun, OverLimit, Complete, IsMessage, requests, names_and_values, IsDue}
use Rattle.http_parts.specs.Heads.{begun_bytes}
use Rattle.http_wire.specs.Responses.{response_bytes, response_head, continue_bytes}
use Rattle.server_users.specs.declared.users.User.{User}
use Rattle.jmap_http.specs.Steps.{UserSteps}
use Rattle.jmap_http.specs.Responses.{AskedRequest, IsResponse, HasBegunRequest, blank_response, limit_response}
use Rattle.jmap_http.specs.declared.limits.TheConstants.{MAX_REQUESTS_PER_CONNECTION}
use Rattle.jmap_http.specs.declared.response.Response.{Response}
use Rattle.jmap_http.specs.declared.served.Served.{Served}
use Rattle.jmap_http.specs.declared.served.Served.TheVariants.{End, CutOff, ReadFault, WriteFault, Limit, NoMemory, Refused, Upgraded}

-- ---- one request

-- the request with this head and body
abbrev pub asked_of : RequestHead → List ℕ → AskedRequest
asked_of h body = record {
  method = h.method;
  target = h.target;
  fields = names_and_values h.fields;
  body = body;
}

-- the bytes of a response, with which the connection ends or not
abbrev pub sent_bytes : Response → Bool → List ℕ
sent_bytes r last = response_bytes r.status r.media r.body last

-- the answer to a request with this method is sent without its body (RFC 9110, 9.3.2)
abbrev pub is_bodiless : List ℕ → Bool
is_bodiless method = bytes_eq method (codes "HEAD")

-- the bytes of an answer: the response, or its head alone, which says how long its body would be
abbrev pub answer_bytes : Bool → Response → Bool → List ℕ
answer_bytes bodiless r last =
    if bodiless then response_head r.status r.media (length r.body) last else sent_bytes r last

-- the interim response to the first request of the bytes, if it is due
abbrev pub IsInterim : List ℕ → List ℕ → Type 0
IsInterim bytes interim =
    (IsDue bytes × (interim ≡ continue_bytes)) ⊎ (¬ (IsDue bytes) × (interim ≡ []))

-- the request asks that the connection ends after it (RFC 9112, 9.3 and 9.6)
abbrev pub asks_to_end : RequestHead → Bool
asks_to_end h = is_last h.minor (names_and_values h.fields)

-- the request with this number is the last that a connection may have
abbrev pub is_at_limit : ℕ → Bool
is_at_limit number = number == MAX_REQUESTS_PER_CONNECTION

-- Where a connection is between two requests: the state of the port, the timestamps that the clock
-- is going to show, if they are known, and the bytes that were read and not yet used.
pub record Stage (S : Type 0) : Type 0 where
  pub state : S
  pub times : Option (List ℕ)
  pub bytes : List ℕ

-- The request with this number is complete: it is the first message of the bytes, and those after
-- it are left. This is written for it: the interim response, if it is due, and the response, which
-- says that the connection ends if the request asks for that, or is the last one. `ends` says which
-- requests ask for it.
pub record IsExchange {S : Type 0} (steps : UserSteps S) (users : List User)
    (ends : RequestHead → Bool) (number : ℕ) (before after : Stage S) (asks : Bool)
    (written : List ℕ) : Type 0
  where
    pub head : RequestHead
    pub body : List ℕ
    pub time : ℕ
    pub interim : List ℕ
    pub response : Response
    pub message : IsMessage requests before.bytes (Complete head body after.bytes)
    pub shown : Shows before.times after.times time
    pub answered : IsResponse steps users before.state after.state time (asked_of head body)
        response
    pub continued : IsInterim before.bytes interim
    pub asks_is : ends head ≡ asks
    pub written_is : written
        ≡ interim ++ answer_bytes (is_bodiless head.method) response (asks || is_at_limit number)

-- so many requests that do not end the connection, after so many others
abbrev pub AreExchanges : {S : Type 0} → UserSteps S → List User → (RequestHead → Bool)
    → (others count : ℕ) → Stage S → Stage S → List ℕ → Type 0
AreExchanges steps users ends others zero before after written =
    (after ≡ before) × (written ≡ [])
AreExchanges {S} steps users ends others (suc count) before after written =
    (middle : Stage S) × (first : List ℕ) × (more : List ℕ)
    × IsExchange steps users ends (others + 1) before middle false first
    × AreExchanges steps users ends (others + 1) count middle after more
    × (written ≡ first ++ more)

-- ---- how a connection ends

-- what is known of the link: what is left to read, and how often reading and writing failed before
-- and after
pub record LinkSeen : Type 0 where
  pub left : Option (List ℕ)
  pub reads : ℕ
  pub reads_after : ℕ
  pub puts : ℕ
  pub puts_after : ℕ

abbrev pub seen_of : Option (List ℕ) → (reads reads' puts puts' : ℕ) → LinkSeen
seen_of left reads reads' puts puts' = record {
  left = left;
  reads = reads;
  reads_after = reads';
  puts = puts;
  puts_after = puts';
}

-- no complete request is there; the interim response to what is there is written, if it is due
abbrev pub IsLeftOver : {S : Type 0} → Stage S → Stage S → List ℕ → Type 0
IsLeftOver before after written =
    (after ≡ before) × IsMessage requests before.bytes Begun × IsInterim before.bytes written

-- the status by which a message is refused, and the response that says so
abbrev pub refusal_of : ℕ → Response
refusal_of limit =
    limit_response (if limit == MAX_UPLOAD_BYTES then codes "maxSizeUpload" else codes
    "maxSizeRequest")

-- the message is refused by this response
abbrev pub IsRefusedBy : List ℕ → Response → Type 0
IsRefusedBy bytes r =
    (IsMessage requests bytes Invalid × (r ≡ blank_response 400))
    ⊎ ((IsMessage requests bytes TooLong × (r ≡ blank_response 431))
    ⊎ ((limit : ℕ) × IsMessage requests bytes (OverLimit limit) × (r ≡ refusal_of limit)))

-- a message that is refused, and what is written for it
pub record IsRefusal {S : Type 0} (before after : Stage S) (status : ℕ) (written : List ℕ) : Type 0
  where
    pub interim : List ℕ
    pub response : Response
    pub same : after ≡ before
    pub refused : IsRefusedBy before.bytes response
    pub status_is : response.status ≡ status
    pub continued : IsInterim before.bytes interim
    pub written_is : written ≡ interim ++ sent_bytes response true

-- the bytes that are written where memory runs out
abbrev pub unavailable_bytes : List ℕ
unavailable_bytes =
    codes "HTTP/1.1 503 Service Unavailable\r\n"
    ++ (codes "Content-Type: application/problem+json\r\n" ++ (codes "Content-Length: 35\r\n" ++ (codes "Cache-Control: no-store\r\n"
    ++ (codes "Connection: close\r\n\r\n" ++ codes "{\"status\":503,\"type\":\"about:blank\"}"))))

-- these bytes say that memory ran out: all of them, or a prefix if the link failed
abbrev pub SaysUnavailable : (puts puts' : ℕ) → List ℕ → Type 0
SaysUnavailable puts puts' said =
    (said ≡ unavailable_bytes)
    ⊎ ((n : ℕ) × (said ≡ take n unavailable_bytes) × Rose puts puts')

-- The request being processed ended out of memory before all of it was read: perhaps the interim
-- response is written, which it is only if it is due, and the response that says so.
pub record IsUnread {S : Type 0} (puts puts' : ℕ) (before after : Stage S) (written : List ℕ)
    : Type 0
  where
    pub interim : List ℕ
    pub said : List ℕ
    pub same : after ≡ before
    pub continued : (IsDue before.bytes × (interim ≡ continue_bytes)) ⊎ (interim ≡ [])
    pub unavailable : SaysUnavailable puts puts' said
    pub written_is : written ≡ interim ++ said

-- All of the request being processed was read, and its response ended out of memory, or was lost.
-- This is written: the interim response, if it is due, and the response that says so.
pub record IsLost {S : Type 0} (steps : UserSteps S) (users : List User) (puts puts' : ℕ)
    (before after : Stage S) (written : List ℕ) : Type 0
  where
    pub head : RequestHead
    pub body : List ℕ
    pub time : ℕ
    pub interim : List ℕ
    pub said : List ℕ
    pub message : IsMessage requests before.bytes (Complete head body after.bytes)
    pub shown : Shows before.times after.times time
    pub begun : HasBegunRequest steps users before.state after.state time (asked_of head body)
        ⊎ ((response : Response) × IsResponse steps users before.state after.state time
        (asked_of head body) response)
    pub continued : IsInterim before.bytes interim
    pub unavailable : SaysUnavailable puts puts' said
    pub written_is : written ≡ interim ++ said

-- what was written is a prefix of what the request with this number, or its refusal, asks for
abbrev pub IsCutShort : {S : Type 0} → UserSteps S → List User → (RequestHead → Bool) → ℕ → Stage S
    → Stage S → List ℕ → Type 0
IsCutShort steps users ends number before after written =
    (n : ℕ) × (whole : List ℕ) × (written ≡ take n whole)
    × (((after ≡ before) × IsDue before.bytes × (whole ≡ continue_bytes))
    ⊎ (((asks : Bool) × IsExchange steps users ends number before after asks whole)
    ⊎ ((status : ℕ) × IsRefusal before after status whole)))

-- How the connection ends, after the requests before this number: what is written then, and where
-- it leaves the connection. No request is answered by a switch to WebSocket.
abbrev pub IsEnding : {S : Type 0} → UserSteps S → List User → (RequestHead → Bool) → Served → ℕ
    → LinkSeen → Stage S → Stage S → List ℕ → Type 0
IsEnding steps users ends End number link before after written =
    (IsLeftOver before after written × IsAtEnd link.left × (begun_bytes before.bytes ≡ 0))
    ⊎ IsExchange steps users ends number before after true written
IsEnding steps users ends (CutOff count) number link before after written =
    IsLeftOver before after written × IsAtEnd link.left × (begun_bytes before.bytes ≡ count)
    × (0 < count)
IsEnding steps users ends ReadFault number link before after written =
    IsLeftOver before after written × Rose link.reads link.reads_after
IsEnding steps users ends WriteFault number link before after written =
    IsCutShort steps users ends number before after written × Rose link.puts link.puts_after
IsEnding steps users ends Limit number link before after written =
    IsExchange steps users ends number before after false written
    × (number ≡ MAX_REQUESTS_PER_CONNECTION)
IsEnding steps users ends NoMemory number link before after written =
    IsUnread link.puts link.puts_after before after written
    ⊎ IsLost steps users link.puts link.puts_after before after written
IsEnding steps users ends (Refused status) number link before after written =
    IsRefusal before after status written
IsEnding steps users ends (Upgraded user early) number link before after written = ⊥

-- ---- the whole connection

-- What a call that serves the requests of a connection did: it read these bytes of the link;
-- answered so many requests that do not end the connection, and wrote their responses; and ended.
pub record Serves {S : Type 0} (steps : UserSteps S) (users : List User) (ends : RequestHead → Bool)
    (state state' : S) (times times' left left' held held' : Option (List ℕ))
    (reads reads' puts puts' : ℕ) (served : Served) : Type 0
  where
    pub taken : List ℕ
    pub count : ℕ
    pub middle : Stage S
    pub rest : List ℕ
    pub first : List ℕ
    pub last : List ℕ
    pub consumed : Consumes left left' taken
    pub within : count < MAX_REQUESTS_PER_CONNECTION
    pub exchanges : AreExchanges steps users ends 0 count
        (record { state = state; times = times; bytes = taken }) middle first
    pub ending : IsEnding steps users ends served (count + 1)
        (seen_of left' reads reads' puts puts')
        middle (record { state = state'; times = times'; bytes = rest }) last
    pub written : Appends held held' (first ++ last)
