-- What contracts see of a head that was parsed, and of what it says of its message.
use Rattle.std.specs.Prelude.{◌≡◌, ⊤, ℕ, ◌+◌, Bool, true, false, if◌then◌else◌, List, [], Option, None, Some}
use Rattle.httparse.specs.Grammar.{RequestHead}
use Rattle.http_parts.specs.Heads.{Head}
use Rattle.http_wire.specs.Fields.{pairs, has_host, is_last, expects_continue}
use Rattle.http_wire.specs.Framings.{framing_of}
use Rattle.http_wire.specs.Requests.{Message, Invalid, OverLimit, AreReadAs, requests, names_and_values, body_limit, request_body, message_by, is_open, is_due_by}
use Rattle.http_wire.specs.Responses.{continue_bytes}
use Rattle.http_wire.specs.declared.request.HttpRequest.{HttpRequest}
use Rattle.http_wire.specs.ParsedHeads.{IsParsed}
use Rattle.http_parts.specs.Plans.{planned, IsWithinLimit}
use Rattle.http_parts.specs.declared.bodies.BodyPlan.{BodyPlan}
use Rattle.http_parts.specs.declared.bodies.BodyPlan.TheVariants.{Invalid as NoPlan, TooLong as IsOver, Sized as OfSize, Chunked as InChunks}
use Rattle.http_wire.specs.declared.framed_head.FramedHead.{FramedHead}
use Rattle.http_parts.specs.declared.body_fault.BodyFault.{BodyFault}
use Rattle.http_parts.specs.declared.body_fault.BodyFault.TheVariants.{Invalid as BodyBad, TooLong as BodyOver, Ended, ReadFault as BodyReadFault, NoMemory as BodyNoMemory}
use Rattle.http_parts.specs.declared.fault.WireFault.{WireFault}
use Rattle.http_parts.specs.declared.fault.WireFault.TheVariants.{End, ReadFault, WriteFault, BadHead, HeadTooLong, BodyTooLong, CutOff, NoMemory}

-- The bytes are a valid head, whose message has a body that is read by this plan.
pub record IsFramed (bytes : List ℕ) (o : FramedHead) : Type 0 where
  pub h : RequestHead
  pub reads : AreReadAs requests bytes (Some h)
  pub parsed : IsParsed h o.head
  pub host : has_host (names_and_values h.fields) ≡ true
  pub limit : o.limit ≡ body_limit h.target
  pub body : (rest : List ℕ) → request_body (body_limit h.target)
      (framing_of (names_and_values h.fields)) rest ≡ planned o.limit o.plan rest
  pub within : IsWithinLimit o.limit o.plan
  pub goes_on : is_open (planned o.limit o.plan []) ≡ true
  pub due : o.due ≡ expects_continue h.minor (names_and_values h.fields)

-- The message of a head with these bytes is this one, whatever follows, and no interim response is
-- due.
abbrev pub IsRejectedAs : List ℕ → Message RequestHead → Type 0
IsRejectedAs bytes message =
    (o : Option RequestHead) × AreReadAs requests bytes o
    × ((rest : List ℕ) → message_by requests o (Head bytes rest) ≡ message)
    × ((rest : List ℕ) → is_due_by o (Head bytes rest) ≡ false)

-- why the message of a head with these bytes is not read
abbrev pub IsRejected : List ℕ → WireFault → Type 0
IsRejected bytes BadHead = IsRejectedAs bytes Invalid
IsRejected bytes (BodyTooLong limit) = IsRejectedAs bytes (OverLimit limit)
IsRejected bytes NoMemory = ⊤
IsRejected bytes End = ⊥
IsRejected bytes ReadFault = ⊥
IsRejected bytes WriteFault = ⊥
IsRejected bytes HeadTooLong = ⊥
IsRejected bytes (CutOff count) = ⊥

-- why no request was read, from why its body was not; its head has so many bytes
abbrev pub wire_fault_of : ℕ → ℕ → BodyFault → WireFault
wire_fault_of head limit BodyBad = BadHead
wire_fault_of head limit BodyOver = BodyTooLong limit
wire_fault_of head limit (Ended count) = CutOff (head + count)
wire_fault_of head limit BodyReadFault = ReadFault
wire_fault_of head limit BodyNoMemory = NoMemory

-- why no body is read by this plan
abbrev pub refusal_of : ℕ → BodyPlan → Option WireFault
refusal_of limit NoPlan = Some BadHead
refusal_of limit IsOver = Some (BodyTooLong limit)
refusal_of limit (OfSize size) = None
refusal_of limit InChunks = None

-- the interim response, if it is due
abbrev pub continued_bytes : Bool → List ℕ
continued_bytes due = if due then continue_bytes else []

-- the request with this head and this body
pub record IsMade (o : FramedHead) (body : List ℕ) (r : HttpRequest) : Type 0 where
  pub method : r.method ≡ o.head.method
  pub target : r.target ≡ o.head.target
  pub fields : pairs r.fields ≡ pairs o.head.fields
  pub body_is : r.body ≡ body
  pub minor : r.minor ≡ o.head.minor
  pub last : r.last ≡ is_last o.head.minor (pairs o.head.fields)
