-- What contracts see of the head of a response that was parsed, and of how its body is read.
use Rattle.std.specs.Prelude.{◌≡◌, ⊤, ℕ, Bool, true, false, ◌||◌, nat_lt, List, Option, None, Some, is_none}
use Rattle.std.specs.Io.KnownBytes.{IsAtEnd}
use Rattle.httparse.specs.Grammar.{ResponseHead, status_code}
use Rattle.http_parts.specs.Bodies.{Body, BodyInvalid, BodyTooLong as BodyOver, BodyUnfinished}
use Rattle.http_parts.specs.Heads.{Head}
use Rattle.http_parts.specs.Plans.{planned, IsWithinLimit}
use Rattle.http_parts.specs.declared.bodies.BodyPlan.{BodyPlan}
use Rattle.http_parts.specs.declared.body_fault.BodyFault.{BodyFault}
use Rattle.http_parts.specs.declared.body_fault.BodyFault.TheVariants.{Invalid as FaultInvalid, TooLong as FaultTooLong, Ended as FaultEnded, ReadFault as FaultRead, NoMemory as FaultMemory}
use Rattle.http_parts.specs.declared.fault.WireFault.{WireFault}
use Rattle.http_parts.specs.declared.fault.WireFault.TheVariants.{End, ReadFault, WriteFault, BadHead, HeadTooLong, BodyTooLong, CutOff, NoMemory}
use Rattle.http_wire.specs.Fields.{pairs, is_last}
use Rattle.http_wire.specs.Requests.{Invalid, AreReadAs, message_by, names_and_values}
use Rattle.http_wire.specs.ReadResponses.{IsResponse, responses, response_body, body_to_end, goes_to_end, framing_by_fields}
use Rattle.jm_edge.specs.Causes.{Rose}
use Rattle.http_wire.specs.declared.framed_response.FramedResponse.{FramedResponse}
use Rattle.http_wire.specs.declared.lengths.BodyLength.{BodyLength}
use Rattle.http_wire.specs.declared.lengths.BodyLength.TheVariants.{Invalid as IsInvalid, NotSaid as IsNotSaid, Chunked as IsChunked, Sized as IsSized}
use Rattle.http_wire.specs.declared.limits.TheConstants.{MAX_RESPONSE_BYTES}
use Rattle.http_wire.specs.declared.response.HttpResponse.{HttpResponse}
use Rattle.http_wire.specs.declared.response_parser.ParsedResponse.{ParsedResponse}

-- the parts of a head of the grammar
pub record IsParsedResponse (h : ResponseHead) (p : ParsedResponse) : Type 0 where
  pub status : p.status ≡ status_code h
  pub fields : pairs p.fields ≡ names_and_values h.fields
  pub minor : p.minor ≡ h.minor

-- no field says the length
abbrev pub is_not_said : BodyLength → Bool
is_not_said IsInvalid = false
is_not_said IsNotSaid = true
is_not_said IsChunked = false
is_not_said (IsSized size) = false

-- the body that is read by this plan, or to the end without one
abbrev pub body_by_plan : Option BodyPlan → Bool → List ℕ → Body
body_by_plan None ended rest = body_to_end MAX_RESPONSE_BYTES ended rest
body_by_plan (Some plan) ended rest = planned MAX_RESPONSE_BYTES plan rest

-- a size is within the limit
abbrev pub IsPlanWithin : Option BodyPlan → Type 0
IsPlanWithin None = ⊤
IsPlanWithin (Some plan) = IsWithinLimit MAX_RESPONSE_BYTES plan

-- The bytes are a valid head, whose response has a body that is read by this plan.
pub record IsFramedResponse (bytes : List ℕ) (o : FramedResponse) : Type 0 where
  pub h : ResponseHead
  pub reads : IsResponse bytes h
  pub parsed : IsParsedResponse h o.head
  pub answers : nat_lt (status_code h) 200 ≡ false
  pub body : (ended : Bool) (rest : List ℕ) → response_body ended (framing_by_fields h) rest
      ≡ body_by_plan o.plan ended rest
  pub within : IsPlanWithin o.plan
  pub to_end : is_none o.plan ≡ goes_to_end (framing_by_fields h)

-- why the response of a head with these bytes is not read, whatever follows
abbrev pub IsNoResponse : List ℕ → WireFault → Type 0
IsNoResponse bytes BadHead =
    (o : Option ResponseHead) × AreReadAs (responses false) bytes o
    × ((rest : List ℕ) → message_by (responses false) o (Head bytes rest) ≡ Invalid)
IsNoResponse bytes NoMemory = ⊤
IsNoResponse bytes End = ⊥
IsNoResponse bytes ReadFault = ⊥
IsNoResponse bytes WriteFault = ⊥
IsNoResponse bytes HeadTooLong = ⊥
IsNoResponse bytes (BodyTooLong limit) = ⊥
IsNoResponse bytes (CutOff count) = ⊥

-- the response with this head and this body
pub record IsMadeResponse (o : FramedResponse) (body : List ℕ) (r : HttpResponse) : Type 0 where
  pub status : r.status ≡ o.head.status
  pub body_is : r.body ≡ body
  pub last : r.last ≡ (is_last o.head.minor (pairs o.head.fields) || is_none o.plan)

-- What a fault says of a body, which is this one if the bytes that were seen have ended, and that
-- one if they may go on: that it is invalid or over the limit, whatever follows; or that it is
-- unfinished, if the link ended even so.
abbrev pub FailsAt : BodyFault → (Bool → Body) → ℕ → Option (List ℕ) → ℕ → ℕ → Type 0
FailsAt FaultInvalid body seen left reads_old reads_new = body false ≡ BodyInvalid
FailsAt FaultTooLong body seen left reads_old reads_new = body false ≡ BodyOver
FailsAt (FaultEnded count) body seen left reads_old reads_new =
    (body true ≡ BodyUnfinished) × IsAtEnd left × (count ≡ seen)
FailsAt FaultRead body seen left reads_old reads_new =
    (body false ≡ BodyUnfinished) × Rose reads_old reads_new
FailsAt FaultMemory body seen left reads_old reads_new = ⊤
