-- What a parsed head says of its message.
use Rattle.std.proofs.Common.{◌≡◌, ℕ, Bool, true, false, cond, ltb, List, [], length, take, drop, Option, None, Some, refl, sym, ap, ap₂, ◌∙◌, subst}
use Rattle.std.specs.Option.{MatchOption}
use Rattle.httparse.specs.Grammar.{RequestHead}
use Rattle.http_wire.specs.Fields.{pairs, has_host, expects_continue}
use Rattle.http_wire.specs.Framings.{Framing, framing_of}
use Rattle.http_parts.specs.Bodies.{Body, BodyInvalid, BodyTooLong, BodyUnfinished, Whole}
use Rattle.http_wire.specs.Requests.{requests, names_and_values, body_limit, request_body, with_body, is_open}
use Rattle.http_wire.specs.ParsedHeads.{IsParsed}
use Rattle.http_parts.specs.Plans.{planned, IsWithinLimit}
use Rattle.http_wire.specs.Lengths.{IsSaid}
use Rattle.http_wire.specs.FramedHeads.{IsFramed, IsRejected, IsRejectedAs, refusal_of}
use Rattle.http_parts.specs.declared.bodies.BodyPlan.{BodyPlan}
use Rattle.http_parts.specs.declared.bodies.BodyPlan.TheVariants.{Invalid as NoPlan, TooLong as IsOver, Sized as OfSize, Chunked as InChunks}
use Rattle.http_wire.specs.declared.lengths.BodyLength.{BodyLength}
use Rattle.http_wire.specs.declared.head_parser.ParsedHead.{ParsedHead}
use Rattle.http_parts.specs.declared.fault.WireFault.{WireFault}
use Rattle.http_parts.specs.declared.fault.WireFault.TheVariants.{BadHead, BodyTooLong as BodyOver}
use Rattle.std.proofs.lemmas.Bool.{le-ltb}

open_by : (v w : Bool) (body rest : List ℕ) → v ≡ false → is_open (cond v BodyTooLong (cond w BodyUnfinished (Whole body rest))) ≡ true
open_by true w body rest h = absurd (cc h)
open_by false true body rest h = refl
open_by false false body rest h = refl

open_is : (limit : ℕ) (plan : BodyPlan) → IsWithinLimit limit plan → refusal_of limit plan ≡ None → is_open (planned limit plan []) ≡ true
open_is limit NoPlan within h = absurd (cc h)
open_is limit IsOver within h = absurd (cc h)
open_is limit (OfSize size) within h =
    open_by (ltb limit size) (ltb (length {A = ℕ} []) size) (take size []) (drop size []) (le-ltb limit size within)
open_is limit InChunks within h = refl

-- what is known of the plan of a parsed head
body_is : (h : RequestHead) (p : ParsedHead) (limit : ℕ) (plan : BodyPlan) (said : BodyLength) → IsParsed h p → limit ≡ body_limit p.target
    → ((framing : Framing) → IsSaid framing said → (rest : List ℕ) → request_body limit framing rest ≡ planned limit plan rest) → IsSaid (framing_of (pairs p.fields)) said
    → (rest : List ℕ) → request_body (body_limit h.target) (framing_of (names_and_values h.fields)) rest ≡ planned limit plan rest
body_is h p limit plan said k limit_is by says rest =
    ap₂ (λ (n : ℕ) (fs : List (List ℕ × List ℕ)). request_body n (framing_of fs) rest) (ap body_limit (sym k.target) ∙ sym limit_is) (sym k.fields) ∙ by (framing_of (pairs p.fields)) says rest

pub opened : (bytes : List ℕ) (h : RequestHead) (p : ParsedHead) (limit : ℕ) (plan : BodyPlan) (said : BodyLength) (due : Bool) → requests.reads bytes h → IsParsed h p
    → has_host (pairs p.fields) ≡ true → limit ≡ body_limit p.target
    → ((framing : Framing) → IsSaid framing said → (rest : List ℕ) → request_body limit framing rest ≡ planned limit plan rest) → IsSaid (framing_of (pairs p.fields)) said
    → IsWithinLimit limit plan → refusal_of limit plan ≡ None → due ≡ expects_continue p.minor (pairs p.fields)
    → IsFramed bytes (record { head = p; limit = limit; plan = plan; due = due })
opened bytes h p limit plan said due reads k host limit_is by says within none due_is = record {
  h = h;
  reads = reads;
  parsed = k;
  host = ap has_host (sym k.fields) ∙ host;
  limit = limit_is ∙ ap body_limit k.target;
  body = body_is h p limit plan said k limit_is by says;
  within = within;
  goes_on = open_is limit plan within none;
  due = due_is ∙ ap₂ (λ (n : ℕ) (fs : List (List ℕ × List ℕ)). expects_continue n fs) k.minor k.fields;
}

-- the head that was parsed
pub head_found : (bytes : List ℕ) (o : Option ParsedHead) (p : ParsedHead) → o ≡ Some p
    → MatchOption o ((h : RequestHead) → ¬ (requests.reads bytes h)) (λ q. (h : RequestHead) × requests.reads bytes h × IsParsed h q) → (h : RequestHead) × requests.reads bytes h × IsParsed h p
head_found bytes o p is m =
    subst (λ (z : Option ParsedHead). MatchOption z ((h : RequestHead) → ¬ (requests.reads bytes h)) (λ q. (h : RequestHead) × requests.reads bytes h × IsParsed h q)) is m

pub no_head : (bytes : List ℕ) → ((h : RequestHead) → ¬ (requests.reads bytes h)) → IsRejected bytes BadHead
no_head bytes none = (None, none, (λ rest. refl), (λ rest. refl))

pub no_host : (bytes : List ℕ) (h : RequestHead) (p : ParsedHead) → requests.reads bytes h → IsParsed h p → has_host (pairs p.fields) ≡ false → IsRejected bytes BadHead
no_host bytes h p reads k none =
    let host : has_host (names_and_values h.fields) ≡ false = ap has_host (sym k.fields) ∙ none in
    (Some h, reads, (λ rest. rw host refl), (λ rest. rw host refl))

-- the body is refused whatever its bytes are
refused_as : (bytes : List ℕ) (h : RequestHead) (b : Body) → requests.reads bytes h → has_host (names_and_values h.fields) ≡ true → is_open b ≡ false
    → ((rest : List ℕ) → request_body (body_limit h.target) (framing_of (names_and_values h.fields)) rest ≡ b) → IsRejectedAs bytes (with_body requests h b)
refused_as bytes h b reads host closed body = (
  Some h,
  reads,
  (λ rest. rw host (ap (with_body requests h) (body rest))),
  (λ rest. rw (host, body [], closed) refl),
)

pub refused : (bytes : List ℕ) (h : RequestHead) (p : ParsedHead) (limit : ℕ) (plan : BodyPlan) (said : BodyLength) (fault : WireFault) → requests.reads bytes h → IsParsed h p
    → has_host (pairs p.fields) ≡ true → limit ≡ body_limit p.target
    → ((framing : Framing) → IsSaid framing said → (rest : List ℕ) → request_body limit framing rest ≡ planned limit plan rest) → IsSaid (framing_of (pairs p.fields)) said
    → refusal_of limit plan ≡ Some fault → IsRejected bytes fault
refused bytes h p limit NoPlan said fault reads k host limit_is by says is =
    let same : BadHead ≡ fault = cc is in
    subst (λ (z : WireFault). IsRejected bytes z) same (refused_as bytes h BodyInvalid reads (ap has_host (sym k.fields) ∙ host) refl (body_is h p limit NoPlan said k limit_is by says))
refused bytes h p limit IsOver said fault reads k host limit_is by says is =
    let same : BodyOver limit ≡ fault = cc is in
    let over : BodyOver (body_limit h.target) ≡ fault = ap BodyOver (ap body_limit (sym k.target) ∙ sym limit_is) ∙ same in
    subst (λ (z : WireFault). IsRejected bytes z) over (refused_as bytes h BodyTooLong reads (ap has_host (sym k.fields) ∙ host) refl (body_is h p limit IsOver said k limit_is by says))
refused bytes h p limit (OfSize size) said fault reads k host limit_is by says is = absurd (cc is)
refused bytes h p limit InChunks said fault reads k host limit_is by says is = absurd (cc is)
