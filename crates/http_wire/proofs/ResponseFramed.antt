-- What a parsed head of a response says of its body.
use Rattle.std.proofs.Common.{◌≡◌, ℕ, Bool, true, false, cond, nat_lt, List, Option, None, Some, is_none, refl, sym, ap, ap₂, ◌∙◌, subst}
use Rattle.std.specs.Option.{MatchOption}
use Rattle.httparse.specs.Grammar.{ResponseHead, status_code}
use Rattle.http_parts.specs.Plans.{planned}
use Rattle.http_parts.specs.declared.bodies.BodyPlan.{BodyPlan}
use Rattle.http_parts.specs.declared.fault.WireFault.TheVariants.{BadHead}
use Rattle.http_wire.specs.Fields.{pairs}
use Rattle.http_wire.specs.Framings.{Framing, Sized, framing_of}
use Rattle.http_wire.specs.FramedResponses.{IsParsedResponse, IsPlanWithin, IsFramedResponse, IsNoResponse, body_by_plan, is_not_said}
use Rattle.http_wire.specs.Lengths.{IsSaid}
use Rattle.http_wire.specs.ReadResponses.{IsResponse, has_no_body, response_framing, response_body, goes_to_end, framing_by_fields}
use Rattle.http_wire.specs.Requests.{request_body}
use Rattle.http_wire.specs.declared.limits.TheConstants.{MAX_RESPONSE_BYTES}
use Rattle.http_wire.specs.declared.lengths.BodyLength.{BodyLength}
use Rattle.http_wire.specs.declared.lengths.BodyLength.TheVariants.{Invalid as IsInvalid, NotSaid as IsNotSaid, Chunked as IsChunked, Sized as IsSized}
use Rattle.http_wire.specs.declared.response_parser.ParsedResponse.{ParsedResponse}

pub none_said : (status : ℕ) (framing : Framing) → has_no_body status ≡ true → IsSaid (response_framing status framing) (IsSized 0)
none_said status framing none = (0, rw none refl, refl)

pub some_said : (status : ℕ) (framing : Framing) (said : BodyLength) → has_no_body status ≡ false → IsSaid framing said → IsSaid (response_framing status framing) said
some_said status framing said some is =
    subst (λ (f : Framing). IsSaid f said) (sym (kept (has_no_body status) some)) is
  where
    kept : (b : Bool) → b ≡ false → cond b (Sized 0) framing ≡ framing
    kept true h = absurd (cc h)
    kept false h = refl

-- ---- no field says it

pub to_end_body : (said : BodyLength) → is_not_said said ≡ true → (framing : Framing) → IsSaid framing said → (ended : Bool) (rest : List ℕ)
    → response_body ended framing rest ≡ body_by_plan None ended rest
to_end_body IsNotSaid not_said framing is ended rest = ap (λ (f : Framing). response_body ended f rest) is
to_end_body IsInvalid not_said framing is ended rest = absurd (cc not_said)
to_end_body IsChunked not_said framing is ended rest = absurd (cc not_said)
to_end_body (IsSized n) not_said framing is ended rest = absurd (cc not_said)

pub to_end_last : (said : BodyLength) → is_not_said said ≡ true → (framing : Framing) → IsSaid framing said → true ≡ goes_to_end framing
to_end_last IsNotSaid not_said framing is = ap goes_to_end (sym is)
to_end_last IsInvalid not_said framing is = absurd (cc not_said)
to_end_last IsChunked not_said framing is = absurd (cc not_said)
to_end_last (IsSized n) not_said framing is = absurd (cc not_said)

-- ---- a field says it

said_body : (said : BodyLength) (framing : Framing) (ended : Bool) (rest : List ℕ) → is_not_said said ≡ false → IsSaid framing said
    → response_body ended framing rest ≡ request_body MAX_RESPONSE_BYTES framing rest
said_body IsNotSaid framing ended rest apart is = absurd (cc apart)
said_body IsInvalid framing ended rest apart is =
    ap (λ (f : Framing). response_body ended f rest) is ∙ ap (λ (f : Framing). request_body MAX_RESPONSE_BYTES f rest) (sym is)
said_body IsChunked framing ended rest apart is =
    ap (λ (f : Framing). response_body ended f rest) is ∙ ap (λ (f : Framing). request_body MAX_RESPONSE_BYTES f rest) (sym is)
said_body (IsSized n) framing ended rest apart is =
    ap (λ (f : Framing). response_body ended f rest) is.1 ∙ ap (λ (f : Framing). request_body MAX_RESPONSE_BYTES f rest) (sym is.1)

pub planned_body : (said : BodyLength) (plan : BodyPlan) → is_not_said said ≡ false
    → ((framing : Framing) → IsSaid framing said → (rest : List ℕ) → request_body MAX_RESPONSE_BYTES framing rest ≡ planned MAX_RESPONSE_BYTES plan rest)
    → (framing : Framing) → IsSaid framing said → (ended : Bool) (rest : List ℕ) → response_body ended framing rest ≡ body_by_plan (Some plan) ended rest
planned_body said plan apart by framing is ended rest = said_body said framing ended rest apart is ∙ by framing is rest

pub planned_last : (said : BodyLength) → is_not_said said ≡ false → (framing : Framing) → IsSaid framing said → false ≡ goes_to_end framing
planned_last IsNotSaid apart framing is = absurd (cc apart)
planned_last IsInvalid apart framing is = ap goes_to_end (sym is)
planned_last IsChunked apart framing is = ap goes_to_end (sym is)
planned_last (IsSized n) apart framing is = ap goes_to_end (sym is.1)

-- ---- the head

said_by : (h : ResponseHead) (p : ParsedResponse) → IsParsedResponse h p → response_framing p.status (framing_of (pairs p.fields)) ≡ framing_by_fields h
said_by h p k = ap₂ (λ (n : ℕ) (fs : List (List ℕ × List ℕ)). response_framing n (framing_of fs)) k.status k.fields

pub framed : (bytes : List ℕ) (h : ResponseHead) (p : ParsedResponse) (said : BodyLength) (plan : Option BodyPlan) → IsResponse bytes h → IsParsedResponse h p
    → nat_lt p.status 200 ≡ false → IsSaid (response_framing p.status (framing_of (pairs p.fields))) said
    → ((framing : Framing) → IsSaid framing said → (ended : Bool) (rest : List ℕ) → response_body ended framing rest ≡ body_by_plan plan ended rest)
    → IsPlanWithin plan → ((framing : Framing) → IsSaid framing said → is_none plan ≡ goes_to_end framing) → IsFramedResponse bytes (record { head = p; plan = plan })
framed bytes h p said plan reads k answers says by within last =
    let says' : IsSaid (framing_by_fields h) said = subst (λ (f : Framing). IsSaid f said) (said_by h p k) says in record {
      h = h;
      reads = reads;
      parsed = k;
      answers = ap (λ (n : ℕ). nat_lt n 200) (sym k.status) ∙ answers;
      body = λ ended rest. by (framing_by_fields h) says' ended rest;
      within = within;
      to_end = last (framing_by_fields h) says';
    }

-- the head that was parsed
pub head_found : (bytes : List ℕ) (o : Option ParsedResponse) (p : ParsedResponse) → o ≡ Some p
    → MatchOption o ((h : ResponseHead) → ¬ (IsResponse bytes h)) (λ q. (h : ResponseHead) × IsResponse bytes h × IsParsedResponse h q) → (h : ResponseHead) × IsResponse bytes h × IsParsedResponse h p
head_found bytes o p is m =
    subst (λ (z : Option ParsedResponse). MatchOption z ((h : ResponseHead) → ¬ (IsResponse bytes h)) (λ q. (h : ResponseHead) × IsResponse bytes h × IsParsedResponse h q)) is m

pub no_head : (bytes : List ℕ) → ((h : ResponseHead) → ¬ (IsResponse bytes h)) → IsNoResponse bytes BadHead
no_head bytes none = (None, none, (λ rest. refl))

pub interim : (bytes : List ℕ) (h : ResponseHead) (p : ParsedResponse) → IsResponse bytes h → IsParsedResponse h p → nat_lt p.status 200 ≡ true → IsNoResponse bytes BadHead
interim bytes h p reads k low =
    let refused : nat_lt (status_code h) 200 ≡ true = ap (λ (n : ℕ). nat_lt n 200) (sym k.status) ∙ low in
    (Some h, reads, (λ rest. rw refused refl))
