-- The response that was read of a link, or why none was.
use Rattle.std.proofs.Common.{◌≡◌, ◌≤◌, ◌||◌, ℕ, Bool, true, false, IsTrue, List, [], ◌++◌, length, Option, None, Some, Result, Ok, Err, refl, sym, ap, ap₂, ◌∙◌, subst, append_assoc}
use Rattle.std.specs.Io.KnownBytes.{IsAtEnd}
use Rattle.jm_edge.proofs.Known.{consumes_on, consumes_none}
use Rattle.http_parts.specs.Heads.{Beginning, HeadTooLong, Unfinished, Head, beginning_of}
use Rattle.http_parts.specs.Bodies.{Body, BodyInvalid, BodyTooLong, BodyUnfinished, Whole}
use Rattle.http_parts.specs.Pieces.{Gained, Stops}
use Rattle.http_parts.specs.Parts.{Took, Halts}
use Rattle.http_parts.specs.Plans.{planned}
use Rattle.http_parts.specs.declared.bodies.BodyPlan.{BodyPlan}
use Rattle.http_parts.specs.declared.body_fault.BodyFault.{BodyFault}
use Rattle.http_parts.specs.declared.body_fault.BodyFault.TheVariants.{Invalid as BodyBad, TooLong as BodyOver, Ended, ReadFault as BodyReadFault, NoMemory as BodyNoMemory}
use Rattle.http_parts.specs.declared.fault.WireFault.{WireFault}
use Rattle.http_parts.specs.declared.fault.WireFault.TheVariants.{End, ReadFault, WriteFault, BadHead, HeadTooLong as IsTooLong, BodyTooLong as IsOver, CutOff, NoMemory}
use Rattle.http_parts.proofs.HeadStays.{head_stays}
use Rattle.http_parts.proofs.Stopped.{rose_before}
use Rattle.http_wire.specs.Fields.{is_last}
use Rattle.http_wire.specs.FramedHeads.{wire_fault_of}
use Rattle.http_wire.specs.FramedResponses.{IsFramedResponse, IsNoResponse, IsMadeResponse, body_by_plan, FailsAt}
use Rattle.http_wire.specs.ReadResponses.{body_to_end, responses, IsResponseOf, MayFailToRead, IsFirstResponse, ReadsResponseFrom}
use Rattle.http_wire.specs.Requests.{Grammar, Message, TooLong, Invalid, Begun, with_body, message_by, IsHead, IsMessage}
use Rattle.http_wire.specs.declared.framed_response.FramedResponse.{FramedResponse}
use Rattle.http_wire.specs.declared.limits.TheConstants.{MAX_RESPONSE_BYTES}
use Rattle.http_wire.specs.declared.response.HttpResponse.{HttpResponse}
use Rattle.http_wire.proofs.Answered.{begun_here}

-- what is there, of any kind of message
met : {H : Type 0} (g : Grammar H) (seen : List ℕ) (b : Beginning) (o : Option H) (m : Message H) → beginning_of seen ≡ b → IsHead g b o → message_by g o b ≡ m → IsMessage g seen m
met g seen b o m is head by =
    (o, subst (λ (z : Beginning). IsHead g z o) (sym is) head, sym (ap (message_by g o) is ∙ by))

-- ---- no head was read

pub stops_response : (e : WireFault) (old new : List ℕ) (a b : Option (List ℕ)) (r s : ℕ) → Stops e old a b r s → ReadsResponseFrom old new a b r s (Err e)
stops_response IsTooLong old new a b r s st = record {
  taken = st.0;
  consumed = st.1;
  outcome = met (responses false) (old ++ st.0) HeadTooLong None TooLong st.2 refl refl;
}
stops_response End old new a b r s st = record {
  taken = st.0;
  consumed = st.1;
  outcome = (met (responses true) (old ++ st.0) Unfinished None Begun st.2.0 refl refl, st.2.1, st.2.2);
}
stops_response (CutOff count) old new a b r s st = record {
  taken = st.0;
  consumed = st.1;
  outcome = (met (responses true) (old ++ st.0) Unfinished None Begun st.2.0 refl refl, st.2.1, st.2.2, st.2.3);
}
stops_response ReadFault old new a b r s st = record {
  taken = st.0;
  consumed = st.1;
  outcome = (met (responses false) (old ++ st.0) Unfinished None Begun st.2.0 refl refl, st.2.1);
}
stops_response NoMemory old new a b r s st = record { taken = st.0; consumed = st.1; outcome = tt }
stops_response WriteFault old new a b r s st = absurd st.2
stops_response BadHead old new a b r s st = absurd st.2
stops_response (IsOver limit) old new a b r s st = absurd st.2

-- ---- the head is refused

pub refused_response : (e : WireFault) (bytes new head rest : List ℕ) (a : Option (List ℕ)) (r : ℕ) → beginning_of bytes ≡ Head head rest → IsNoResponse head e → ReadsResponseFrom bytes new a a r r (Err e)
refused_response BadHead bytes new head rest a r is k = record {
  taken = [];
  consumed = consumes_none a;
  outcome = met (responses false) (bytes ++ []) (Head head (rest ++ [])) k.0 Invalid (head_stays bytes [] head rest is) k.1 (k.2 (rest ++ []));
}
refused_response NoMemory bytes new head rest a r is k = record { taken = []; consumed = consumes_none a; outcome = tt }
refused_response (IsOver limit) bytes new head rest a r is k = absurd k
refused_response End bytes new head rest a r is k = absurd k
refused_response ReadFault bytes new head rest a r is k = absurd k
refused_response WriteFault bytes new head rest a r is k = absurd k
refused_response IsTooLong bytes new head rest a r is k = absurd k
refused_response (CutOff count) bytes new head rest a r is k = absurd k

-- ---- the body

pub took_planned : (o : Option BodyPlan) (plan : BodyPlan) (rest new made : List ℕ) (a b : Option (List ℕ)) → o ≡ Some plan → Took a b (λ t. planned MAX_RESPONSE_BYTES plan (rest ++ t) ≡ Whole made new)
    → Took a b (λ t. (ended : Bool) × (IsTrue ended → IsAtEnd b) × (body_by_plan o ended (rest ++ t) ≡ Whole made new))
took_planned o plan rest new made a b is k =
    (k.0, k.1, (false, (λ yes. absurd (cc yes)), ap (λ (z : Option BodyPlan). body_by_plan z false (rest ++ k.0)) is ∙ k.2))

pub took_to_end : (o : Option BodyPlan) (rest new made : List ℕ) (a b : Option (List ℕ)) → o ≡ None → Took a b (λ t. (body_to_end MAX_RESPONSE_BYTES true (rest ++ t) ≡ Whole made new) × IsAtEnd b)
    → Took a b (λ t. (ended : Bool) × (IsTrue ended → IsAtEnd b) × (body_by_plan o ended (rest ++ t) ≡ Whole made new))
took_to_end o rest new made a b is k =
    (k.0, k.1, (true, (λ yes. k.2.1), ap (λ (z : Option BodyPlan). body_by_plan z true (rest ++ k.0)) is ∙ k.2.0))

fails_by : (e : BodyFault) (body : Body) (seen : ℕ) (b : Option (List ℕ)) (r s : ℕ) → Halts e (body ≡ BodyInvalid) (body ≡ BodyTooLong) (body ≡ BodyUnfinished) seen b r s → FailsAt e (λ ended. body) seen b r s
fails_by BodyBad body seen b r s h = h
fails_by BodyOver body seen b r s h = h
fails_by (Ended count) body seen b r s h = h
fails_by BodyReadFault body seen b r s h = h
fails_by BodyNoMemory body seen b r s h = tt

pub failed_planned : (o : Option BodyPlan) (e : BodyFault) (plan : BodyPlan) (rest : List ℕ) (a b : Option (List ℕ)) (r s : ℕ) → o ≡ Some plan
    → Took a b (λ t. Halts e (planned MAX_RESPONSE_BYTES plan (rest ++ t) ≡ BodyInvalid) (planned MAX_RESPONSE_BYTES plan (rest ++ t) ≡ BodyTooLong) (planned MAX_RESPONSE_BYTES plan (rest ++ t) ≡ BodyUnfinished) (length (rest ++ t)) b r s)
    → Took a b (λ t. FailsAt e (λ ended. body_by_plan o ended (rest ++ t)) (length (rest ++ t)) b r s)
failed_planned o e plan rest a b r s is k =
    subst (λ (z : Option BodyPlan). Took a b (λ t. FailsAt e (λ ended. body_by_plan z ended (rest ++ t)) (length (rest ++ t)) b r s)) (sym is)
    (k.0, k.1, fails_by e (planned MAX_RESPONSE_BYTES plan (rest ++ k.0)) (length (rest ++ k.0)) b r s k.2)

pub failed_to_end : (o : Option BodyPlan) (e : BodyFault) (rest : List ℕ) (a b : Option (List ℕ)) (r s : ℕ) → o ≡ None
    → Took a b (λ t. FailsAt e (λ ended. body_to_end MAX_RESPONSE_BYTES ended (rest ++ t)) (length (rest ++ t)) b r s)
    → Took a b (λ t. FailsAt e (λ ended. body_by_plan o ended (rest ++ t)) (length (rest ++ t)) b r s)
failed_to_end o e rest a b r s is k =
    subst (λ (z : Option BodyPlan). Took a b (λ t. FailsAt e (λ ended. body_by_plan z ended (rest ++ t)) (length (rest ++ t)) b r s)) (sym is) k

met_body : (ended : Bool) (bytes head rest t : List ℕ) (o : FramedResponse) (body : Body) → beginning_of bytes ≡ Head head rest → (k : IsFramedResponse head o) → body_by_plan o.plan ended (rest ++ t) ≡ body
    → IsMessage (responses ended) (bytes ++ t) (with_body (responses ended) k.h body)
met_body ended bytes head rest t o body is k by =
    met (responses ended) (bytes ++ t) (Head head (rest ++ t)) (Some k.h) (with_body (responses ended) k.h body) (head_stays bytes t head rest is) k.reads
    (rw k.answers (ap (with_body (responses ended) k.h) (k.body ended (rest ++ t) ∙ by)))

response_of : (head body : List ℕ) (o : FramedResponse) (x : HttpResponse) (k : IsFramedResponse head o) → IsMadeResponse o body x → IsResponseOf k.h body x
response_of head body o x k m = record {
  status = m.status ∙ k.parsed.status;
  body_is = m.body_is;
  last = m.last ∙ ap₂ (λ (c d : Bool). c || d) (ap₂ (λ (n : ℕ) (fs : List (List ℕ × List ℕ)). is_last n fs) k.parsed.minor k.parsed.fields) k.to_end;
}

pub whole_response : (bytes new head rest made : List ℕ) (o : FramedResponse) (x : HttpResponse) (a b : Option (List ℕ)) (r s : ℕ) → beginning_of bytes ≡ Head head rest → IsFramedResponse head o
    → Took a b (λ t. (ended : Bool) × (IsTrue ended → IsAtEnd b) × (body_by_plan o.plan ended (rest ++ t) ≡ Whole made new)) → IsMadeResponse o made x → ReadsResponseFrom bytes new a b r s (Ok x)
whole_response bytes new head rest made o x a b r s is k took m = record {
  taken = took.0;
  consumed = took.1;
  outcome = record {
    head = k.h;
    body = made;
    is = response_of head made o x k m;
    ended = took.2.0;
    at_end = took.2.1;
    message = met_body took.2.0 bytes head rest took.0 o (Whole made new) is k took.2.2;
  };
}

pub cut_response : (e : BodyFault) (bytes new head rest : List ℕ) (o : FramedResponse) (n : ℕ) (a b : Option (List ℕ)) (r s : ℕ) → beginning_of bytes ≡ Head head rest → IsFramedResponse head o → n ≡ length head
    → Took a b (λ t. FailsAt e (λ ended. body_by_plan o.plan ended (rest ++ t)) (length (rest ++ t)) b r s) → ReadsResponseFrom bytes new a b r s (Err (wire_fault_of n MAX_RESPONSE_BYTES e))
cut_response BodyBad bytes new head rest o n a b r s is k n_is took = record {
  taken = took.0;
  consumed = took.1;
  outcome = met_body false bytes head rest took.0 o BodyInvalid is k took.2;
}
cut_response BodyOver bytes new head rest o n a b r s is k n_is took = record {
  taken = took.0;
  consumed = took.1;
  outcome = met_body false bytes head rest took.0 o BodyTooLong is k took.2;
}
cut_response (Ended count) bytes new head rest o n a b r s is k n_is took =
    let c = begun_here bytes head rest took.0 n count is n_is took.2.2 in record {
      taken = took.0;
      consumed = took.1;
      outcome = (met_body true bytes head rest took.0 o BodyUnfinished is k took.2.0, took.2.1, c.0, c.1);
    }
cut_response BodyReadFault bytes new head rest o n a b r s is k n_is took = record {
  taken = took.0;
  consumed = took.1;
  outcome = (met_body false bytes head rest took.0 o BodyUnfinished is k took.2.0, took.2.1);
}
cut_response BodyNoMemory bytes new head rest o n a b r s is k n_is took = record { taken = took.0; consumed = took.1; outcome = tt }

-- ---- the head was read before

fails_before : (e : WireFault) (seen : List ℕ) (b : Option (List ℕ)) (r q s : ℕ) → r ≤ q → MayFailToRead e seen b q s → MayFailToRead e seen b r s
fails_before End seen b r q s low x = x
fails_before (CutOff count) seen b r q s low x = x
fails_before ReadFault seen b r q s low x = (x.0, rose_before r q s low x.1)
fails_before WriteFault seen b r q s low x = absurd x
fails_before BadHead seen b r q s low x = x
fails_before IsTooLong seen b r q s low x = x
fails_before (IsOver limit) seen b r q s low x = x
fails_before NoMemory seen b r q s low x = tt

pub later_response : (old mid new : List ℕ) (a b c : Option (List ℕ)) (r q s : ℕ) (x : Result HttpResponse WireFault) → Gained old mid a b → r ≤ q
    → ReadsResponseFrom mid new b c q s x → ReadsResponseFrom old new a c r s x
later_response old mid new a b c r q s (Ok x) g low m =
    let seen : mid ++ m.taken ≡ old ++ (g.taken ++ m.taken) = ap (λ (z : List ℕ). z ++ m.taken) g.is ∙ append_assoc old g.taken m.taken in record {
      taken = g.taken ++ m.taken;
      consumed = consumes_on a b c g.taken m.taken g.consumed m.consumed;
      outcome = subst (λ (z : List ℕ). IsFirstResponse z new c x) seen m.outcome;
    }
later_response old mid new a b c r q s (Err e) g low m =
    let seen : mid ++ m.taken ≡ old ++ (g.taken ++ m.taken) = ap (λ (z : List ℕ). z ++ m.taken) g.is ∙ append_assoc old g.taken m.taken in record {
      taken = g.taken ++ m.taken;
      consumed = consumes_on a b c g.taken m.taken g.consumed m.consumed;
      outcome = subst (λ (z : List ℕ). MayFailToRead e z c r s) seen (fails_before e (mid ++ m.taken) c r q s low m.outcome);
    }
