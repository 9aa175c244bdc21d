-- What was written when a response was sent, or not all of it was sent.
use Rattle.std.proofs.Common.{◌≡◌, ◌≤◌, inl, inr, ℕ, Bool, true, false, ◌||◌, List, take, Option, Some, refl, sym, subst}
use Rattle.std.specs.Io.KnownBytes.{Appends}
use Rattle.jm_edge.specs.Causes.{Rose}
use Rattle.http_wire.specs.Responses.{IsCutShort}
use Rattle.http_parts.specs.declared.fault.WireFault.{WireFault}
use Rattle.http_parts.specs.declared.fault.WireFault.TheVariants.{WriteFault as NotWritten, NoMemory as OutOfMemory}
use Rattle.jmap_http.proofs.Exchanges.{unavailable_since}
use Rattle.jmap_http.proofs.Nexts.{rose_later}
use Rattle.jmap_http.specs.Connections.{answer_bytes, sent_bytes}
use Rattle.jmap_http.specs.Endings.{IsUnavailablePut, IsUnsent, IsSent, IsRefusalSent, end_of}
use Rattle.jmap_http.specs.declared.response.Response.{Response}
use Rattle.jmap_http.specs.declared.served.Served.{Served}
use Rattle.jmap_http.specs.declared.served.Served.TheVariants.{End, CutOff, ReadFault, WriteFault, Limit, NoMemory, Refused, Upgraded}

pub unsent : (e : WireFault) (bytes : List ℕ) (old mid new : Option (List ℕ)) (p q r : ℕ) (served : Served) → IsCutShort e old mid bytes → (e ≡ NotWritten → Rose p q)
    → (e ≡ NotWritten → (served ≡ WriteFault) × (new ≡ mid)) → (e ≡ OutOfMemory → (served ≡ NoMemory) × IsUnavailablePut mid new q r) → p ≤ q → q ≤ r → IsUnsent bytes old new p r served
unsent e bytes old mid new p q r served (inl cut) rose failed stopped before low =
    let f = failed cut.0 in
    subst (λ z. IsUnsent bytes old new p r z) (sym f.0) ((cut.1, subst (λ z. Appends old z (take cut.1 bytes)) (sym f.1) cut.2), rose_later p q r (rose cut.0) low)
unsent e bytes old mid new p q r served (inr none) rose failed stopped before low =
    let s = stopped none.0 in
    subst (λ z. IsUnsent bytes old new p r z) (sym s.0) (s.1.0, unavailable_since p q r s.1.0 before s.1.1, subst (λ z. Appends z new s.1.0) none.1 s.1.2)

pub sent_whole : (bodiless asks at_limit : Bool) (r : Response) (old new : Option (List ℕ)) (puts puts' : ℕ) → Appends old new (answer_bytes bodiless r (asks || at_limit)) → IsSent bodiless asks at_limit r old new puts puts' (end_of asks at_limit)
sent_whole bodiless true at_limit r old new puts puts' h = (refl, h)
sent_whole bodiless false true r old new puts puts' h = (refl, refl, h)
sent_whole bodiless false false r old new puts puts' h = (refl, refl, h)

pub unsent_response : (bodiless asks at_limit : Bool) (r : Response) (old new : Option (List ℕ)) (puts puts' : ℕ) (served : Served) → IsUnsent (answer_bytes bodiless r (asks || at_limit)) old new puts puts' served
    → IsSent bodiless asks at_limit r old new puts puts' (Some served)
unsent_response bodiless asks at_limit r old new puts puts' WriteFault h = h
unsent_response bodiless asks at_limit r old new puts puts' NoMemory h = h
unsent_response bodiless asks at_limit r old new puts puts' End h = absurd h
unsent_response bodiless asks at_limit r old new puts puts' (CutOff count) h = absurd h
unsent_response bodiless asks at_limit r old new puts puts' ReadFault h = absurd h
unsent_response bodiless asks at_limit r old new puts puts' Limit h = absurd h
unsent_response bodiless asks at_limit r old new puts puts' (Refused status) h = absurd h
unsent_response bodiless asks at_limit r old new puts puts' (Upgraded user early) h = absurd h

pub unsent_refusal : (r : Response) (status : ℕ) (old new : Option (List ℕ)) (puts puts' : ℕ) (served : Served) → IsUnsent (sent_bytes r true) old new puts puts' served → IsRefusalSent r status old new puts puts' served
unsent_refusal r status old new puts puts' WriteFault h = h
unsent_refusal r status old new puts puts' NoMemory h = h
unsent_refusal r status old new puts puts' End h = absurd h
unsent_refusal r status old new puts puts' (CutOff count) h = absurd h
unsent_refusal r status old new puts puts' ReadFault h = absurd h
unsent_refusal r status old new puts puts' Limit h = absurd h
unsent_refusal r status old new puts puts' (Refused s) h = absurd h
unsent_refusal r status old new puts puts' (Upgraded user early) h = absurd h
