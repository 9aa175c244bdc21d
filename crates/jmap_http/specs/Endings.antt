-- What is written for a complete request, and how the connection ends after it.
use Rattle.std.specs.Prelude.{◌≡◌, ◌⊎◌, ℕ, Bool, true, false, ◌||◌, List, [], ◌++◌, take, Option, None, Some, MatchOption, if◌then◌else◌}
use Rattle.std.specs.Io.KnownBytes.{Appends, Consumes}
use Rattle.httparse.specs.Grammar.{RequestHead}
use Rattle.jm_edge.specs.Causes.{Rose}
use Rattle.jm_edge.specs.Clocks.{Shows}
use Rattle.server_users.specs.declared.users.User.{User}
use Rattle.jmap_http.specs.Steps.{UserSteps}
use Rattle.http_parts.specs.declared.fault.WireFault.{WireFault}
use Rattle.http_parts.specs.declared.fault.WireFault.TheVariants.{End as NoRequest, ReadFault as NotRead, WriteFault as NotWritten, BadHead, HeadTooLong, BodyTooLong, CutOff as IsCutOff, NoMemory as OutOfMemory}
use Rattle.jmap_http.specs.Responses.{AskedRequest, IsResponse, HasBegunRequest, blank_response}
use Rattle.jmap_http.specs.Connections.{answer_bytes, is_bodiless, sent_bytes, SaysUnavailable, refusal_of, is_at_limit, IsExchange, IsEnding, seen_of}
use Rattle.jmap_http.specs.declared.response.Response.{Response}
use Rattle.jmap_http.specs.declared.served.Served.{Served}
use Rattle.jmap_http.specs.declared.served.Served.TheVariants.{End, CutOff, ReadFault, WriteFault, Limit, NoMemory, Refused, Upgraded}

-- a prefix of these bytes was written
abbrev pub IsPrefixPut : Option (List ℕ) → Option (List ℕ) → List ℕ → Type 0
IsPrefixPut old new bytes = (n : ℕ) × Appends old new (take n bytes)

-- it was written that memory ran out, or a prefix of that if the link failed
abbrev pub IsUnavailablePut : (old new : Option (List ℕ)) → (puts puts' : ℕ) → Type 0
IsUnavailablePut old new puts puts' =
    (said : List ℕ) × SaysUnavailable puts puts' said × Appends old new said

-- Not all of these bytes were written, and the connection ends so: the link failed, and a prefix
-- was written; or an allocation failed, and only that was written.
abbrev pub IsUnsent : List ℕ → (old new : Option (List ℕ)) → (puts puts' : ℕ) → Served → Type 0
IsUnsent bytes old new puts puts' WriteFault = IsPrefixPut old new bytes × Rose puts puts'
IsUnsent bytes old new puts puts' NoMemory = IsUnavailablePut old new puts puts'
IsUnsent bytes old new puts puts' End = ⊥
IsUnsent bytes old new puts puts' (CutOff count) = ⊥
IsUnsent bytes old new puts puts' ReadFault = ⊥
IsUnsent bytes old new puts puts' Limit = ⊥
IsUnsent bytes old new puts puts' (Refused status) = ⊥
IsUnsent bytes old new puts puts' (Upgraded user early) = ⊥

-- how the connection ends after a response, if it does: because the request asks for that, or
-- because it is the last one
abbrev pub end_of : (asks at_limit : Bool) → Option Served
end_of asks at_limit = if asks then Some End else if at_limit then Some Limit else None

-- A response was sent, with its body or not, after which the connection ends in this way, if it
-- does: because the request asks for that, or because it is the last one.
abbrev pub IsSent : (bodiless asks at_limit : Bool) → Response → (old new : Option (List ℕ))
    → (puts puts' : ℕ) → Option Served → Type 0
IsSent bodiless asks at_limit r old new puts puts' None =
    (asks ≡ false) × (at_limit ≡ false) × Appends old new (answer_bytes bodiless r false)
IsSent bodiless asks at_limit r old new puts puts' (Some End) =
    (asks ≡ true) × Appends old new (answer_bytes bodiless r true)
IsSent bodiless asks at_limit r old new puts puts' (Some Limit) =
    (asks ≡ false) × (at_limit ≡ true) × Appends old new (answer_bytes bodiless r true)
IsSent bodiless asks at_limit r old new puts puts' (Some WriteFault) =
    IsPrefixPut old new (answer_bytes bodiless r (asks || at_limit)) × Rose puts puts'
IsSent bodiless asks at_limit r old new puts puts' (Some NoMemory) =
    IsUnavailablePut old new puts puts'
IsSent bodiless asks at_limit r old new puts puts' (Some (CutOff count)) = ⊥
IsSent bodiless asks at_limit r old new puts puts' (Some ReadFault) = ⊥
IsSent bodiless asks at_limit r old new puts puts' (Some (Refused status)) = ⊥
IsSent bodiless asks at_limit r old new puts puts' (Some (Upgraded user early)) = ⊥

-- the response that refuses a message was sent
abbrev pub IsRefusalSent : Response → ℕ → (old new : Option (List ℕ)) → (puts puts' : ℕ) → Served
    → Type 0
IsRefusalSent r status old new puts puts' (Refused s) =
    (s ≡ status) × Appends old new (sent_bytes r true)
IsRefusalSent r status old new puts puts' WriteFault =
    IsPrefixPut old new (sent_bytes r true) × Rose puts puts'
IsRefusalSent r status old new puts puts' NoMemory = IsUnavailablePut old new puts puts'
IsRefusalSent r status old new puts puts' End = ⊥
IsRefusalSent r status old new puts puts' (CutOff count) = ⊥
IsRefusalSent r status old new puts puts' ReadFault = ⊥
IsRefusalSent r status old new puts puts' Limit = ⊥
IsRefusalSent r status old new puts puts' (Upgraded user early) = ⊥

-- how the connection ends where no request was read, and what is written then
abbrev pub IsRefusedAs : WireFault → (old new : Option (List ℕ)) → (puts puts' : ℕ) → Served
    → Type 0
IsRefusedAs NoRequest old new puts puts' served = (served ≡ End) × Appends old new []
IsRefusedAs (IsCutOff count) old new puts puts' served =
    (served ≡ CutOff count) × Appends old new []
IsRefusedAs NotRead old new puts puts' served = (served ≡ ReadFault) × Appends old new []
IsRefusedAs NotWritten old new puts puts' served = (served ≡ WriteFault) × Appends old new []
IsRefusedAs BadHead old new puts puts' served =
    IsRefusalSent (blank_response 400) 400 old new puts puts' served
IsRefusedAs HeadTooLong old new puts puts' served =
    IsRefusalSent (blank_response 431) 431 old new puts puts' served
IsRefusedAs (BodyTooLong limit) old new puts puts' served =
    IsRefusalSent (refusal_of limit) 413 old new puts puts' served
IsRefusedAs OutOfMemory old new puts puts' served =
    (served ≡ NoMemory) × IsUnavailablePut old new puts puts'

-- A complete request was answered: its response was sent; or it ended out of memory, which was
-- sent.
abbrev pub IsAnswered : {S : Type 0} → UserSteps S → List User → (s s' : S) → (times times' : Option
    (List ℕ)) → AskedRequest → (asks at_limit : Bool) → (old new : Option (List ℕ))
    → (puts puts' : ℕ) → Option Served → Type 0
IsAnswered steps users s s' times times' q asks at_limit old new puts puts' served =
    (time : ℕ) × Shows times times' time
    × (((response : Response) × IsResponse steps users s s' time q response
    × IsSent (is_bodiless q.method) asks at_limit response old new puts puts' served)
    ⊎ (HasBegunRequest steps users s s' time q × (served ≡ Some NoMemory)
    × IsUnavailablePut old new puts puts'))

-- What a call that serves the next request of a connection did: it read these bytes of the link,
-- and wrote those; the request was answered and does not end the connection, or the connection
-- ended.
pub record ServesNext {S : Type 0} (steps : UserSteps S) (users : List User)
    (ends : RequestHead → Bool) (number : ℕ) (s s' : S) (times times' : Option (List ℕ))
    (early early' : List ℕ) (left left' held held' : Option (List ℕ)) (reads reads' puts puts' : ℕ)
    (served : Option Served) : Type 0
  where
    pub taken : List ℕ
    pub rest : List ℕ
    pub written : List ℕ
    pub consumed : Consumes left left' taken
    pub outcome : MatchOption served
        (IsExchange steps users ends number
        (record { state = s; times = times; bytes = early ++ taken })
        (record { state = s'; times = times'; bytes = early' }) false written
        × (is_at_limit number ≡ false))
        (λ end. IsEnding steps users ends end number
        (seen_of left' reads reads' puts puts')
        (record { state = s; times = times; bytes = early ++ taken })
        (record { state = s'; times = times'; bytes = rest }) written)
    pub put : Appends held held' written
