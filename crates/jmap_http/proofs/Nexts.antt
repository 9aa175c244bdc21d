-- What serving the next request of a connection does, from what its parts did.
use Rattle.std.proofs.Common.{◌≡◌, ◌≤◌, ◌+◌, ◌⊎◌, ℕ, Bool, true, false, not, is_none, ◌||◌, List, [], ◌++◌, length, take, Option, None, Some, Ok, Err, refl, sym, ap, ap₂, ◌∙◌, subst, arith, append-nil, inl, inr}
use Rattle.std.specs.Io.KnownBytes.{Appends, Consumes}
use Rattle.std.proofs.Math.Seq.{take-append-add}
use Rattle.std.proofs.lemmas.Bool.{eqb-true}
use Rattle.httparse.specs.Grammar.{RequestHead}
use Rattle.jm_edge.specs.Causes.{Rose}
use Rattle.jm_edge.specs.Clocks.{Shows}
use Rattle.jm_edge.proofs.Known.{appends_on}
use Rattle.http_parts.proofs.Stopped.{rose_before}
use Rattle.http_parts.specs.Plans.{kept_bytes}
use Rattle.http_parts.specs.declared.fault.WireFault.{WireFault}
use Rattle.http_parts.specs.declared.fault.WireFault.TheVariants.{End as NoRequest, ReadFault as NotRead, WriteFault as NotWritten, BadHead, HeadTooLong, BodyTooLong, CutOff as IsCutOff, NoMemory as OutOfMemory}
use Rattle.http_wire.specs.Fields.{pairs}
use Rattle.http_wire.specs.declared.request.HttpRequest.{HttpRequest}
use Rattle.http_wire.specs.Requests.{Complete, IsMessage, requests, IsDue, names_and_values, ReadsRequestFrom}
use Rattle.http_wire.specs.Responses.{continue_bytes}
use Rattle.server_users.specs.declared.users.User.{User}
use Rattle.jmap_http.specs.Steps.{UserSteps}
use Rattle.jmap_http.specs.Authorization.{is_known, user_of}
use Rattle.jmap_http.specs.Responses.{AskedRequest, IsResponse, IsResponseBy, HasBegunBy, HasBegunRequest, blank_response}
use Rattle.jmap_http.specs.Connections.{IsExchange, IsInterim, IsRefusedBy, asked_of, answer_bytes, asks_to_end, is_bodiless, sent_bytes, is_at_limit, refusal_of}
use Rattle.jmap_http.specs.Endings.{ServesNext, IsSent, IsAnswered, IsUnavailablePut, IsRefusalSent, IsRefusedAs}
use Rattle.jmap_http.specs.Views.{asked}
use Rattle.jmap_http.proofs.Exchanges.{unavailable_since}
use Rattle.jmap_http.specs.declared.limits.TheConstants.{MAX_REQUESTS_PER_CONNECTION}
use Rattle.jmap_http.specs.declared.response.Response.{Response}
use Rattle.jmap_http.specs.declared.served.Served.{Served}
use Rattle.jmap_http.specs.declared.served.Served.TheVariants.{End, CutOff, ReadFault, WriteFault, Limit, NoMemory, Refused, Upgraded}

-- the complete request was answered by this response, and this was sent
exchange_of : {S : Type 0} (steps : UserSteps S) (users : List User) (number : ℕ) (s s' : S) (times times' : Option (List ℕ)) (early taken early' : List ℕ) (h : RequestHead) (body interim : List ℕ) (time : ℕ) (r : Response) (asks : Bool)
    → IsMessage requests (early ++ taken) (Complete h body early') → IsInterim (early ++ taken) interim → Shows times times' time → IsResponse steps users s s' time (asked_of h body) r → asks_to_end h ≡ asks
    → IsExchange steps users asks_to_end number (record { state = s; times = times; bytes = early ++ taken }) (record { state = s'; times = times'; bytes = early' }) asks (interim ++ answer_bytes (is_bodiless h.method) r (asks || is_at_limit number))
exchange_of steps users number s s' times times' early taken early' h body interim time r asks m i t a e = record {
  head = h;
  body = body;
  time = time;
  interim = interim;
  response = r;
  message = m;
  shown = t;
  answered = a;
  continued = i;
  asks_is = e;
  written_is = refl;
}

-- the complete request was answered by this response, which was sent with or without the field
-- that ends the connection
exchange_as : {S : Type 0} (steps : UserSteps S) (users : List User) (number : ℕ) (s s' : S) (times times' : Option (List ℕ)) (early taken early' : List ℕ) (h : RequestHead) (body interim : List ℕ) (time : ℕ) (r : Response) (asks last : Bool)
    → IsMessage requests (early ++ taken) (Complete h body early') → IsInterim (early ++ taken) interim → Shows times times' time → IsResponse steps users s s' time (asked_of h body) r → asks_to_end h ≡ asks
    → (asks || is_at_limit number) ≡ last
    → IsExchange steps users asks_to_end number (record { state = s; times = times; bytes = early ++ taken }) (record { state = s'; times = times'; bytes = early' }) asks (interim ++ answer_bytes (is_bodiless h.method) r last)
exchange_as steps users number s s' times times' early taken early' h body interim time r asks last m i t a e l =
    subst (λ b. IsExchange steps users asks_to_end number (record { state = s; times = times; bytes = early ++ taken }) (record { state = s'; times = times'; bytes = early' }) asks (interim ++ answer_bytes (is_bodiless h.method) r b)) l
    (exchange_of steps users number s s' times times' early taken early' h body interim time r asks m i t a e)

or_true : (a b : Bool) → a ≡ true → (a || b) ≡ true
or_true a b e = ap (λ x. x || b) e

or_second : (a b c : Bool) → a ≡ false → b ≡ c → (a || b) ≡ c
or_second a b c e f = ap (λ x. x || b) e ∙ f

-- what is known of the call
record Call {S : Type 0} (steps : UserSteps S) (users : List User) (number : ℕ) (s s' : S) (times times' : Option (List ℕ)) (early taken early' : List ℕ) (h : RequestHead) (body interim : List ℕ) (time : ℕ) : Type 0 where
  pub message : IsMessage requests (early ++ taken) (Complete h body early')
  pub continued : IsInterim (early ++ taken) interim
  pub shown : Shows times times' time

sent_next : {S : Type 0} (steps : UserSteps S) (users : List User) (number : ℕ) (s s' : S) (times times' : Option (List ℕ)) (early taken early' : List ℕ) (left left' held hm held' : Option (List ℕ)) (reads reads' puts pm puts' : ℕ)
    (h : RequestHead) (body interim : List ℕ) (time : ℕ) (r : Response) (served : Option Served) → Consumes left left' taken → Call steps users number s s' times times' early taken early' h body interim time
    → Appends held hm interim → IsResponse steps users s s' time (asked_of h body) r → puts ≤ pm → IsSent (is_bodiless h.method) (asks_to_end h) (is_at_limit number) r hm held' pm puts' served
    → ServesNext steps users asks_to_end number s s' times times' early early' left left' held held' reads reads' puts puts' served
sent_next steps users number s s' times times' early taken early' left left' held hm held' reads reads' puts pm puts' h body interim time r None c k i a p sent =
    let x = exchange_as steps users number s s' times times' early taken early' h body interim time r false false k.message k.continued k.shown a sent.0 sent.1 in
    record {
      taken = taken;
      rest = early';
      written = interim ++ answer_bytes (is_bodiless h.method) r false;
      consumed = c;
      outcome = (x, sent.1);
      put = appends_on held hm held' interim (answer_bytes (is_bodiless h.method) r false) i sent.2;
    }
sent_next steps users number s s' times times' early taken early' left left' held hm held' reads reads' puts pm puts' h body interim time r (Some End) c k i a p sent =
    let x = exchange_as steps users number s s' times times' early taken early' h body interim time r true true k.message k.continued k.shown a sent.0 refl in
    record {
      taken = taken;
      rest = early';
      written = interim ++ answer_bytes (is_bodiless h.method) r true;
      consumed = c;
      outcome = inr x;
      put = appends_on held hm held' interim (answer_bytes (is_bodiless h.method) r true) i sent.1;
    }
sent_next steps users number s s' times times' early taken early' left left' held hm held' reads reads' puts pm puts' h body interim time r (Some Limit) c k i a p sent =
    let x = exchange_as steps users number s s' times times' early taken early' h body interim time r false true k.message k.continued k.shown a sent.0 sent.1 in
    record {
      taken = taken;
      rest = early';
      written = interim ++ answer_bytes (is_bodiless h.method) r true;
      consumed = c;
      outcome = (x, eqb-true number MAX_REQUESTS_PER_CONNECTION sent.1);
      put = appends_on held hm held' interim (answer_bytes (is_bodiless h.method) r true) i sent.2;
    }
sent_next steps users number s s' times times' early taken early' left left' held hm held' reads reads' puts pm puts' h body interim time r (Some WriteFault) c k i a p sent =
    let asks : Bool = asks_to_end h in
    let whole : List ℕ = answer_bytes (is_bodiless h.method) r (asks || is_at_limit number) in
    let x = exchange_of steps users number s s' times times' early taken early' h body interim time r asks k.message k.continued k.shown a refl in
    record {
      taken = taken;
      rest = early';
      written = interim ++ take sent.0.0 whole;
      consumed = c;
      outcome = ((length interim + sent.0.0, interim ++ whole, sym (take-append-add interim whole sent.0.0), inr (inl (asks, x))), rose_before puts pm puts' p sent.1);
      put = appends_on held hm held' interim (take sent.0.0 whole) i sent.0.1;
    }
sent_next steps users number s s' times times' early taken early' left left' held hm held' reads reads' puts pm puts' h body interim time r (Some NoMemory) c k i a p sent = record {
  taken = taken;
  rest = early';
  written = interim ++ sent.0;
  consumed = c;
  outcome = inr (record {
    head = h;
    body = body;
    time = time;
    interim = interim;
    said = sent.0;
    message = k.message;
    shown = k.shown;
    begun = inr (r, a);
    continued = k.continued;
    unavailable = unavailable_since puts pm puts' sent.0 p sent.1;
    written_is = refl;
  });
  put = appends_on held hm held' interim sent.0 i sent.2;
}
sent_next steps users number s s' times times' early taken early' left left' held hm held' reads reads' puts pm puts' h body interim time r (Some (CutOff count)) c k i a p sent = absurd sent
sent_next steps users number s s' times times' early taken early' left left' held hm held' reads reads' puts pm puts' h body interim time r (Some ReadFault) c k i a p sent = absurd sent
sent_next steps users number s s' times times' early taken early' left left' held hm held' reads reads' puts pm puts' h body interim time r (Some (Refused status)) c k i a p sent = absurd sent
sent_next steps users number s s' times times' early taken early' left left' held hm held' reads reads' puts pm puts' h body interim time r (Some (Upgraded user upgraded_early)) c k i a p sent = absurd sent

lost_next : {S : Type 0} (steps : UserSteps S) (users : List User) (number : ℕ) (s s' : S) (times times' : Option (List ℕ)) (early taken early' : List ℕ) (left left' held hm held' : Option (List ℕ)) (reads reads' puts pm puts' : ℕ)
    (h : RequestHead) (body interim : List ℕ) (time : ℕ) → Consumes left left' taken → Call steps users number s s' times times' early taken early' h body interim time
    → Appends held hm interim → HasBegunRequest steps users s s' time (asked_of h body) → puts ≤ pm → IsUnavailablePut hm held' pm puts'
    → ServesNext steps users asks_to_end number s s' times times' early early' left left' held held' reads reads' puts puts' (Some NoMemory)
lost_next steps users number s s' times times' early taken early' left left' held hm held' reads reads' puts pm puts' h body interim time c k i b p sent = record {
  taken = taken;
  rest = early';
  written = interim ++ sent.0;
  consumed = c;
  outcome = inr (record {
    head = h;
    body = body;
    time = time;
    interim = interim;
    said = sent.0;
    message = k.message;
    shown = k.shown;
    begun = inl b;
    continued = k.continued;
    unavailable = unavailable_since puts pm puts' sent.0 p sent.1;
    written_is = refl;
  });
  put = appends_on held hm held' interim sent.0 i sent.2;
}

-- ---- a complete request

-- what was written before the body was read
interim_of : (bytes : List ℕ) (held hm : Option (List ℕ)) → (IsDue bytes × Appends held hm continue_bytes) ⊎ (¬ (IsDue bytes) × Appends held hm [])
    → (interim : List ℕ) × IsInterim bytes interim × Appends held hm interim
interim_of bytes held hm (inl due) = (continue_bytes, inl (due.0, refl), due.1)
interim_of bytes held hm (inr none) = ([], inr (none.0, refl), none.1)

abbrev as_asked : (method target : List ℕ) (fields : List (List ℕ × List ℕ)) (body : List ℕ) → AskedRequest
as_asked method target fields body = record { method = method; target = target; fields = fields; body = body }

asked_same : (m m' t t' : List ℕ) (f f' : List (List ℕ × List ℕ)) (b b' : List ℕ) → m ≡ m' → t ≡ t' → f ≡ f' → b ≡ b' → as_asked m t f b ≡ as_asked m' t' f' b'
asked_same m m' t t' f f' b b' p q r s = ap₂ (λ (x y : List ℕ). as_asked x y f b) p q ∙ ap₂ (λ (x : List (List ℕ × List ℕ)) (y : List ℕ). as_asked m' t' x y) r s

-- a request without the token of a user is answered the same whatever its body is
response_by : {S : Type 0} (steps : UserSteps S) (users : List User) (s s' : S) (time : ℕ) (h : RequestHead) (body : List ℕ) (r : Response) (o : Option ℕ)
    → IsResponseBy steps users s s' time (asked_of h (kept_bytes (not (is_none o)) body)) o r → IsResponseBy steps users s s' time (asked_of h body) o r
response_by steps users s s' time h body r None w = w
response_by steps users s s' time h body r (Some index) w = w

response_to_all : {S : Type 0} (steps : UserSteps S) (users : List User) (s s' : S) (time : ℕ) (h : RequestHead) (body : List ℕ) (r : Response)
    → IsResponse steps users s s' time (asked_of h (kept_bytes (is_known users (names_and_values h.fields)) body)) r → IsResponse steps users s s' time (asked_of h body) r
response_to_all steps users s s' time h body r w = response_by steps users s s' time h body r (user_of users (names_and_values h.fields)) w

begun_by : {S : Type 0} (steps : UserSteps S) (users : List User) (s s' : S) (time : ℕ) (h : RequestHead) (body : List ℕ) (o : Option ℕ)
    → HasBegunBy steps users s s' time (asked_of h (kept_bytes (not (is_none o)) body)) o → HasBegunBy steps users s s' time (asked_of h body) o
begun_by steps users s s' time h body None w = w
begun_by steps users s s' time h body (Some index) w = w

begun_for_all : {S : Type 0} (steps : UserSteps S) (users : List User) (s s' : S) (time : ℕ) (h : RequestHead) (body : List ℕ)
    → HasBegunRequest steps users s s' time (asked_of h (kept_bytes (is_known users (names_and_values h.fields)) body)) → HasBegunRequest steps users s s' time (asked_of h body)
begun_for_all steps users s s' time h body w = begun_by steps users s s' time h body (user_of users (names_and_values h.fields)) w

pub answered_next : {S : Type 0} (steps : UserSteps S) (users : List User) (number : ℕ) (s s' : S) (times times' : Option (List ℕ)) (early early' : List ℕ) (left left' held hm held' : Option (List ℕ)) (reads reads' puts pm puts' : ℕ)
    (x : HttpRequest) (served : Option Served) → ReadsRequestFrom (is_known users) early early' left left' held hm reads reads' puts pm (Ok x)
    → IsAnswered steps users s s' times times' (asked x) x.last (is_at_limit number) hm held' pm puts' served → puts ≤ pm
    → ServesNext steps users asks_to_end number s s' times times' early early' left left' held held' reads reads' puts puts' served
answered_next steps users number s s' times times' early early' left left' held hm held' reads reads' puts pm puts' x served r a p = by a.2
  where
    h : RequestHead
    h = r.outcome.0

    body : List ℕ
    body = r.outcome.1

    kept : List ℕ
    kept = kept_bytes (is_known users (names_and_values h.fields)) body

    same : asked x ≡ asked_of h kept
    same = asked_same x.method h.method x.target h.target (pairs x.fields) (names_and_values h.fields) x.body kept r.outcome.2.method r.outcome.2.target r.outcome.2.fields r.outcome.2.body_is

    i : (interim : List ℕ) × IsInterim (early ++ r.taken) interim × Appends held hm interim
    i = interim_of (early ++ r.taken) held hm r.continued

    k : Call steps users number s s' times times' early r.taken early' h body i.0 a.0
    k = record { message = r.outcome.3; continued = i.1; shown = a.1 }

    by : ((response : Response) × IsResponse steps users s s' a.0 (asked x) response × IsSent (is_bodiless (asked x).method) x.last (is_at_limit number) response hm held' pm puts' served)
        ⊎ (HasBegunRequest steps users s s' a.0 (asked x) × (served ≡ Some NoMemory) × IsUnavailablePut hm held' pm puts')
        → ServesNext steps users asks_to_end number s s' times times' early early' left left' held held' reads reads' puts puts' served
    by (inl done) =
        sent_next steps users number s s' times times' early r.taken early' left left' held hm held' reads reads' puts pm puts' h body i.0 a.0 done.0 served r.consumed k i.2
        (response_to_all steps users s s' a.0 h body done.0 (subst (λ q. IsResponse steps users s s' a.0 q done.0) same done.1)) p
        (subst (λ b. IsSent (is_bodiless h.method) b (is_at_limit number) done.0 hm held' pm puts' served) r.outcome.2.last
        (subst (λ q. IsSent (is_bodiless q.method) x.last (is_at_limit number) done.0 hm held' pm puts' served) same done.2))
    by (inr lost) =
        subst (λ o. ServesNext steps users asks_to_end number s s' times times' early early' left left' held held' reads reads' puts puts' o) (sym lost.1)
        (lost_next steps users number s s' times times' early r.taken early' left left' held hm held' reads reads' puts pm puts' h body i.0 a.0 r.consumed k i.2
        (begun_for_all steps users s s' a.0 h body (subst (λ q. HasBegunRequest steps users s s' a.0 q) same lost.0)) p lost.2)

-- ---- no request was read

pub rose_later : (p q r : ℕ) → Rose p q → q ≤ r → Rose p r
rose_later p q r h low = grind arith

-- nothing was written after the interim response
no_more : (held hm held' : Option (List ℕ)) (interim : List ℕ) → Appends held hm interim → Appends hm held' [] → Appends held held' interim
no_more held hm held' interim i n = subst (λ z. Appends held held' z) (append-nil interim) (appends_on held hm held' interim [] i n)

perhaps : (bytes interim : List ℕ) → IsInterim bytes interim → (IsDue bytes × (interim ≡ continue_bytes)) ⊎ (interim ≡ [])
perhaps bytes interim (inl due) = inl due
perhaps bytes interim (inr none) = inr none.1

-- the response that refuses the message was sent
refusal_next : {S : Type 0} (steps : UserSteps S) (users : List User) (number status : ℕ) (s : S) (times : Option (List ℕ)) (early taken early' : List ℕ) (left left' held hm held' : Option (List ℕ)) (reads reads' puts pm puts' : ℕ)
    (interim : List ℕ) (response : Response) (served : Served) → Consumes left left' taken → IsRefusedBy (early ++ taken) response → response.status ≡ status → IsInterim (early ++ taken) interim → Appends held hm interim → puts ≤ pm
    → IsRefusalSent response status hm held' pm puts' served
    → ServesNext steps users asks_to_end number s s times times early early' left left' held held' reads reads' puts puts' (Some served)
refusal_next steps users number status s times early taken early' left left' held hm held' reads reads' puts pm puts' interim response (Refused n) c by is k i p sent = record {
  taken = taken;
  rest = early ++ taken;
  written = interim ++ sent_bytes response true;
  consumed = c;
  outcome = record { interim = interim; response = response; same = refl; refused = by; status_is = is ∙ sym sent.0; continued = k; written_is = refl };
  put = appends_on held hm held' interim (sent_bytes response true) i sent.1;
}
refusal_next steps users number status s times early taken early' left left' held hm held' reads reads' puts pm puts' interim response WriteFault c by is k i p sent = record {
  taken = taken;
  rest = early ++ taken;
  written = interim ++ take sent.0.0 (sent_bytes response true);
  consumed = c;
  outcome = (
    (
      length interim + sent.0.0,
      interim ++ sent_bytes response true,
      sym (take-append-add interim (sent_bytes response true) sent.0.0),
      inr (inr (status, record { interim = interim; response = response; same = refl; refused = by; status_is = is; continued = k; written_is = refl })),
    ),
    rose_before puts pm puts' p sent.1,
  );
  put = appends_on held hm held' interim (take sent.0.0 (sent_bytes response true)) i sent.0.1;
}
refusal_next steps users number status s times early taken early' left left' held hm held' reads reads' puts pm puts' interim response NoMemory c by is k i p sent = record {
  taken = taken;
  rest = early ++ taken;
  written = interim ++ sent.0;
  consumed = c;
  outcome = inl (record { interim = interim; said = sent.0; same = refl; continued = perhaps (early ++ taken) interim k; unavailable = unavailable_since puts pm puts' sent.0 p sent.1; written_is = refl });
  put = appends_on held hm held' interim sent.0 i sent.2;
}
refusal_next steps users number status s times early taken early' left left' held hm held' reads reads' puts pm puts' interim response End c by is k i p sent = absurd sent
refusal_next steps users number status s times early taken early' left left' held hm held' reads reads' puts pm puts' interim response (CutOff count) c by is k i p sent = absurd sent
refusal_next steps users number status s times early taken early' left left' held hm held' reads reads' puts pm puts' interim response ReadFault c by is k i p sent = absurd sent
refusal_next steps users number status s times early taken early' left left' held hm held' reads reads' puts pm puts' interim response Limit c by is k i p sent = absurd sent
refusal_next steps users number status s times early taken early' left left' held hm held' reads reads' puts pm puts' interim response (Upgraded user upgraded_early) c by is k i p sent = absurd sent

-- memory ran out before all of the request was read
unread_next : {S : Type 0} (steps : UserSteps S) (users : List User) (number : ℕ) (s : S) (times : Option (List ℕ)) (early taken early' : List ℕ) (left left' held hm held' : Option (List ℕ)) (reads reads' puts pm puts' : ℕ)
    → Consumes left left' taken → (IsDue (early ++ taken) × Appends held hm continue_bytes) ⊎ Appends held hm [] → puts ≤ pm → IsUnavailablePut hm held' pm puts'
    → ServesNext steps users asks_to_end number s s times times early early' left left' held held' reads reads' puts puts' (Some NoMemory)
unread_next steps users number s times early taken early' left left' held hm held' reads reads' puts pm puts' c (inl due) p sent = record {
  taken = taken;
  rest = early ++ taken;
  written = continue_bytes ++ sent.0;
  consumed = c;
  outcome = inl (record { interim = continue_bytes; said = sent.0; same = refl; continued = inl (due.0, refl); unavailable = unavailable_since puts pm puts' sent.0 p sent.1; written_is = refl });
  put = appends_on held hm held' continue_bytes sent.0 due.1 sent.2;
}
unread_next steps users number s times early taken early' left left' held hm held' reads reads' puts pm puts' c (inr none) p sent = record {
  taken = taken;
  rest = early ++ taken;
  written = sent.0;
  consumed = c;
  outcome = inl (record { interim = []; said = sent.0; same = refl; continued = inr refl; unavailable = unavailable_since puts pm puts' sent.0 p sent.1; written_is = refl });
  put = appends_on held hm held' [] sent.0 none sent.2;
}

pub refused_next : {S : Type 0} (steps : UserSteps S) (users : List User) (number : ℕ) (s : S) (times : Option (List ℕ)) (early early' : List ℕ) (left left' held hm held' : Option (List ℕ)) (reads reads' puts pm puts' : ℕ)
    (e : WireFault) (served : Served) → ReadsRequestFrom (is_known users) early early' left left' held hm reads reads' puts pm (Err e) → IsRefusedAs e hm held' pm puts' served → puts ≤ pm → pm ≤ puts'
    → ServesNext steps users asks_to_end number s s times times early early' left left' held held' reads reads' puts puts' (Some served)
refused_next steps users number s times early early' left left' held hm held' reads reads' puts pm puts' NoRequest served r a p q =
    let i = interim_of (early ++ r.taken) held hm r.continued in
    subst (λ z. ServesNext steps users asks_to_end number s s times times early early' left left' held held' reads reads' puts puts' (Some z)) (sym a.0)
    (record {
      taken = r.taken;
      rest = early ++ r.taken;
      written = i.0;
      consumed = r.consumed;
      outcome = inl ((refl, r.outcome.0, i.1), r.outcome.1, r.outcome.2);
      put = no_more held hm held' i.0 i.2 a.1;
    })
refused_next steps users number s times early early' left left' held hm held' reads reads' puts pm puts' (IsCutOff count) served r a p q =
    let i = interim_of (early ++ r.taken) held hm r.continued in
    subst (λ z. ServesNext steps users asks_to_end number s s times times early early' left left' held held' reads reads' puts puts' (Some z)) (sym a.0)
    (record {
      taken = r.taken;
      rest = early ++ r.taken;
      written = i.0;
      consumed = r.consumed;
      outcome = ((refl, r.outcome.0, i.1), r.outcome.1, r.outcome.2, r.outcome.3);
      put = no_more held hm held' i.0 i.2 a.1;
    })
refused_next steps users number s times early early' left left' held hm held' reads reads' puts pm puts' NotRead served r a p q =
    let i = interim_of (early ++ r.taken) held hm r.continued in
    subst (λ z. ServesNext steps users asks_to_end number s s times times early early' left left' held held' reads reads' puts puts' (Some z)) (sym a.0)
    (record {
      taken = r.taken;
      rest = early ++ r.taken;
      written = i.0;
      consumed = r.consumed;
      outcome = ((refl, r.outcome.0, i.1), r.outcome.1);
      put = no_more held hm held' i.0 i.2 a.1;
    })
refused_next steps users number s times early early' left left' held hm held' reads reads' puts pm puts' NotWritten served r a p q =
    subst (λ z. ServesNext steps users asks_to_end number s s times times early early' left left' held held' reads reads' puts puts' (Some z)) (sym a.0)
    (record {
      taken = r.taken;
      rest = early ++ r.taken;
      written = take r.continued.0 continue_bytes;
      consumed = r.consumed;
      outcome = ((r.continued.0, continue_bytes, refl, inl (refl, r.outcome.0, refl)), rose_later puts pm puts' r.outcome.1 q);
      put = no_more held hm held' (take r.continued.0 continue_bytes) r.continued.1 a.1;
    })
refused_next steps users number s times early early' left left' held hm held' reads reads' puts pm puts' BadHead served r a p q =
    let i = interim_of (early ++ r.taken) held hm r.continued in
    refusal_next steps users number 400 s times early r.taken early' left left' held hm held' reads reads' puts pm puts' i.0 (blank_response 400) served r.consumed (inl (r.outcome, refl)) refl i.1 i.2 p a
refused_next steps users number s times early early' left left' held hm held' reads reads' puts pm puts' HeadTooLong served r a p q =
    let i = interim_of (early ++ r.taken) held hm r.continued in
    refusal_next steps users number 431 s times early r.taken early' left left' held hm held' reads reads' puts pm puts' i.0 (blank_response 431) served r.consumed (inr (inl (r.outcome, refl))) refl i.1 i.2 p a
refused_next steps users number s times early early' left left' held hm held' reads reads' puts pm puts' (BodyTooLong limit) served r a p q =
    let i = interim_of (early ++ r.taken) held hm r.continued in
    refusal_next steps users number 413 s times early r.taken early' left left' held hm held' reads reads' puts pm puts' i.0 (refusal_of limit) served r.consumed (inr (inr (limit, r.outcome, refl))) refl i.1 i.2 p a
refused_next steps users number s times early early' left left' held hm held' reads reads' puts pm puts' OutOfMemory served r a p q =
    subst (λ z. ServesNext steps users asks_to_end number s s times times early early' left left' held held' reads reads' puts puts' (Some z)) (sym a.0)
    (unread_next steps users number s times early r.taken early' left left' held hm held' reads reads' puts pm puts' r.consumed r.continued p a.1)

-- ---- what serving the next request does, by the links in between

pub answered_after : {S : Type 0} (steps : UserSteps S) (users : List User) (number : ℕ) (s s' : S) (times times' : Option (List ℕ)) (early early' : List ℕ) (left lm left' held hm held' : Option (List ℕ)) (reads rm reads' puts pm puts' : ℕ)
    (x : HttpRequest) (served : Option Served) → left' ≡ lm → reads' ≡ rm → ReadsRequestFrom (is_known users) early early' left lm held hm reads rm puts pm (Ok x)
    → IsAnswered steps users s s' times times' (asked x) x.last (is_at_limit number) hm held' pm puts' served → puts ≤ pm
    → ServesNext steps users asks_to_end number s s' times times' early early' left left' held held' reads reads' puts puts' served
answered_after steps users number s s' times times' early early' left lm left' held hm held' reads rm reads' puts pm puts' x served e f r a p =
    subst (λ z. ServesNext steps users asks_to_end number s s' times times' early early' left z held held' reads reads' puts puts' served) (sym e)
    (subst (λ z. ServesNext steps users asks_to_end number s s' times times' early early' left lm held held' reads z puts puts' served) (sym f)
    (answered_next steps users number s s' times times' early early' left lm held hm held' reads rm puts pm puts' x served r a p))

pub refused_after : {S : Type 0} (steps : UserSteps S) (users : List User) (number : ℕ) (s : S) (times : Option (List ℕ)) (early early' : List ℕ) (left lm left' held hm held' : Option (List ℕ)) (reads rm reads' puts pm puts' : ℕ)
    (e : WireFault) (served : Served) → left' ≡ lm → reads' ≡ rm → ReadsRequestFrom (is_known users) early early' left lm held hm reads rm puts pm (Err e) → IsRefusedAs e hm held' pm puts' served → puts ≤ pm → pm ≤ puts'
    → ServesNext steps users asks_to_end number s s times times early early' left left' held held' reads reads' puts puts' (Some served)
refused_after steps users number s times early early' left lm left' held hm held' reads rm reads' puts pm puts' e served f g r a p q =
    subst (λ z. ServesNext steps users asks_to_end number s s times times early early' left z held held' reads reads' puts puts' (Some served)) (sym f)
    (subst (λ z. ServesNext steps users asks_to_end number s s times times early early' left lm held held' reads z puts puts' (Some served)) (sym g)
    (refused_next steps users number s times early early' left lm held hm held' reads rm puts pm puts' e served r a p q))
