-- The exchanges of a connection, as more bytes come and one after the other.
use Rattle.std.proofs.Common.{◌≡◌, ◌≤◌, ◌<◌, ◌+◌, inl, inr, ℕ, zero, suc, Bool, false, List, [], ◌++◌, Option, None, Some, refl, sym, ap, ◌∙◌, subst, arith, append_assoc, append-nil, add-one}
use Rattle.std.proofs.lemmas.Bool.{eqb-false}
use Rattle.std.specs.Io.KnownBytes.{Appends, Consumes}
use Rattle.httparse.specs.Grammar.{RequestHead}
use Rattle.jm_edge.proofs.Known.{consumes_on, appends_on, consumes_none, appends_none}
use Rattle.http_parts.proofs.Stopped.{rose_before}
use Rattle.http_wire.specs.Requests.{Complete, IsMessage, requests}
use Rattle.http_wire.proofs.MessageStays.{message_stays, due_stays, due_back}
use Rattle.server_users.specs.declared.users.User.{User}
use Rattle.jmap_http.specs.Steps.{UserSteps}
use Rattle.jmap_http.specs.Connections.{Stage, IsInterim, IsExchange, AreExchanges, IsEnding, SaysUnavailable, Serves, is_at_limit}
use Rattle.jmap_http.specs.Endings.{IsUnavailablePut, ServesNext}
use Rattle.jmap_http.specs.declared.limits.TheConstants.{MAX_REQUESTS_PER_CONNECTION}
use Rattle.jmap_http.specs.declared.served.Served.{Served}
use Rattle.jmap_http.specs.declared.served.Served.TheVariants.{End, CutOff, ReadFault, WriteFault, Limit, NoMemory, Refused, Upgraded}

abbrev pub more : {S : Type 0} → Stage S → List ℕ → Stage S
more a t = record { state = a.state; times = a.times; bytes = a.bytes ++ t }

-- whether the interim response is due stays as it is
interim_stays : (bytes t interim : List ℕ) (h : RequestHead) (body rest : List ℕ) → IsMessage requests bytes (Complete h body rest) → IsInterim bytes interim → IsInterim (bytes ++ t) interim
interim_stays bytes t interim h body rest m (inl due) = inl (due_stays bytes t h body rest m due.0, due.1)
interim_stays bytes t interim h body rest m (inr none) = inr ((λ due. none.0 (due_back bytes t h body rest m due)), none.1)

more_exchange : {S : Type 0} (steps : UserSteps S) (users : List User) (ends : RequestHead → Bool) (number : ℕ) (a b : Stage S) (asks : Bool) (w t : List ℕ)
    → IsExchange steps users ends number a b asks w → IsExchange steps users ends number (more a t) (more b t) asks w
more_exchange steps users ends number a b asks w t x = record {
  head = x.head;
  body = x.body;
  time = x.time;
  interim = x.interim;
  response = x.response;
  message = message_stays a.bytes t x.head x.body b.bytes x.message;
  shown = x.shown;
  answered = x.answered;
  continued = interim_stays a.bytes t x.interim x.head x.body b.bytes x.message x.continued;
  asks_is = x.asks_is;
  written_is = x.written_is;
}

pub more_exchanges : {S : Type 0} (steps : UserSteps S) (users : List User) (ends : RequestHead → Bool) (others count : ℕ) (a b : Stage S) (w t : List ℕ)
    → AreExchanges steps users ends others count a b w → AreExchanges steps users ends others count (more a t) (more b t) w
more_exchanges steps users ends others zero a b w t h = (ap (λ z. more z t) h.0, h.1)
more_exchanges steps users ends others (suc count) a b w t h =
    (more h.0 t, h.1, h.2, more_exchange steps users ends (others + 1) a h.0 false h.1 t h.3, more_exchanges steps users ends (others + 1) count h.0 b h.2 t h.4, h.5)

pub one_exchange : {S : Type 0} (steps : UserSteps S) (users : List User) (ends : RequestHead → Bool) (others count number : ℕ) (a b c : Stage S) (w v : List ℕ)
    → AreExchanges steps users ends others count a b w → number ≡ others + count + 1 → IsExchange steps users ends number b c false v
    → AreExchanges steps users ends others (suc count) a c (w ++ v)
one_exchange steps users ends others zero number a b c w v h n x =
    let e : number ≡ others + 1 = omega (arith, n) in (
      c,
      v,
      [],
      subst (λ k. IsExchange steps users ends k a c false v) e (subst (λ z. IsExchange steps users ends number z c false v) h.0 x),
      (refl, refl),
      ap (λ z. z ++ v) h.1 ∙ sym (append-nil v),
    )
one_exchange steps users ends others (suc count) number a b c w v h n x = (
  h.0,
  h.1,
  h.2 ++ v,
  h.3,
  one_exchange steps users ends (others + 1) count number h.0 b c h.2 v h.4 (omega (arith, n)) x,
  ap (λ z. z ++ v) h.5 ∙ append_assoc h.1 h.2 v,
)

-- ---- the link failed since before

pub unavailable_since : (puts low puts' : ℕ) (said : List ℕ) → puts ≤ low → SaysUnavailable low puts' said → SaysUnavailable puts puts' said
unavailable_since puts low puts' said p (inl whole) = inl whole
unavailable_since puts low puts' said p (inr cut) = inr (cut.0, cut.1, rose_before puts low puts' p cut.2)

ending_since : {S : Type 0} (steps : UserSteps S) (users : List User) (ends : RequestHead → Bool) (served : Served) (number : ℕ) (left : Option (List ℕ)) (reads mid reads' puts low puts' : ℕ)
    (a b : Stage S) (w : List ℕ) → reads ≤ mid → puts ≤ low
    → IsEnding steps users ends served number (record { left = left; reads = mid; reads_after = reads'; puts = low; puts_after = puts' }) a b w
    → IsEnding steps users ends served number (record { left = left; reads = reads; reads_after = reads'; puts = puts; puts_after = puts' }) a b w
ending_since steps users ends End number left reads mid reads' puts low puts' a b w r p e = e
ending_since steps users ends (CutOff count) number left reads mid reads' puts low puts' a b w r p e = e
ending_since steps users ends ReadFault number left reads mid reads' puts low puts' a b w r p e = (e.0, rose_before reads mid reads' r e.1)
ending_since steps users ends WriteFault number left reads mid reads' puts low puts' a b w r p e = (e.0, rose_before puts low puts' p e.1)
ending_since steps users ends Limit number left reads mid reads' puts low puts' a b w r p e = e
ending_since steps users ends NoMemory number left reads mid reads' puts low puts' a b w r p (inl e) =
    inl (record { interim = e.interim; said = e.said; same = e.same; continued = e.continued; unavailable = unavailable_since puts low puts' e.said p e.unavailable; written_is = e.written_is })
ending_since steps users ends NoMemory number left reads mid reads' puts low puts' a b w r p (inr e) = inr (record {
  head = e.head;
  body = e.body;
  time = e.time;
  interim = e.interim;
  said = e.said;
  message = e.message;
  shown = e.shown;
  begun = e.begun;
  continued = e.continued;
  unavailable = unavailable_since puts low puts' e.said p e.unavailable;
  written_is = e.written_is;
})
ending_since steps users ends (Refused status) number left reads mid reads' puts low puts' a b w r p e = e
ending_since steps users ends (Upgraded user early) number left reads mid reads' puts low puts' a b w r p e = absurd e

-- ---- the loop

-- so many requests were answered, and the connection continues
pub record Goes {S : Type 0} (steps : UserSteps S) (users : List User) (ends : RequestHead → Bool) (s s' : S) (times times' left left' held held' : Option (List ℕ)) (reads reads' puts puts' : ℕ)
    (count : ℕ) (early : List ℕ) : Type 0 where
  pub taken : List ℕ
  pub first : List ℕ
  pub consumed : Consumes left left' taken
  pub exchanges : AreExchanges steps users ends 0 count (record { state = s; times = times; bytes = taken }) (record { state = s'; times = times'; bytes = early }) first
  pub written : Appends held held' first
  pub reads_later : reads ≤ reads'
  pub puts_later : puts ≤ puts'

pub goes_on : {S : Type 0} (steps : UserSteps S) (users : List User) (ends : RequestHead → Bool) (s m s' : S) (times tm times' left lm left' held hm held' : Option (List ℕ)) (reads rm reads' puts pm puts' : ℕ)
    (count : ℕ) (early early' : List ℕ) → Goes steps users ends s m times tm left lm held hm reads rm puts pm count early
    → ServesNext steps users ends (count + 1) m s' tm times' early early' lm left' hm held' rm reads' pm puts' None → rm ≤ reads' → pm ≤ puts'
    → Goes steps users ends s s' times times' left left' held held' reads reads' puts puts' (count + 1) early'
goes_on steps users ends s m s' times tm times' left lm left' held hm held' reads rm reads' puts pm puts' count early early' g n r p =
    let longer = more_exchanges steps users ends 0 count (record { state = s; times = times; bytes = g.taken }) (record { state = m; times = tm; bytes = early }) g.first n.taken g.exchanges in
    record {
      taken = g.taken ++ n.taken;
      first = g.first ++ n.written;
      consumed = consumes_on left lm left' g.taken n.taken g.consumed n.consumed;
      exchanges = subst (λ k. AreExchanges steps users ends 0 k (record { state = s; times = times; bytes = g.taken ++ n.taken }) (record { state = s'; times = times'; bytes = early' }) (g.first ++ n.written)) (sym (add-one count))
          (one_exchange steps users ends 0 count (count + 1) (record { state = s; times = times; bytes = g.taken ++ n.taken }) (record { state = m; times = tm; bytes = early ++ n.taken }) (record { state = s'; times = times'; bytes = early' }) g.first n.written longer (omega arith) n.outcome.0);
      written = appends_on held hm held' g.first n.written g.written n.put;
      reads_later = omega (arith, g.reads_later, r);
      puts_later = omega (arith, g.puts_later, p);
    }

pub goes_to_end : {S : Type 0} (steps : UserSteps S) (users : List User) (ends : RequestHead → Bool) (s m s' : S) (times tm times' left lm left' held hm held' : Option (List ℕ)) (reads rm reads' puts pm puts' : ℕ)
    (count : ℕ) (early early' : List ℕ) (served : Served) → Goes steps users ends s m times tm left lm held hm reads rm puts pm count early → count < MAX_REQUESTS_PER_CONNECTION
    → ServesNext steps users ends (count + 1) m s' tm times' early early' lm left' hm held' rm reads' pm puts' (Some served)
    → Serves steps users ends s s' times times' left left' held held' reads reads' puts puts' served
goes_to_end steps users ends s m s' times tm times' left lm left' held hm held' reads rm reads' puts pm puts' count early early' served g low n = record {
  taken = g.taken ++ n.taken;
  count = count;
  middle = record { state = m; times = tm; bytes = early ++ n.taken };
  rest = n.rest;
  first = g.first;
  last = n.written;
  consumed = consumes_on left lm left' g.taken n.taken g.consumed n.consumed;
  within = low;
  exchanges = more_exchanges steps users ends 0 count (record { state = s; times = times; bytes = g.taken }) (record { state = m; times = tm; bytes = early }) g.first n.taken g.exchanges;
  ending = ending_since steps users ends served (count + 1) left' reads rm reads' puts pm puts' _ _ n.written g.reads_later g.puts_later n.outcome;
  written = appends_on held hm held' g.first n.written g.written n.put;
}

pub goes_none : {S : Type 0} (steps : UserSteps S) (users : List User) (ends : RequestHead → Bool) (s : S) (times left held : Option (List ℕ)) (reads puts : ℕ) (early : List ℕ) → early ≡ []
    → Goes steps users ends s s times times left left held held reads reads puts puts 0 early
goes_none steps users ends s times left held reads puts early e = subst (λ z. Goes steps users ends s s times times left left held held reads reads puts puts 0 z) (sym e) (record {
  taken = [];
  first = [];
  consumed = consumes_none left;
  exchanges = (refl, refl);
  written = appends_none held;
  reads_later = omega arith;
  puts_later = omega arith;
})

-- the request that does not end the connection is not the last that it may have
pub below_limit : (n : ℕ) → n < MAX_REQUESTS_PER_CONNECTION → is_at_limit (n + 1) ≡ false → n + 1 < MAX_REQUESTS_PER_CONNECTION
below_limit n low h = omega (arith, eqb-false (n + 1) MAX_REQUESTS_PER_CONNECTION h)

-- ---- memory ran out before anything was read

pub serves_nothing : {S : Type 0} (steps : UserSteps S) (users : List User) (ends : RequestHead → Bool) (s : S) (times left left' held held' : Option (List ℕ)) (reads reads' puts puts' : ℕ) (served : Served)
    → served ≡ NoMemory → left' ≡ left → IsUnavailablePut held held' puts puts' → Serves steps users ends s s times times left left' held held' reads reads' puts puts' served
serves_nothing steps users ends s times left left' held held' reads reads' puts puts' served e f p =
    subst (λ z. Serves steps users ends s s times times left left' held held' reads reads' puts puts' z) (sym e)
    (subst (λ z. Serves steps users ends s s times times left z held held' reads reads' puts puts' NoMemory) (sym f) (record {
      taken = [];
      count = 0;
      middle = record { state = s; times = times; bytes = [] };
      rest = [];
      first = [];
      last = p.0;
      consumed = consumes_none left;
      within = omega arith;
      exchanges = (refl, refl);
      ending = inl (record { interim = []; said = p.0; same = refl; continued = inr refl; unavailable = p.1; written_is = refl });
      written = p.2;
    }))
