-- Replies to calls one after another, and what the port was asked for them.
use Rattle.std.proofs.Common.{◌≡◌, inl, inr, ℕ, ◌+◌, ◌≤◌, arith, List, [], ◌∷◌, ◌++◌, map, length, nat_lt, cond, Bool, true, false, Option, Some, None, option_to_list, Result, Ok, Err, IfOk, OnOk, OnErr, refl, sym, ap, ◌∙◌, subst, append_assoc, append-nil}
use Rattle.jm_base.specs.declared.memory.NoMemory.{NoMemory}
use Rattle.jm_json.specs.Tree.{Tree}
use Rattle.jm_json.specs.Call.{Call}
use Rattle.jm_json.specs.Invocations.{call_of}
use Rattle.jm_json.specs.Reading.{Reading, not_json, not_whole, whole, reading_of}
use Rattle.jm_json.specs.declared.invocation.Created.{Created}
use Rattle.jm_json.specs.declared.invocation.Invocation.{Invocation}
use Rattle.jm_json.specs.declared.invocation.Replied.{Replied}
use Rattle.jm_base.specs.declared.limits.TheConstants.{MAX_REQUEST_BYTES}
use Rattle.method_batch.specs.Method.{core_capability, mail_capability}
use Rattle.method_batch.specs.Request.{request_of, problem_in, uses}
use Rattle.result_refs.specs.declared.room.TheConstants.{MAX_REFERENCE_BYTES}
use Rattle.method_batch.specs.Prepared.{Preparation, refused, ready, preparation, taken_by}
use Rattle.method_batch.specs.Answer.{Asked, Runs, RepliesPrepared, RepliesOne, Answers, StopsPrepared, StopsAtFirst, StopsOrPerforms, HasBegunCalls, after_reply, is_echo}
use Rattle.method_batch.specs.Outcome.{HasBegunRequest, HasBegunUnless, HasBegunBy, HasBegun, HasBegunReading, HasBegunAnswer, beginning}
use Rattle.method_batch.specs.declared.outcome.Problem.{Problem}
use Rattle.method_batch.specs.declared.progress.Progress.{Progress}
use Rattle.method_batch.specs.declared.request.Request.{Request}

-- a ready call that is no echo is what the port replies
pub port_replied : {S E : Type 0} (answers : S → Call → List Created → Replied → S → Type 0) (s s' : S) (c : Call) (made : List Created) (r : Result Replied E)
    → is_echo c ≡ false → IfOk r (λ x. answers s c made x s') → IfOk r (λ x. (asked : List Asked) × Runs answers s asked s' × RepliesPrepared (ready c) made asked x)
port_replied answers s s' c made (Ok x) e h = (record { call = c; made = made; replied = x } ∷ [], (s', h, refl), rw (e) refl)
port_replied answers s s' c made (Err y) e h = tt

-- a ready call that is no echo leaves the port as the port stops
pub port_stopped : {S T E : Type 0} (stops : S → Call → List Created → S → Type 0) (s s' : S) (c : Call) (made : List Created) (r : Result T E)
    → is_echo c ≡ false → OnErr r (stops s c made s') → OnErr r (StopsPrepared stops s s' (ready c) made)
port_stopped stops s s' c made (Ok x) e h = tt
port_stopped stops s s' c made (Err y) e h = rw e h

abbrev pub Stays : {S : Type 0} → (S → Call → List Created → S → Type 0) → Type 0
Stays {S} stops = (s : S) (c : Call) (made : List Created) → stops s c made s

ready_stays : {S : Type 0} (stops : S → Call → List Created → S → Type 0) (s : S) (echo : Bool) (c : Call) (made : List Created) → Stays stops → cond echo (s ≡ s) (stops s c made s)
ready_stays stops s true c made stays = refl
ready_stays stops s false c made stays = stays s c made

-- a port that is as it was may have stopped at any call
pub prepared_stays : {S : Type 0} (stops : S → Call → List Created → S → Type 0) (s : S) (p : Preparation) (made : List Created) → Stays stops → StopsPrepared stops s s p made
prepared_stays stops s (refused response) made stays = refl
prepared_stays stops s (ready c) made stays = ready_stays stops s (is_echo c) c made stays

pub first_stays : {S : Type 0} (stops : S → Call → List Created → S → Type 0) (s : S) (core mail : Bool) (cs : List Call) (before : Progress) → Stays stops → StopsAtFirst stops s s core mail cs before
first_stays stops s core mail [] before stays = refl
first_stays stops s core mail (c ∷ cs) before stays = prepared_stays stops s (preparation core mail c before.responses) before.made stays

-- a call that was replied was performed, also where its responses were not kept
pub may_have : {S : Type 0} (answers : S → Call → List Created → Replied → S → Type 0) (stops : S → Call → List Created → S → Type 0) (s s' : S) (core mail : Bool) (c : Call) (before : Progress) (room : ℕ) (replied : Replied) (r : Result (Unit {0}) NoMemory)
    → ((asked : List Asked) × Runs answers s asked s' × RepliesOne core mail c before asked replied) → taken_by core mail c before.responses ≤ room → OnErr r (StopsOrPerforms answers stops s s' core mail c before room)
may_have answers stops s s' core mail c before room replied (Ok u) h few = tt
may_have answers stops s s' core mail c before room replied (Err e) h few = inr (after_reply before replied, (h.0, replied, h.1, h.2, refl), few)

pub runs_on : {S : Type 0} (answers : S → Call → List Created → Replied → S → Type 0) (s m s' : S) (before after : List Asked) → Runs answers s before m → Runs answers m after s' → Runs answers s (before ++ after) s'
runs_on {S} answers s m s' [] after h k = subst (λ (x : S). Runs answers x after s') h k
runs_on answers s m s' (a ∷ before) after h k = (h.0, h.1, runs_on answers h.0 m s' before after h.2 k)

pub answers_on : (core mail : Bool) (cs : List Call) (c : Call) (asked first : List Asked) (before p after : Progress) (replied : Replied) (taken : ℕ)
    → Answers core mail cs before asked p taken → RepliesOne core mail c p first replied → after ≡ after_reply p replied → Answers core mail (cs ++ c ∷ []) before (asked ++ first) after (taken + taken_by core mail c p.responses)
answers_on core mail [] c asked first before p after replied taken h one is =
    let same : taken_by core mail c p.responses ≡ taken_by core mail c before.responses = ap (λ (x : Progress). taken_by core mail c x.responses) h.1 in
    let none = h.2 in
    (first, [], replied, 0, ap (λ (xs : List Asked). xs ++ first) h.0 ∙ sym (append-nil first), subst (λ (x : Progress). RepliesOne core mail c x first replied) h.1 one, omega (arith, same, none), (refl, is ∙ ap (λ (x : Progress). after_reply x replied) h.1, refl))
answers_on core mail (d ∷ cs) c asked first before p after replied taken (front, more, said, left, e, o, sum, rest) one is =
    (front, more ++ first, said, left + taken_by core mail c p.responses, ap (λ (xs : List Asked). xs ++ first) e ∙ append_assoc front more first, o, omega (arith, sum), answers_on core mail cs c more first (after_reply before said) p after replied left rest one is)

-- the calls with the next one taken off the rest
pub next_call : (calls done : List Call) (rest more : List Invocation) (i : Invocation) → calls ≡ done ++ map call_of rest → rest ≡ option_to_list (Some i) ++ more → calls ≡ (done ++ call_of i ∷ []) ++ map call_of more
next_call calls done rest more i e step = e ∙ ap (λ (xs : List Invocation). done ++ map call_of xs) step ∙ sym (append_assoc done (call_of i ∷ []) (map call_of more))

-- what was done by a call that found no memory
pub begun : {S : Type 0} (answers : S → Call → List Created → Replied → S → Type 0) (stops : S → Call → List Created → S → Type 0) (s m s' : S) (core mail : Bool) (calls done more : List Call) (c : Call) (asked : List Asked) (start p : Progress) (taken room : ℕ)
    → Stays stops → calls ≡ (done ++ c ∷ []) ++ more → Runs answers s asked m → Answers core mail done start asked p taken → taken + room ≤ MAX_REFERENCE_BYTES → StopsOrPerforms answers stops m s' core mail c p room → HasBegunCalls answers stops s s' core mail calls start
begun {S} answers stops s m s' core mail calls done more c asked start p taken room stays e runs here few (inl stopped) =
    (done, c ∷ more, asked, p, taken, m, e ∙ append_assoc done (c ∷ []) more, runs, here, omega (arith, few), stopped)
begun {S} answers stops s m s' core mail calls done more c asked start p taken room stays e runs here few (inr (after, (first, replied, then, one, is), less)) =
    (done ++ c ∷ [], more, asked ++ first, after, taken + taken_by core mail c p.responses, s', e, runs_on answers s m s' asked first runs then, answers_on core mail done c asked first start p after replied taken here one is, omega (arith, few, less), first_stays stops s' core mail more after stays)

-- all were performed, also where the Response found no memory
pub all_begun : {S T : Type 0} (answers : S → Call → List Created → Replied → S → Type 0) (stops : S → Call → List Created → S → Type 0) (s s' : S) (core mail : Bool) (r : Request) (start after : Progress) (x : Result T NoMemory)
    → core ≡ uses core_capability r.using → mail ≡ uses mail_capability r.using → start ≡ beginning r.created
    → ((asked : List Asked) × (taken : ℕ) × Runs answers s asked s' × Answers core mail r.calls start asked after taken × (taken ≤ MAX_REFERENCE_BYTES)) → OnErr x (HasBegunRequest answers stops s s' r)
all_begun answers stops s s' core mail r start after (Ok y) c m b h = tt
all_begun answers stops s s' core mail r start after (Err y) c m b h = rw (sym c, sym m, sym b) (r.calls, [], h.0, after, h.1, s', sym (append-nil r.calls), h.2, h.3, h.4, refl)

pub on_ok : {T E : Type 0} (P : Type 0) (r : Result T E) → P → OnOk r P
on_ok P (Ok x) h = h
on_ok P (Err e) h = tt

pub on_err : {T E : Type 0} (P : Type 0) (r : Result T E) → P → OnErr r P
on_err P (Ok x) h = tt
on_err P (Err e) h = h

-- ---- a request of which nothing was begun

module _ {S : Type 0} (answers : S → Call → List Created → Replied → S → Type 0) (stops : S → Call → List Created → S → Type 0) (stays : Stays stops) where
  calls_not_begun : (s : S) (core mail : Bool) (cs : List Call) (p : Progress) → HasBegunCalls answers stops s s core mail cs p
  calls_not_begun s core mail cs p = ([], cs, [], p, 0, s, refl, refl, (refl, refl, refl), omega arith, first_stays stops s core mail cs p stays)

  unless_not_begun : (s : S) (r : Request) (p : Option Problem) → HasBegunUnless answers stops s s r p
  unless_not_begun s r None = calls_not_begun s (uses core_capability r.using) (uses mail_capability r.using) r.calls (beginning r.created)
  unless_not_begun s r (Some p) = refl

  request_not_begun : (s : S) (r : Option Request) → HasBegunBy answers stops s s r
  request_not_begun s None = refl
  request_not_begun s (Some r) = unless_not_begun s r (problem_in r)

  pub tree_not_begun : (s s' : S) (t : Tree) → s' ≡ s → HasBegun answers stops s s' t
  tree_not_begun s s' t e = subst (λ (x : S). HasBegun answers stops s x t) (sym e) (request_not_begun s (request_of t))

  pub form_not_begun : (s s' : S) (r : Option Request) → s' ≡ s → HasBegunBy answers stops s s' r
  form_not_begun s s' r e = subst (λ (x : S). HasBegunBy answers stops s x r) (sym e) (request_not_begun s r)

  pub reading_not_begun : (s : S) (r : Reading) → HasBegunReading answers stops s s r
  reading_not_begun s not_json = refl
  reading_not_begun s (not_whole path) = refl
  reading_not_begun s (whole t) = request_not_begun s (request_of t)

  long_not_begun : (s : S) (long : Bool) (r : Reading) → cond long (s ≡ s) (HasBegunReading answers stops s s r)
  long_not_begun s true r = refl
  long_not_begun s false r = reading_not_begun s r

  -- nothing was begun of the bytes of a request
  pub not_begun : (s s' : S) (bytes : List ℕ) → s' ≡ s → HasBegunAnswer answers stops s s' bytes
  not_begun s s' bytes e = subst (λ (x : S). HasBegunAnswer answers stops s x bytes) (sym e) (long_not_begun s (nat_lt MAX_REQUEST_BYTES (length bytes)) (reading_of bytes))
