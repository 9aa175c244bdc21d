-- The replies to the calls of a request, one after the other (RFC 8620, section 3.4).
use Rattle.std.specs.Prelude.{◌≡◌, ◌⊎◌, ℕ, ◌+◌, ◌≤◌, List, [], ◌∷◌, ◌++◌, Bool, cond, codes, bytes_eq}
use Rattle.jm_json.specs.Call.{Call}
use Rattle.jm_json.specs.declared.invocation.Created.{Created}
use Rattle.jm_json.specs.declared.invocation.Replied.{Replied}
use Rattle.result_refs.specs.declared.room.TheConstants.{MAX_REFERENCE_BYTES}
use Rattle.method_batch.specs.Prepared.{Preparation, refused, ready, preparation, taken_by}
use Rattle.method_batch.specs.declared.progress.Progress.{Progress}

-- a call that a port performed, with what the request had created up to then, and the port's reply
pub record Asked : Type 0 where
  pub call : Call
  pub made : List Created
  pub replied : Replied

-- A port goes from one state to another by a relation: this call, with this created up to then, may
-- have this reply. These were the calls that took the port from one state to another.
abbrev pub Runs : {S : Type 0} → (S → Call → List Created → Replied → S → Type 0) → S → List Asked
    → S → Type 0
Runs answers s [] s' = s' ≡ s
Runs {S} answers s (a ∷ rest) s' =
    (m : S) × answers s a.call a.made a.replied m × Runs answers m rest s'

abbrev pub is_echo : Call → Bool
is_echo c = bytes_eq c.name (codes "Core/echo")

-- the port performed nothing, and the reply is this response alone
abbrev pub RepliesAlone : Call → List Asked → Replied → Type 0
RepliesAlone response asked replied =
    (asked ≡ []) × (replied ≡ record { responses = response ∷ []; made = [] })

-- The reply to a call, and what the port performed for it: the reply to a rejected call is its
-- error, that to an echo is the call itself, and any other call the port performs, with its
-- arguments resolved.
abbrev pub RepliesPrepared : Preparation → List Created → List Asked → Replied → Type 0
RepliesPrepared (refused response) made asked replied = RepliesAlone response asked replied
RepliesPrepared (ready c) made asked replied =
    cond (is_echo c) (RepliesAlone c asked replied)
    (asked ≡ record { call = c; made = made; replied = replied } ∷ [])

-- the reply to a call of a request that has come up to here, and what the port performed for it
abbrev pub RepliesOne : Bool → Bool → Call → Progress → List Asked → Replied → Type 0
RepliesOne core mail c before asked replied =
    RepliesPrepared (preparation core mail c before.responses) before.made asked replied

-- the progress after a reply
abbrev pub after_reply : Progress → Replied → Progress
after_reply p r = record { responses = p.responses ++ r.responses; made = p.made ++ r.made }

-- the calls in order, each from the progress after the one before; their references took so many
-- bytes together
abbrev pub Answers : Bool → Bool → List Call → Progress → List Asked → Progress → ℕ → Type 0
Answers core mail [] before asked after taken = (asked ≡ []) × (after ≡ before) × (taken ≡ 0)
Answers core mail (c ∷ cs) before asked after taken =
    (first : List Asked) × (more : List Asked) × (replied : Replied) × (rest : ℕ)
    × (asked ≡ first ++ more) × RepliesOne core mail c before first replied
    × (taken ≡ taken_by core mail c before.responses + rest)
    × Answers core mail cs (after_reply before replied) more after rest

-- ---- of a port that goes from the state s to s'

-- one call was performed, from one progress to another
abbrev pub HasPerformed : {S : Type 0} → (S → Call → List Created → Replied → S → Type 0)
    → S → S → Bool → Bool → Call → Progress → Progress → Type 0
HasPerformed answers s s' core mail c before after =
    (asked : List Asked) × (replied : Replied) × Runs answers s asked s'
    × RepliesOne core mail c before asked replied × (after ≡ after_reply before replied)

-- The port is left so by a call that ended out of memory. A call that the port does not perform
-- leaves it as it was.
abbrev pub StopsPrepared : {S : Type 0} → (S → Call → List Created → S → Type 0)
    → S → S → Preparation → List Created → Type 0
StopsPrepared stops s s' (refused response) made = s' ≡ s
StopsPrepared stops s s' (ready c) made = cond (is_echo c) (s' ≡ s) (stops s c made s')

-- the port is left so by a call of a request that has come up to here
abbrev pub StopsOne : {S : Type 0} → (S → Call → List Created → S → Type 0)
    → S → S → Bool → Bool → Call → Progress → Type 0
StopsOne stops s s' core mail c before =
    StopsPrepared stops s s' (preparation core mail c before.responses) before.made

-- A call of a request ended out of memory: the port stopped at it, or it was performed and its
-- responses were lost. Its references took at most what there was room for.
abbrev pub StopsOrPerforms : {S : Type 0} → (S → Call → List Created → Replied → S → Type 0)
    → (S → Call → List Created → S → Type 0) → S → S → Bool → Bool → Call → Progress → ℕ → Type 0
StopsOrPerforms answers stops s s' core mail c before room =
    StopsOne stops s s' core mail c before
    ⊎ ((after : Progress) × HasPerformed answers s s' core mail c before after
    × (taken_by core mail c before.responses ≤ room))

-- The port is left so if the first of these calls ended out of memory. If there is no call, it is
-- as it was.
abbrev pub StopsAtFirst : {S : Type 0} → (S → Call → List Created → S → Type 0)
    → S → S → Bool → Bool → List Call → Progress → Type 0
StopsAtFirst stops s s' core mail [] before = s' ≡ s
StopsAtFirst stops s s' core mail (c ∷ cs) before = StopsOne stops s s' core mail c before

-- Calls of a request that ended out of memory: the first ones were performed, each once and in
-- order, the port stopped at the next one, and no other was performed. The references of those that
-- were performed took at most `MAX_REFERENCE_BYTES` together.
abbrev pub HasBegunCalls : {S : Type 0} → (S → Call → List Created → Replied → S → Type 0)
    → (S → Call → List Created → S → Type 0) → S → S → Bool → Bool → List Call → Progress → Type 0
HasBegunCalls {S} answers stops s s' core mail cs before =
    (done : List Call) × (more : List Call) × (asked : List Asked) × (after : Progress)
    × (taken : ℕ) × (m : S) × (cs ≡ done ++ more) × Runs answers s asked m
    × Answers core mail done before asked after taken × (taken ≤ MAX_REFERENCE_BYTES)
    × StopsAtFirst stops m s' core mail more after
