-- What each step of a port keeps, a whole connection keeps.
use Rattle.std.proofs.Common.{◌≡◌, ◌⊎◌, inl, inr, ℕ, zero, suc, ◌+◌, Bool, true, false, cond, List, [], ◌∷◌, Option, Some, None, nat_lt, length, sym, ap, subst}
use Rattle.httparse.specs.Grammar.{RequestHead}
use Rattle.jm_base.specs.declared.limits.TheConstants.{MAX_REQUEST_BYTES}
use Rattle.jm_json.specs.Call.{Call}
use Rattle.jm_json.specs.Reading.{Reading, not_json, not_whole, whole, reading_of}
use Rattle.jm_json.specs.declared.invocation.Created.{Created}
use Rattle.jm_json.specs.declared.invocation.Replied.{Replied}
use Rattle.method_batch.specs.Answer.{Asked, HasBegunCalls, Runs, StopsAtFirst, StopsPrepared, is_echo}
use Rattle.method_batch.specs.Method.{core_capability, mail_capability}
use Rattle.method_batch.specs.Outcome.{HasBegunAnswer, HasBegunBy as HasBegunRequestBy, HasBegunReading, HasBegunUnless, IsAnswer, IsAnswerBy, IsOutcomeBy, IsOutcomeUnless, beginning}
use Rattle.method_batch.specs.Prepared.{Preparation, preparation, ready, refused}
use Rattle.method_batch.specs.Request.{problem_in, request_of, uses}
use Rattle.method_batch.specs.declared.outcome.Outcome.{Outcome}
use Rattle.method_batch.specs.declared.outcome.Problem.{Problem}
use Rattle.method_batch.specs.declared.progress.Progress.{Progress}
use Rattle.method_batch.specs.declared.request.Request.{Request}
use Rattle.jmap_http.specs.Connections.{AreExchanges, IsCutShort, IsEnding, IsExchange, LinkSeen, Serves, Stage, asked_of}
use Rattle.jmap_http.specs.Responses.{AskedRequest, HasBegunApi, HasBegunBlob, HasBegunBy, HasBegunRequest, HasBegunResource, HasBegunUpload, IsResourceResponse, IsResponse, IsResponseBy, is_refused}
use Rattle.jmap_http.specs.Authorization.{user_of}
use Rattle.jmap_http.specs.Steps.{UserSteps}
use Rattle.jmap_http.specs.Targets.{ApiResource, BlobResource, Missing, Resource, SessionResource, UploadResource, resource_of}
use Rattle.jmap_http.specs.declared.port.Stored.{Stored}
use Rattle.jmap_http.specs.declared.response.Response.{Response}
use Rattle.jmap_http.specs.declared.served.Served.{Served}
use Rattle.jmap_http.specs.declared.served.Served.TheVariants.{CutOff, End, Limit, NoMemory, ReadFault, Refused, Upgraded, WriteFault}
use Rattle.server_users.specs.declared.users.User.{User}
use Rattle.server_users.specs.declared.users.UserAccount.{UserAccount}

-- a relation of states that each step keeps
pub record IsKeptBySteps {S : Type 0} (steps : UserSteps S) (K : S → S → Type 0) : Type 0 where
  pub stay : (s : S) → K s s
  pub go : (s m s' : S) → K s m → K m s' → K s s'
  pub begins : (s : S) (user time : ℕ) (s' : S) → steps.begins s user time s' → K s s'
  pub answers : (s : S) (c : Call) (made : List Created) (r : Replied) (s' : S) → steps.answers s c made r s' → K s s'
  pub stops : (s : S) (c : Call) (made : List Created) (s' : S) → steps.stops s c made s' → K s s'
  pub uploads : (s : S) (account : ℕ) (bytes : List ℕ) (stored : Stored) (s' : S) → steps.uploads s account bytes stored s' → K s s'
  pub upload_stops : (s : S) (account : ℕ) (bytes : List ℕ) (s' : S) → steps.upload_stops s account bytes s' → K s s'
  pub reads : (s : S) (account : ℕ) (blob : List ℕ) (o : Option (List ℕ)) (s' : S) → steps.reads s account blob o s' → K s s'
  pub read_stops : (s : S) (account : ℕ) (blob : List ℕ) (s' : S) → steps.read_stops s account blob s' → K s s'

pub by_cond : (b : Bool) (A B C : Type 0) → (A → C) → (B → C) → cond b A B → C
by_cond true A B C f g h = f h
by_cond false A B C f g h = g h

module _ {S : Type 0} (steps : UserSteps S) (K : S → S → Type 0) (kept : IsKeptBySteps steps K) where
  pub still : (s s' : S) → s' ≡ s → K s s'
  still s s' is = subst (K s) (sym is) (kept.stay s)

  -- ---- a request

  runs : (s : S) (asked : List Asked) (s' : S) → Runs steps.answers s asked s' → K s s'
  runs s [] s' is = still s s' is
  runs s (a ∷ rest) s' (m, first, more) = kept.go s m s' (kept.answers s a.call a.made a.replied m first) (runs m rest s' more)

  unless : (s s' : S) (r : Request) (o : Outcome) (p : Option Problem) → IsOutcomeUnless steps.answers s s' r p o → K s s'
  unless s s' r o None w = runs s w.0 s' w.3
  unless s s' r o (Some p) w = still s s' w.0

  by_request : (s s' : S) (o : Outcome) (r : Option Request) → IsOutcomeBy steps.answers s s' r o → K s s'
  by_request s s' o None w = still s s' w.0
  by_request s s' o (Some r) w = unless s s' r o (problem_in r) w

  by_reading : (s s' : S) (o : Outcome) (x : Reading) → IsAnswerBy steps.answers s s' x o → K s s'
  by_reading s s' o not_json w = still s s' w.0
  by_reading s s' o (not_whole path) w = still s s' w.0
  by_reading s s' o (whole t) w = by_request s s' o (request_of t) w

  pub answer : (s s' : S) (bytes : List ℕ) (o : Outcome) → IsAnswer steps.answers s s' bytes o → K s s'
  answer s s' bytes o w = by_cond (nat_lt MAX_REQUEST_BYTES (length bytes)) _ _ _ (λ u. still s s' u.0) (by_reading s s' o (reading_of bytes)) w

  prepared : (s s' : S) (p : Preparation) (made : List Created) → StopsPrepared steps.stops s s' p made → K s s'
  prepared s s' (refused response) made is = still s s' is
  prepared s s' (ready c) made w = by_cond (is_echo c) _ _ _ (still s s') (kept.stops s c made s') w

  at_first : (s s' : S) (core mail : Bool) (cs : List Call) (before : Progress) → StopsAtFirst steps.stops s s' core mail cs before → K s s'
  at_first s s' core mail [] before is = still s s' is
  at_first s s' core mail (c ∷ cs) before w = prepared s s' (preparation core mail c before.responses) before.made w

  begun_calls : (s s' : S) (core mail : Bool) (cs : List Call) (before : Progress) → HasBegunCalls steps.answers steps.stops s s' core mail cs before → K s s'
  begun_calls s s' core mail cs before (done, more, asked, after, taken, m, is, ran, replies, few, stop) = kept.go s m s' (runs s asked m ran) (at_first m s' core mail more after stop)

  begun_unless : (s s' : S) (r : Request) (p : Option Problem) → HasBegunUnless steps.answers steps.stops s s' r p → K s s'
  begun_unless s s' r None w = begun_calls s s' (uses core_capability r.using) (uses mail_capability r.using) r.calls (beginning r.created) w
  begun_unless s s' r (Some p) is = still s s' is

  begun_request : (s s' : S) (r : Option Request) → HasBegunRequestBy steps.answers steps.stops s s' r → K s s'
  begun_request s s' None is = still s s' is
  begun_request s s' (Some r) w = begun_unless s s' r (problem_in r) w

  begun_reading : (s s' : S) (x : Reading) → HasBegunReading steps.answers steps.stops s s' x → K s s'
  begun_reading s s' not_json is = still s s' is
  begun_reading s s' (not_whole path) is = still s s' is
  begun_reading s s' (whole t) w = begun_request s s' (request_of t) w

  pub begun_answer : (s s' : S) (bytes : List ℕ) → HasBegunAnswer steps.answers steps.stops s s' bytes → K s s'
  begun_answer s s' bytes w = by_cond (nat_lt MAX_REQUEST_BYTES (length bytes)) _ _ _ (still s s') (begun_reading s s' (reading_of bytes)) w

  -- ---- a response

  resource : (s s' : S) (index time : ℕ) (user : User) (fields : List (List ℕ × List ℕ)) (body : List ℕ) (r : Response) (x : Resource)
      → IsResourceResponse steps s s' index time user fields body x r → K s s'
  resource s s' index time user fields body r Missing w = still s s' w.0
  resource s s' index time user fields body r SessionResource w = still s s' w.0
  resource s s' index time user fields body r ApiResource (m, begun, (o, is, shown)) = kept.go s m s' (kept.begins s index time m begun) (answer m s' body o is)
  resource s s' index time user fields body r (UploadResource a) (m, begun, (stored, is, shown)) = kept.go s m s' (kept.begins s index time m begun) (kept.uploads m a.number body stored s' is)
  resource s s' index time user fields body r (BlobResource a blob accept) (m, begun, (o, is, shown)) = kept.go s m s' (kept.begins s index time m begun) (kept.reads m a.number blob o s' is)

  response_by : (users : List User) (s s' : S) (time : ℕ) (q : AskedRequest) (r : Response) (o : Option ℕ) → IsResponseBy steps users s s' time q o r → K s s'
  response_by users s s' time q r None w = still s s' w.0
  response_by users s s' time q r (Some index) (user, is, w) =
      by_cond (is_refused (resource_of user.accounts q.target) q.method) _ _ _ (λ u. still s s' u.0) (resource s s' index time user q.fields q.body r (resource_of user.accounts q.target)) w

  response : (users : List User) (s s' : S) (time : ℕ) (q : AskedRequest) (r : Response) → IsResponse steps users s s' time q r → K s s'
  response users s s' time q r w = response_by users s s' time q r (user_of users q.fields) w

  begun_api : (s s' : S) (body : List ℕ) → HasBegunApi steps s s' body → K s s'
  begun_api s s' body (inl w) = begun_answer s s' body w
  begun_api s s' body (inr (o, is)) = answer s s' body o is

  begun_upload : (s s' : S) (a : UserAccount) (body : List ℕ) → HasBegunUpload steps s s' a body → K s s'
  begun_upload s s' a body (inl w) = kept.upload_stops s a.number body s' w
  begun_upload s s' a body (inr (stored, is)) = kept.uploads s a.number body stored s' is

  begun_blob : (s s' : S) (a : UserAccount) (blob : List ℕ) → HasBegunBlob steps s s' a blob → K s s'
  begun_blob s s' a blob (inl w) = kept.read_stops s a.number blob s' w
  begun_blob s s' a blob (inr (o, is)) = kept.reads s a.number blob o s' is

  begun_resource : (s s' : S) (index time : ℕ) (body : List ℕ) (x : Resource) → HasBegunResource steps s s' index time body x → K s s'
  begun_resource s s' index time body Missing is = still s s' is
  begun_resource s s' index time body SessionResource is = still s s' is
  begun_resource s s' index time body ApiResource (m, begun, w) = kept.go s m s' (kept.begins s index time m begun) (begun_api m s' body w)
  begun_resource s s' index time body (UploadResource a) (inl is) = still s s' is
  begun_resource s s' index time body (UploadResource a) (inr (m, begun, w)) = kept.go s m s' (kept.begins s index time m begun) (begun_upload m s' a body w)
  begun_resource s s' index time body (BlobResource a blob accept) (m, begun, w) = kept.go s m s' (kept.begins s index time m begun) (begun_blob m s' a blob w)

  begun_by : (users : List User) (s s' : S) (time : ℕ) (q : AskedRequest) (o : Option ℕ) → HasBegunBy steps users s s' time q o → K s s'
  begun_by users s s' time q None is = still s s' is
  begun_by users s s' time q (Some index) (user, is, w) =
      by_cond (is_refused (resource_of user.accounts q.target) q.method) _ _ _ (still s s') (begun_resource s s' index time q.body (resource_of user.accounts q.target)) w

  begun : (users : List User) (s s' : S) (time : ℕ) (q : AskedRequest) → HasBegunRequest steps users s s' time q → K s s'
  begun users s s' time q w = begun_by users s s' time q (user_of users q.fields) w

  -- ---- a connection

  same_stage : (x y : Stage S) → y ≡ x → K x.state y.state
  same_stage x y is = still x.state y.state (ap (λ (z : Stage S). z.state) is)

  exchange : (users : List User) (ends : RequestHead → Bool) (n : ℕ) (x y : Stage S) (asks : Bool) (written : List ℕ) → IsExchange steps users ends n x y asks written → K x.state y.state
  exchange users ends n x y asks written w = response users x.state y.state w.time (asked_of w.head w.body) w.response w.answered

  exchanges : (users : List User) (ends : RequestHead → Bool) (others count : ℕ) (x y : Stage S) (written : List ℕ) → AreExchanges steps users ends others count x y written → K x.state y.state
  exchanges users ends others zero x y written w = same_stage x y w.0
  exchanges users ends others (suc count) x y written (m, first, more, one, rest, is) =
      kept.go x.state m.state y.state (exchange users ends (others + 1) x m false first one) (exchanges users ends (others + 1) count m y more rest)

  cut_short : (users : List User) (ends : RequestHead → Bool) (n : ℕ) (x y : Stage S) (written : List ℕ) → IsCutShort steps users ends n x y written → K x.state y.state
  cut_short users ends n x y written (size, all, is, inl w) = same_stage x y w.0
  cut_short users ends n x y written (size, all, is, inr (inl (asks, w))) = exchange users ends n x y asks all w
  cut_short users ends n x y written (size, all, is, inr (inr (status, w))) = same_stage x y w.same

  lost : (users : List User) (x y : Stage S) (time : ℕ) (q : AskedRequest) → HasBegunRequest steps users x.state y.state time q ⊎ ((r : Response) × IsResponse steps users x.state y.state time q r) → K x.state y.state
  lost users x y time q (inl w) = begun users x.state y.state time q w
  lost users x y time q (inr (r, w)) = response users x.state y.state time q r w

  ending : (users : List User) (ends : RequestHead → Bool) (served : Served) (n : ℕ) (link : LinkSeen) (x y : Stage S) (written : List ℕ)
      → IsEnding steps users ends served n link x y written → K x.state y.state
  ending users ends End n link x y written (inl (left, at_end, none)) = same_stage x y left.0
  ending users ends End n link x y written (inr w) = exchange users ends n x y true written w
  ending users ends (CutOff count) n link x y written w = same_stage x y w.0.0
  ending users ends ReadFault n link x y written w = same_stage x y w.0.0
  ending users ends WriteFault n link x y written w = cut_short users ends n x y written w.0
  ending users ends Limit n link x y written w = exchange users ends n x y false written w.0
  ending users ends NoMemory n link x y written (inl w) = same_stage x y w.same
  ending users ends NoMemory n link x y written (inr w) = lost users x y w.time (asked_of w.head w.body) w.begun
  ending users ends (Refused status) n link x y written w = same_stage x y w.same
  ending users ends (Upgraded user early) n link x y written w = absurd w

  pub through : (users : List User) (ends : RequestHead → Bool) (s s' : S) (times times' left left' held held' : Option (List ℕ)) (reads reads' puts puts' : ℕ) (served : Served)
      → Serves steps users ends s s' times times' left left' held held' reads reads' puts puts' served → K s s'
  through users ends s s' times times' left left' held held' reads reads' puts puts' served w =
      kept.go s w.middle.state s'
      (exchanges users ends 0 w.count (record { state = s; times = times; bytes = w.taken }) w.middle w.first w.exchanges)
      (ending users ends served (w.count + 1) _ w.middle (record { state = s'; times = times'; bytes = w.rest }) w.last w.ending)
