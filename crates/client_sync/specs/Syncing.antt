-- What a client asks and takes in a round, and what it brings its cache to.
use Rattle.std.specs.Prelude.{◌≡◌, ◌⊎◌, ℕ, List, [], ◌∷◌, ◌++◌, Option, Some, None, option_map, Ok, ⊤}
use Rattle.jm_edge.specs.Causes.{Rose}
use Rattle.jm_edge.specs.Contents.{IsContent, IsUnknownOr, content_loaded}
use Rattle.jm_edge.specs.Exchanges.{told_with}
use Rattle.jm_edge.specs.declared.answer.Answer.{Answer}
use Rattle.jm_edge.specs.declared.answer.Asked.{Asked}
use Rattle.client_cache.specs.CacheReading.{IsTextOf}
use Rattle.client_cache.specs.Caches.{Cached, cache_text, new_cached}
use Rattle.client_cache.specs.ReplyForms.{reply_places}
use Rattle.client_cache.specs.Requests.{next_request}
use Rattle.client_cache.specs.Rounds.{Round, new_round}
use Rattle.client_cache.specs.Taking.{Explains, IsTaken}
use Rattle.client_cache.specs.declared.reply_fault.ReplyFault.TheVariants as ReplyFaults
use Rattle.client_sync.specs.declared.fault.SyncFault.{SyncFault}
use Rattle.client_sync.specs.declared.fault.SyncFault.TheVariants.{BadCache, BadReply, ExchangeFault, Moved, NoMemory, ShelfFault, TooLong}

-- ---- what is asked

-- The Session is asked for by a GET, and everything else by a POST.
abbrev pub body_of : List ℕ → Option (List ℕ)
body_of [] = None
body_of (b ∷ bs) = Some (b ∷ bs)

-- the next request of a round was asked
pub record IsNext (c : Cached) (r : Round) (a : Asked) : Type 0 where
  pub path : a.path ≡ r.path
  pub request : option_map body_of (next_request c r) ≡ Some a.body

-- what was told, and these requests with their answers
abbrev pub told_all : Option (List Asked) → List Asked → Option (List Asked)
told_all told asked = option_map (λ before. before ++ asked) told

-- ---- what is taken

-- the next request was asked, and its answer taken
pub record Steps (c : Cached) (r : Round) (a : Asked) (d : Cached) (s : Round) : Type 0 where
  pub next : IsNext c r a
  pub status : a.answer.status ≡ 200
  pub form : reply_places c r a.answer.body ≡ []
  pub taken : IsTaken c r a.answer.body d s

-- these requests were asked one after the other, and their answers taken
abbrev pub Goes : Cached → Round → List Asked → Cached → Round → Type 0
Goes c r [] d s = (d ≡ c) × (s ≡ r)
Goes c r (a ∷ rest) d s = (e : Cached) × (q : Round) × Steps c r a e q × Goes e q rest d s

-- the file says the cache; where there is none, it is a new one
abbrev pub Says : Option (List ℕ) → Cached → Type 0
Says None c = c ≡ new_cached
Says (Some bytes) c = IsTextOf bytes c

-- What was kept before, and after a load that gave this content, or none where there is no file.
pub record IsLoaded (before loaded_from : Option (Option (List ℕ))) (content : Option (List ℕ))
    : Type 0 where
  pub kept : IsUnknownOr (content_loaded (Ok content) before) loaded_from
  pub is : IsContent loaded_from content

-- what was kept before, after it was loaded, and the cache that it says
pub record Loads (before loaded_from : Option (Option (List ℕ))) (c : Cached) : Type 0 where
  pub content : Option (List ℕ)
  pub load : IsLoaded before loaded_from content
  pub says : Says content c

-- A round over these answers, from its beginning, brings the cache to this one, and nothing is left
-- to ask for.
pub record BringsTo (c : Cached) (asked : List Asked) (d : Cached) : Type 0 where
  pub round : Round
  pub goes : Goes c new_round asked d round
  pub done : next_request d round ≡ None

-- ---- why it ends early

-- an answer ends the round: its status is another than 200 (RFC 9110, 15.3.1), or it is not taken
abbrev pub IsRefused : Cached → Round → Answer → Cached → Round → SyncFault → Type 0
IsRefused c r a d s (BadReply place) =
    (¬ (a.status ≡ 200) × (place ≡ []) × (d ≡ c))
    ⊎ ((a.status ≡ 200) × Explains c r a.body d s (ReplyFaults.BadReply place))
IsRefused c r a d s (Moved had shown) =
    (a.status ≡ 200) × Explains c r a.body d s (ReplyFaults.Moved had shown)
IsRefused c r a d s TooLong = (a.status ≡ 200) × Explains c r a.body d s ReplyFaults.TooLong
IsRefused c r a d s (BadCache place) = ⊥
IsRefused c r a d s ExchangeFault = ⊥
IsRefused c r a d s ShelfFault = ⊥
IsRefused c r a d s NoMemory = ⊤

-- These requests were asked, of which the answer to the last ended the round.
pub record Ends (c : Cached) (r : Round) (asked : List Asked) (d : Cached) (e : SyncFault)
    : Type 0 where
  pub before : List Asked
  pub last : Asked
  pub mid : Cached
  pub at : Round
  pub after : Round
  pub are : asked ≡ before ++ last ∷ []
  pub goes : Goes c r before mid at
  pub next : IsNext mid at last
  pub refused : IsRefused mid at last.answer d after e

-- A fault says one thing if an answer ended the round, and another if the exchange failed. Out of
-- memory explains itself, and a file's fault is none of a round.
abbrev pub ByFault : Type 0 → Type 0 → SyncFault → Type 0
ByFault answered failed (BadReply place) = answered
ByFault answered failed (Moved had shown) = answered
ByFault answered failed TooLong = answered
ByFault answered failed ExchangeFault = failed
ByFault answered failed (BadCache place) = ⊥
ByFault answered failed ShelfFault = ⊥
ByFault answered failed NoMemory = ⊤

-- Why a round over an exchange ends early: an answer ended it, or the exchange failed, whose count
-- of faults was the first number and is the second. Where it failed, the answers before were taken.
abbrev pub Stops
    : Option (List Asked) → Option (List Asked) → ℕ → ℕ → Cached → Round → Cached → SyncFault
    → Type 0
Stops told now faults more c r d e =
    ByFault ((asked : List Asked) × (now ≡ told_all told asked) × Ends c r asked d e)
    (Rose faults more × (asked : List Asked) × (at : Round) × (now ≡ told_all told asked)
    × Goes c r asked d at)
    e

-- ---- a cache that is brought up to date

-- What was told before and now; what was kept before, after it was loaded, and now; and the cache.
pub record Synced (told now : Option (List Asked))
    (before loaded_from after : Option (Option (List ℕ))) (d : Cached) : Type 0 where
  pub loaded : Cached
  pub asked : List Asked
  pub load : Loads before loaded_from loaded
  pub tells : now ≡ told_all told asked
  pub brings : BringsTo loaded asked d
  pub saved : IsUnknownOr (Some (Some (cache_text d))) after

-- ---- for private clauses

-- why no answer came
abbrev pub IsAskFault : ℕ → ℕ → SyncFault → Type 0
IsAskFault faults more e = ByFault ⊥ (Rose faults more) e

-- the place of the whole, or out of memory
abbrev pub IsWholeFault : SyncFault → Type 0
IsWholeFault (BadReply place) = place ≡ []
IsWholeFault (Moved had shown) = ⊥
IsWholeFault TooLong = ⊥
IsWholeFault ExchangeFault = ⊥
IsWholeFault (BadCache place) = ⊥
IsWholeFault ShelfFault = ⊥
IsWholeFault NoMemory = ⊤

-- the next request was asked, and its answer ended the round
pub record EndsAt (c : Cached) (r : Round) (a : Asked) (d : Cached) (e : SyncFault) : Type 0 where
  pub after : Round
  pub next : IsNext c r a
  pub refused : IsRefused c r a.answer d after e

-- why the next request of a round was not taken
abbrev pub StopsAt
    : Option (List Asked) → Option (List Asked) → ℕ → ℕ → Cached → Round → Cached → SyncFault
    → Type 0
StopsAt told now faults more c r d e =
    ByFault ((a : Asked) × (now ≡ told_with told a) × EndsAt c r a d e)
    (Rose faults more × (now ≡ told) × (d ≡ c))
    e
