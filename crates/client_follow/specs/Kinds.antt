-- What a client keeps of a kind, and how a round brings it from one state to another (RFC 8620, 5.1
-- and 5.2).
use Rattle.std.specs.Prelude.{◌≡◌, ◌⊎◌, ℕ, List, [], Bool, Option, Some}
use Rattle.jm_base.specs.declared.identifiers.Kind.{Kind}
use Rattle.mail_records.specs.Histories.{History}
use Rattle.client_cache.specs.Caches.{Cached, kind_of}
use Rattle.client_cache.specs.Progress.{Progress, records_at}
use Rattle.client_cache.specs.Rounds.{Round, Step, step_after}
use Rattle.client_follow.specs.Holdings.{IsOnTheWay, no_view}
use Rattle.client_follow.specs.Lists.{IsBeginning}
use Rattle.client_follow.specs.Views.{AreExactly, view_at}

-- What is kept of a kind is exactly what the history has at a state.
pub record IsKeptAt (kind : Kind) (h : History) (read_only : Bool) (position : ℕ) (c : Cached)
    : Type 0 where
  pub state : (kind_of kind c).state ≡ Some position
  pub records : AreExactly (view_at kind h read_only position) (kind_of kind c).records

-- A round brings the kind from the state that is kept to another one, which it has now.
pub record IsBrought (kind : Kind) (h : History) (read_only : Bool) (since now : ℕ) (c : Cached)
    (r : Round) : Type 0 where
  pub kept : IsKeptAt kind h read_only since c
  pub way : IsOnTheWay kind (view_at kind h read_only since) (view_at kind h read_only now) r

-- After a reply the round is at this step, and still brings the kind to a state.
pub record IsOn (kind : Kind) (h : History) (read_only : Bool) (since now : ℕ) (next : Step)
    (p : Progress) : Type 0 where
  pub step : p.round.step ≡ next
  pub brought : IsBrought kind h read_only since now p.cache p.round

-- Or what is kept of the kind is what the history has at that state, and the round goes on with
-- what follows the kind.
pub record IsThere (kind : Kind) (h : History) (read_only : Bool) (now : ℕ) (p : Progress)
    : Type 0 where
  pub kept : IsKeptAt kind h read_only now p.cache
  pub next : p.round.step ≡ step_after kind p.cache

-- one of the two
abbrev pub GoesOn
    : Kind → History → Bool → ℕ → ℕ → Step → Progress → Type 0
GoesOn kind h read_only since now next p =
    IsOn kind h read_only since now next p ⊎ IsThere kind h read_only now p

-- ---- loads

-- A round loads the records of a kind at a state.
abbrev pub IsLoading : Kind → History → Bool → ℕ → Round → Type 0
IsLoading kind h read_only now r = IsOnTheWay kind no_view (view_at kind h read_only now) r

-- After a reply the round asks for further records of the load.
pub record IsOnLoad (kind : Kind) (h : History) (read_only : Bool) (now : ℕ) (p : Progress)
    : Type 0 where
  pub step : p.round.step ≡ records_at kind now
  pub loading : IsLoading kind h read_only now p.round

-- it does, or the kind is there
abbrev pub LoadGoesOn : Kind → History → Bool → ℕ → Progress → Type 0
LoadGoesOn kind h read_only now p =
    IsOnLoad kind h read_only now p ⊎ IsThere kind h read_only now p

-- A round that loads a kind holds the first pages of a query's list, and nothing else.
pub record HasPages (list : List ℕ) (r : Round) : Type 0 where
  pub begins : IsBeginning list r.results
  pub got : r.got ≡ []
  pub dropped : r.dropped ≡ []

-- After a page the round asks for the next one at this step.
pub record IsOnPages (list : List ℕ) (next : Step) (p : Progress) : Type 0 where
  pub step : p.round.step ≡ next
  pub pages : HasPages list p.round

-- ---- what an answer makes of the round

-- What is made of an answer is a progress of which this holds.
pub record Leads (made : Option Progress) (holds : Progress → Type 0) : Type 0 where
  pub progress : Progress
  pub is : made ≡ Some progress
  pub so : holds progress

-- The round begins at this step and holds nothing for it, and this is kept.
pub record Begins (first : Step) (c : Cached) (p : Progress) : Type 0 where
  pub step : p.round.step ≡ first
  pub cache : p.cache ≡ c
  pub asked : p.round.asked ≡ []
  pub got : p.round.got ≡ []
  pub dropped : p.round.dropped ≡ []
  pub results : p.round.results ≡ []
