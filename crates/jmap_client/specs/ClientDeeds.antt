-- What a client's world gave, and what it took back, one after the other.
use Rattle.std.specs.Prelude.{◌≡◌, ℕ, List, [], ◌∷◌, ◌++◌, Option, option_map, Result, Ok, Err}

-- One thing that a world gave or took: an exchange with a server of this host and port, which it
-- authenticates to by this token, or the shelf of the file of this name; or an exchange or a shelf
-- that came back, the shelf under the name of its file.
pub data ClientDeed (X F : Type 0) : Type 0 where
  GaveTalk : (host : List ℕ) → (port : ℕ) → (token : List ℕ) → X → ClientDeed X F
  GaveStore : (name : List ℕ) → F → ClientDeed X F
  GotTalk : X → ClientDeed X F
  GotStore : (name : List ℕ) → F → ClientDeed X F

-- these came after what was there, if that is known
abbrev pub IsTold : {X F : Type 0} → Option (List (ClientDeed X F)) → Option (List (ClientDeed X F))
    → List (ClientDeed X F) → Type 0
IsTold old new did = new ≡ option_map (λ ds. ds ++ did) old

-- what a call did that did this if it returned Ok, and else nothing
abbrev pub deed_if : {T E X F : Type 0} → Result T E → (T → ClientDeed X F)
    → List (ClientDeed X F)
deed_if (Ok x) deed = deed x ∷ []
deed_if (Err e) deed = []
