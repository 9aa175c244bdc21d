-- What a world gave to a server, and what it took back, one after the other.
use Rattle.std.specs.Prelude.{◌≡◌, ℕ, List, [], ◌∷◌, ◌++◌, Option, option_map, Result, Ok, Err}
use Rattle.jmap_server.specs.declared.finished.Finished.{Finished}

-- a keeper, and the account for which it was asked
pub record Lent (K : Type 0) : Type 0 where
  pub account : List ℕ
  pub keeper : K

-- One thing that a world gave or took: the bytes of the file with a name, the keeper of an account
-- in a folder, the port to listen on, a line, a clock or a gate that it gave; a line or a keeper
-- that came back.
pub data Deed (K L C : Type 0) : Type 0 where
  ReadText : (name bytes : List ℕ) → Deed K L C
  GaveKeeper : (folder : List ℕ) → Lent K → Deed K L C
  Listened : ℕ → Deed K L C
  GaveLine : L → Deed K L C
  GaveClock : C → Deed K L C
  GaveGate : Deed K L C
  GotLine : Finished L → Deed K L C
  GotKeeper : Lent K → Deed K L C

-- these came after what was there, if that is known
abbrev pub IsTold : {K L C : Type 0} → Option (List (Deed K L C)) → Option (List (Deed K L C))
    → List (Deed K L C) → Type 0
IsTold old new did = new ≡ option_map (λ ds. ds ++ did) old

-- what a call did that did this if it returned Ok, and else nothing
abbrev pub deed_if : {T E K L C : Type 0} → Result T E → (T → Deed K L C) → List (Deed K L C)
deed_if (Ok x) deed = deed x ∷ []
deed_if (Err e) deed = []

-- the keeper of this account in a folder was given
abbrev pub gave : {K L C : Type 0} → List ℕ → Lent K → Deed K L C
gave folder lent = GaveKeeper folder lent

-- a keeper and its account
abbrev pub lent_for : {K : Type 0} → List ℕ → K → Lent K
lent_for account keeper = record { account = account; keeper = keeper }

abbrev pub account_of : {K : Type 0} → Lent K → List ℕ
account_of lent = lent.account
