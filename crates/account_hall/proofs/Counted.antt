-- A hall that was just built has a room for each account.
use Rattle.std.proofs.Common.{◌≡◌, List, [], ◌∷◌, suc, length, refl, ap}
use Rattle.account_lock.specs.Views.{PassFacts}
use Rattle.account_hall.specs.Building.{AreBuilt}
use Rattle.account_hall.specs.Halls.{RoomView}
use Rattle.account_hall.specs.declared.named_account.Named.{Named}

pub built_count : {K R : Type 0} (accounts : List (Named K R)) (rs : List RoomView) (ks : List PassFacts) → AreBuilt accounts rs ks → length rs ≡ length accounts
built_count [] [] [] b = refl
built_count [] [] (k ∷ ks) b = absurd b
built_count [] (r ∷ rs) ks b = absurd b
built_count (a ∷ accounts) [] ks b = absurd b
built_count (a ∷ accounts) (r ∷ rs) [] b = absurd b
built_count (a ∷ accounts) (r ∷ rs) (k ∷ ks) b = ap suc (built_count accounts rs ks b.2)
