-- What a server writes of a /get is read as what it was: objects of records, and identifiers of
-- records that are not there, together those that were asked, each once.
use Rattle.std.specs.Prelude.{◌≡◌, ℕ, List, [], ◌∷◌, true, false, ◌||◌, Option, Some, ⊤}
use Rattle.jm_base.specs.Ids.{IsState}
use Rattle.jm_base.specs.Splices.{has}
use Rattle.jm_base.specs.declared.identifiers.Kind.{Kind}
use Rattle.jm_json.specs.Tree.{Tree}
use Rattle.method_args.specs.Ids.{id_trees}
use Rattle.method_args.specs.WrittenIds.{AreIds}
use Rattle.mail_view.specs.Gets.{reply_tree}
use Rattle.reply_readers.specs.Objects.{object_number, objects_in, objects_reply_places, objects_with}

-- no number is in the list twice
abbrev pub IsDistinct : List ℕ → Type 0
IsDistinct [] = ⊤
IsDistinct (n ∷ ns) = (has ns n ≡ false) × IsDistinct ns

-- the values are of the records with these numbers, one of each
abbrev pub AreNumbered : (Tree → Option ℕ) → List ℕ → List Tree → Type 0
AreNumbered number [] [] = ⊤
AreNumbered number [] (t ∷ ts) = ⊥
AreNumbered number (n ∷ ns) [] = ⊥
AreNumbered number (n ∷ ns) (t ∷ ts) = (number t ≡ Some n) × AreNumbered number ns ts

-- each object with its number
abbrev pub numbered : List ℕ → List Tree → List (ℕ × Tree)
numbered [] ts = []
numbered (n ∷ ns) [] = []
numbered (n ∷ ns) (t ∷ ts) = (n, t) ∷ numbered ns ts

-- The records that are there and those that are absent are together those that were asked, each
-- once; the objects are of those that are there.
pub record AreAsked (kind : Kind) (asked there absent : List ℕ) (objects : List Tree) : Type 0 where
  pub there_once : IsDistinct there
  pub absent_once : IsDistinct absent
  pub apart : (n : ℕ) → has there n ≡ true → has absent n ≡ false
  pub together : (n : ℕ) → has asked n ≡ (has there n || has absent n)
  pub are_of : AreNumbered (object_number kind) there objects
  pub ids : AreIds kind absent

abbrev pub ObjectsReadBack : Type 0
ObjectsReadBack =
    (kind : Kind) (account pointer asked there absent : List ℕ) (objects : List Tree) (state : ℕ)
    → AreAsked kind asked there absent objects → IsState state
    → (objects_reply_places kind account asked pointer
    (reply_tree account objects (id_trees kind absent) state)
    ≡ [])
    × (objects_in kind (reply_tree account objects (id_trees kind absent) state)
    ≡ Some (objects_with (numbered there objects) absent state))
