-- What a client that follows an account is to hold of a kind: the objects of its records at a state
-- (RFC 8620, 5.1).
use Rattle.std.specs.Prelude.{◌≡◌, ℕ, List, Bool, Option}
use Rattle.jm_base.specs.declared.identifiers.Kind.{Kind}
use Rattle.jm_json.specs.Find.{find}
use Rattle.jm_json.specs.Order.{KeysRise}
use Rattle.jm_json.specs.Tree.{Tree}
use Rattle.mail_records.specs.Histories.{History, blobs_of, content_at}
use Rattle.mail_view.specs.CachedViews.{view_named}

-- The object of the record of a kind that an id names, as a get shows it at a position of a history
-- to a user to whom the account is read-only or not. The messages are read in the blobs of the
-- history's end.
abbrev pub view_at : Kind → History → Bool → ℕ → List ℕ → Option Tree
view_at kind h read_only k id = view_named kind (content_at h k) (blobs_of h) read_only id

-- The records are exactly the objects of a map, each under its id, in byte order of the ids: an id
-- has the object that the map gives it, and no other id is there.
pub record AreExactly (view : List ℕ → Option Tree) (records : List (List ℕ × Tree)) : Type 0 where
  pub rise : KeysRise records
  pub exactly : (id : List ℕ) → find id records ≡ view id
