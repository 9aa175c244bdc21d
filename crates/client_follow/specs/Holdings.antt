-- What a round holds of a kind between two replies (RFC 8620, 5.1 and 5.2).
use Rattle.std.specs.Prelude.{◌≡◌, ℕ, List, Bool, true, false, Option, Some, None}
use Rattle.jm_base.specs.Splices.{has}
use Rattle.jm_base.specs.declared.identifiers.Kind.{Kind}
use Rattle.jm_json.specs.Find.{find}
use Rattle.jm_json.specs.Order.{KeysRise}
use Rattle.jm_json.specs.Tree.{Tree}
use Rattle.method_args.specs.Arguments.{passes}
use Rattle.method_args.specs.Ids.{id_number}
use Rattle.reply_readers.specs.Objects.{Objects}
use Rattle.client_cache.specs.Records.{by_id}
use Rattle.client_cache.specs.Rounds.{Round}

-- the id is that of the record of the kind with one of these numbers
abbrev pub names : Kind → List ℕ → List ℕ → Bool
names kind numbers id = passes (has numbers) (id_number kind id)

-- no record
abbrev pub no_view : List ℕ → Option Tree
no_view id = None

-- A round is on the way from the objects of one state of a kind, which the client keeps, to those
-- of the state that the round now has.
-- * What it got are objects of the new state, in byte order of their ids.
-- * What it dropped is not there at the new state.
-- * An id that is not still to be asked for, of which nothing was got and which was not
--   dropped, has the same object at both states.
-- A load is on the way from no record.
pub record IsOnTheWay (kind : Kind) (before now : List ℕ → Option Tree) (r : Round) : Type 0 where
  pub rise : KeysRise r.got
  pub got : (id : List ℕ) (t : Tree) → find id r.got ≡ Some t → now id ≡ Some t
  pub gone : (id : List ℕ) → names kind r.dropped id ≡ true → now id ≡ None
  pub rest : (id : List ℕ) → names kind r.asked id ≡ false → find id r.got ≡ None
      → names kind r.dropped id ≡ false → before id ≡ now id

-- The objects of a get are those of a map, the unknown records are none of it, and each record that
-- was asked for is an object or unknown.
pub record ShowsAsked (kind : Kind) (now : List ℕ → Option Tree) (asked : List ℕ) (o : Objects)
    : Type 0 where
  pub objects : (id : List ℕ) (t : Tree) → find id (by_id kind o.objects) ≡ Some t
      → now id ≡ Some t
  pub unknown : (id : List ℕ) → names kind o.unknown id ≡ true → now id ≡ None
  pub all : (id : List ℕ) → names kind asked id ≡ true → find id (by_id kind o.objects) ≡ None
      → names kind o.unknown id ≡ true
