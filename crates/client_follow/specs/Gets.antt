-- What a client reads of the answer to its get (RFC 8620, 5.1).
use Rattle.std.specs.Prelude.{◌≡◌, ℕ, List, [], Bool, map, Some}
use Rattle.jm_base.specs.declared.identifiers.Kind.{Kind}
use Rattle.jm_json.specs.Tree.{Tree}
use Rattle.mail_records.specs.Histories.{History, blobs_of, content_of}
use Rattle.mail_records.specs.States.{state_of}
use Rattle.mail_view.specs.CachedViews.{client_get, view_named}
use Rattle.mail_view.specs.Gets.{get_of_kind, got}
use Rattle.reply_readers.specs.Objects.{Objects, objects_in, objects_reply_places}
use Rattle.client_cache.specs.Requests.{id_of}
use Rattle.client_follow.specs.Holdings.{ShowsAsked}

-- The get of these records at the end of a history is answered, its answer has no place that is out
-- of form, and what is read of it is the state of the kind and the objects that the history has of
-- these records.
pub record IsRead (kind : Kind) (h : History) (read_only : Bool) (account pointer asked : List ℕ)
    : Type 0 where
  pub tree : Tree
  pub objects : Objects
  pub answer : get_of_kind kind h (client_get kind account (map (id_of kind) asked)) read_only
      ≡ got tree
  pub form : objects_reply_places kind account asked pointer tree ≡ []
  pub read : objects_in kind tree ≡ Some objects
  pub state : objects.state ≡ state_of h kind
  pub shows : ShowsAsked kind (view_named kind (content_of h) (blobs_of h) read_only) asked objects
