-- What a client reads of the answer to its call for the changes of a list's query (RFC 8620, 5.6).
use Rattle.std.specs.Prelude.{◌≡◌, ℕ, List, [], Some}
use Rattle.jm_base.specs.declared.identifiers.Kind.TheVariants.{Email as OfEmail}
use Rattle.jm_json.specs.Tree.{Tree}
use Rattle.mail_records.specs.Histories.{History}
use Rattle.mail_records.specs.States.{state_of}
use Rattle.method_args.specs.Outcomes.{replied}
use Rattle.filter_terms.specs.Texts.{MessageTexts}
use Rattle.query_changes.specs.Deltas.{delta_of}
use Rattle.query_changes.specs.Responses.{query_changes_outcome}
use Rattle.reply_readers.specs.Deltas.{delta_in, delta_places, delta_with}
use Rattle.client_cache.specs.Caches.{ListView}
use Rattle.client_cache.specs.Requests.{list_changes_arguments}
use Rattle.client_follow.specs.Lists.{query_of_list}

-- The call for the changes of a list's query since a state is answered, over an account with this
-- history, whose blobs have these texts; its answer has no place that is out of form; and what is
-- read of it are the changes of the query since that state, with the state of emails.
pub record IsDeltaRead (h : History) (texts : ℕ → MessageTexts) (account pointer : List ℕ)
    (l : ListView) (since : ℕ) : Type 0 where
  pub tree : Tree
  pub answer : query_changes_outcome h texts OfEmail (list_changes_arguments account l since)
      ≡ replied tree
  pub form : delta_places OfEmail account since pointer tree ≡ []
  pub read : delta_in OfEmail tree
      ≡ Some (delta_with (delta_of h (query_of_list l) texts since).added
      (delta_of h (query_of_list l) texts since).removed (state_of h OfEmail))
