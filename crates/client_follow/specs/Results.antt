-- What a client reads of the answer to its query (RFC 8620, 5.5).
use Rattle.std.specs.Prelude.{◌≡◌, ℕ, List, [], Some}
use Rattle.jm_base.specs.declared.identifiers.Kind.{Kind}
use Rattle.jm_json.specs.Tree.{Tree}
use Rattle.mail_records.specs.Histories.{History, content_of}
use Rattle.mail_records.specs.States.{state_of}
use Rattle.method_args.specs.Outcomes.{replied}
use Rattle.filter_terms.specs.Texts.{MessageTexts}
use Rattle.query_engine.specs.Responses.{query_outcome}
use Rattle.reply_readers.specs.Results.{results_in, results_places, results_with}
use Rattle.client_cache.specs.declared.limits.TheConstants.{MAX_RESULTS}
use Rattle.client_follow.specs.Lists.{part_from}

-- The query with these arguments is answered, over an account with this history, whose blobs have
-- these texts; its answer has no place that is out of form; and what is read of it is the part of
-- the list that begins at a position, with the state of the kind.
pub record AreResultsRead (kind : Kind) (h : History) (texts : ℕ → MessageTexts)
    (account pointer : List ℕ) (args : Tree) (list : List ℕ) (position : ℕ)
    : Type 0 where
  pub tree : Tree
  pub answer : query_outcome kind (state_of h kind) (content_of h) texts args ≡ replied tree
  pub form : results_places kind account position MAX_RESULTS pointer tree ≡ []
  pub read : results_in kind tree
      ≡ Some (results_with (part_from list MAX_RESULTS position) (state_of h kind))
