-- What a client reads of the answer to its call for changes (RFC 8620, 5.2).
use Rattle.std.specs.Prelude.{◌≡◌, ℕ, ◌==◌, List, [], not, Some}
use Rattle.jm_base.specs.declared.identifiers.Kind.{Kind}
use Rattle.jm_json.specs.Tree.{Tree}
use Rattle.mail_records.specs.Histories.{History, end_of}
use Rattle.mail_records.specs.States.{state_at}
use Rattle.method_args.specs.Outcomes.{replied}
use Rattle.change_calls.specs.Changes.{created, destroyed, updated}
use Rattle.change_calls.specs.Responses.{changes_outcome}
use Rattle.reply_readers.specs.Pages.{page_in, page_places, page_with}
use Rattle.client_cache.specs.Requests.{changes_arguments}

-- The call for the changes since a state is answered, over an account with this history; its answer
-- has no place that is out of form; and what is read of it is the page from the state to a
-- position, with the state that the kind has there, and whether there is more.
pub record IsPageRead (kind : Kind) (h : History) (account pointer : List ℕ) (since upto : ℕ)
    : Type 0 where
  pub tree : Tree
  pub answer : changes_outcome h kind (changes_arguments account since) ≡ replied tree
  pub form : page_places kind account since pointer tree ≡ []
  pub read : page_in kind tree
      ≡ Some (page_with (created h kind since upto) (destroyed h kind since upto)
      (updated h kind since upto) (not (upto == end_of h)) (state_at h kind upto))
