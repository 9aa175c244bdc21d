-- A client's round: the requests by which it brings what it keeps up to date, and what it holds
-- between two replies (RFC 8620, 5.1, 5.2, 5.5 and 5.6).
--
-- Mailboxes come first, then emails, threads and each list. A kind whose state is known is brought
-- up to date by its changes, and then a get of what they name. One whose state is not known is
-- loaded: mailboxes and emails by a query and a get of its results, threads by a get of those of
-- the emails that are kept. A list is brought up to date by the changes of its query, or loaded.
use Rattle.std.specs.Prelude.{ℕ, List, [], Option, Some, None, codes, slice_get}
use Rattle.jm_base.specs.declared.identifiers.Kind.{Kind}
use Rattle.jm_base.specs.declared.identifiers.Kind.TheVariants.{Mailbox as OfMailbox, Email as OfEmail, Thread as OfThread}
use Rattle.jm_json.specs.Tree.{Tree}
use Rattle.client_cache.specs.Caches.{Cached, ListView, kind_of}

-- What the next request is for.
pub data Step : Type 0 where
  -- the Session
  at_session : Step
  -- the changes of a kind since a state, and a get of what they named, which must show that state
  at_changes : (kind : Kind) → (since : ℕ) → Step
  at_changed : (kind : Kind) → (state : ℕ) → Step
  -- a load: the results of a query of all records, from the second page on at a state; and a get of
  -- them at that state
  at_results : (kind : Kind) → (state : Option ℕ) → Step
  at_records : (kind : Kind) → (state : ℕ) → Step
  -- a load of threads: their state; the state of the emails, which must be the one that is kept;
  -- and a get of the threads of these emails at the state of threads
  at_thread_state : Step
  at_email_state : (state : ℕ) → Step
  at_threads : (state : ℕ) → Step
  -- the changes of a list's query since a state; a load of it, from the second page on at a state
  at_list_changes : (index : ℕ) → (since : ℕ) → Step
  at_list_results : (index : ℕ) → (state : Option ℕ) → Step
  -- nothing is left
  done : Step

-- What a round holds: its step; the path to which the next request goes; the numbers of records
-- that it has still to ask for; the records that it got, under their identifiers in byte order; the
-- numbers of records that are not there any more; the results of a query so far; how many replies
-- it took, and how many of them showed another state than it had.
pub record Round : Type 0 where
  pub step : Step
  pub path : List ℕ
  pub asked : List ℕ
  pub got : List (List ℕ × Tree)
  pub dropped : List ℕ
  pub results : List ℕ
  pub replies : ℕ
  pub moved : ℕ

-- where a client finds the Session (RFC 8620, 2.2)
abbrev pub session_path : List ℕ
session_path = codes "/.well-known/jmap"

-- A new round holds nothing.
abbrev pub new_round : Round
new_round = record {
  step = at_session;
  path = session_path;
  asked = [];
  got = [];
  dropped = [];
  results = [];
  replies = 0;
  moved = 0;
}

-- the round at a step, with nothing held for it
abbrev pub starting : Step → Round → Round
starting step r = record r { step = step; asked = []; got = []; dropped = []; results = [] }

-- ---- where a kind and a list begin

abbrev pub load_of : Kind → Step
load_of OfMailbox = at_results OfMailbox None
load_of OfEmail = at_results OfEmail None
load_of OfThread = at_thread_state

abbrev pub step_from : Kind → Option ℕ → Step
step_from kind None = load_of kind
step_from kind (Some state) = at_changes kind state

abbrev pub first_step : Kind → Cached → Step
first_step kind c = step_from kind (kind_of kind c).state

abbrev pub list_step_from : ℕ → Option ℕ → Step
list_step_from index None = at_list_results index None
list_step_from index (Some state) = at_list_changes index state

abbrev pub list_step_of : ℕ → Option ListView → Step
list_step_of index None = done
list_step_of index (Some l) = list_step_from index l.state

-- where the list with an index begins; without one nothing is left
abbrev pub list_step : ℕ → Cached → Step
list_step index c = list_step_of index (slice_get c.lists index)

-- where what follows a kind begins
abbrev pub step_after : Kind → Cached → Step
step_after OfMailbox c = first_step OfEmail c
step_after OfEmail c = first_step OfThread c
step_after OfThread c = list_step 0 c
