-- What becomes of the records that a client keeps, and of the numbers that it is to ask for.
use Rattle.std.specs.Prelude.{ℕ, zero, suc, List, [], ◌∷◌, map, filter, filter_map, Bool, not, Option, None, option_and_then, codes}
use Rattle.std.specs.Ordering.{nat_cmp}
use Rattle.jm_base.specs.Splices.{has}
use Rattle.jm_base.specs.declared.identifiers.Kind.{Kind}
use Rattle.jm_base.specs.declared.identifiers.Kind.TheVariants.{Mailbox as OfMailbox, Email as OfEmail, Thread as OfThread}
use Rattle.jm_json.specs.Find.{as_object, find}
use Rattle.jm_json.specs.Order.{put_all}
use Rattle.jm_json.specs.Tree.{Tree}
use Rattle.method_args.specs.Arguments.{passes}
use Rattle.method_args.specs.Ids.{id_in, id_number}
use Rattle.query_engine.specs.Queries.{sorted_by}
use Rattle.client_cache.specs.Caches.{Cached, KindView, ListView, kind_of}
use Rattle.client_cache.specs.Requests.{id_of}

-- ---- records

-- the record is one of those with these numbers
abbrev pub is_among : Kind → List ℕ → List ℕ × Tree → Bool
is_among kind numbers m = passes (has numbers) (id_number kind m.0)

abbrev pub records_but : Kind → List ℕ → List (List ℕ × Tree) → List (List ℕ × Tree)
records_but kind numbers records = filter (λ m. not (is_among kind numbers m)) records

-- an object under the identifier of its record
abbrev pub under_id : Kind → ℕ × Tree → List ℕ × Tree
under_id kind o = (id_of kind o.0, o.1)

-- objects under the identifiers of their records
abbrev pub by_id : Kind → List (ℕ × Tree) → List (List ℕ × Tree)
by_id kind objects = put_all (map (under_id kind) objects) []

-- the thread of an email
abbrev pub thread_of_members : List (List ℕ × Tree) → Option ℕ
thread_of_members ms = option_and_then (id_in OfThread) (find (codes "threadId") ms)

abbrev pub thread_of : List ℕ × Tree → Option ℕ
thread_of m = option_and_then thread_of_members (as_object m.1)

-- ---- numbers

-- the numbers in ascending order, each once
abbrev pub in_order : List ℕ → List ℕ
in_order numbers = sorted_by nat_cmp numbers

-- the threads of emails
abbrev pub threads_of : List (List ℕ × Tree) → List ℕ
threads_of emails = in_order (filter_map thread_of emails)

-- ---- the cache

abbrev pub with_kind : Kind → KindView → Cached → Cached
with_kind OfMailbox k c = record c { mailboxes = k }
with_kind OfEmail k c = record c { emails = k }
with_kind OfThread k c = record c { threads = k }

-- the cache with these records of a kind, which they were at this state, if it is known
abbrev pub with_records : Kind → List (List ℕ × Tree) → Option ℕ → Cached → Cached
with_records kind records state c = with_kind kind (record { records = records; state = state }) c

abbrev pub with_state : Kind → Option ℕ → Cached → Cached
with_state kind state c = with_records kind (kind_of kind c).records state c

abbrev pub set_results : List ℕ → Option ℕ → ListView → ListView
set_results ids state l = record l { ids = ids; state = state }

abbrev pub update_at : ℕ → (ListView → ListView) → List ListView → List ListView
update_at i f [] = []
update_at zero f (l ∷ ls) = f l ∷ ls
update_at (suc i) f (l ∷ ls) = l ∷ update_at i f ls

-- the cache with these emails in the list with an index, which its query had at this state, if it
-- is known
abbrev pub with_results : ℕ → List ℕ → Option ℕ → Cached → Cached
with_results index ids state c =
    record c { lists = update_at index (set_results ids state) c.lists }

-- the cache without the state of the list with an index
abbrev pub forget_state : ListView → ListView
forget_state l = record l { state = None }

abbrev pub without_state : ℕ → Cached → Cached
without_state index c = record c { lists = update_at index forget_state c.lists }
