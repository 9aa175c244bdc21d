-- What a round holds of a query's result list between two pages (RFC 8620, 5.5).
use Rattle.std.specs.Prelude.{◌≡◌, ℕ, List, Bool, true, false, take, drop, length}
use Rattle.jm_base.specs.declared.identifiers.Kind.{Kind}
use Rattle.jm_base.specs.declared.identifiers.Kind.TheVariants.{Email as OfEmail, Thread as OfThread}
use Rattle.jm_json.specs.Tree.{null}
use Rattle.query_engine.specs.Views.{QueryTree}
use Rattle.client_cache.specs.Caches.{ListView}

-- the ids so far are the beginning of the list
abbrev pub IsBeginning : List ℕ → List ℕ → Type 0
IsBeginning list so_far = so_far ≡ take (length so_far) list

-- the part of the list that begins at an index, of at most so many
abbrev pub part_from : List ℕ → ℕ → ℕ → List ℕ
part_from list max start = take max (drop start list)

-- the query of a list of emails that a client keeps
abbrev pub query_of_list : ListView → QueryTree
query_of_list l =
    record { kind = OfEmail; filter = l.filter; order = l.sort; collapse = l.collapse }

-- mailboxes and emails are loaded by a query, threads are not
abbrev pub has_query : Kind → Bool
has_query OfThread = false
has_query _ = true

-- the query of all records of a kind
abbrev pub query_of_all : Kind → QueryTree
query_of_all kind = record { kind = kind; filter = null; order = null; collapse = false }
