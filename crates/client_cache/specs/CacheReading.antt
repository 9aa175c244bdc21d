-- What the tree of a cache's file says. A value that is not of its form counts for nothing:
-- `CacheForms` says where one is.
use Rattle.std.specs.Prelude.{◌≡◌, ℕ, List, [], map, false, Option, Some, None, option_and_then, unwrap_or, codes, ⊤}
use Rattle.std.specs.List.{AllByRecursion}
use Rattle.jm_base.specs.Ids.{IsState}
use Rattle.jm_base.specs.declared.identifiers.Kind.TheVariants.{Email as OfEmail}
use Rattle.jm_json.specs.Find.{as_list, as_object, as_text, find}
use Rattle.jm_json.specs.Reading.{reading_of, whole}
use Rattle.jm_json.specs.Tree.{Tree, null}
use Rattle.method_args.specs.Arguments.{flag_in}
use Rattle.method_args.specs.Ids.{ids_in, state_in}
use Rattle.method_args.specs.WrittenIds.{AreIds}
use Rattle.client_cache.specs.Caches.{Cached, KindView, ListView}
use Rattle.client_cache.specs.CacheForms.{cache_places}

-- the members of an object, and of the object at a name
abbrev pub members_of_tree : Tree → List (List ℕ × Tree)
members_of_tree t = unwrap_or (as_object t) []

abbrev pub members_at : List ℕ → List (List ℕ × Tree) → List (List ℕ × Tree)
members_at name ms = unwrap_or (option_and_then as_object (find name ms)) []

abbrev pub text_at : List ℕ → List (List ℕ × Tree) → Option (List ℕ)
text_at name ms = option_and_then as_text (find name ms)

abbrev pub text_or_empty : List ℕ → List (List ℕ × Tree) → List ℕ
text_or_empty name ms = unwrap_or (text_at name ms) []

-- the numbers of a list of identifiers of emails
abbrev pub ids_at : List ℕ → List (List ℕ × Tree) → List ℕ
ids_at name ms = unwrap_or (option_and_then (ids_in OfEmail) (find name ms)) []

abbrev pub state_at : List ℕ → List (List ℕ × Tree) → Option ℕ
state_at name ms = option_and_then state_in (find name ms)

abbrev pub tree_at : List ℕ → List (List ℕ × Tree) → Tree
tree_at name ms = unwrap_or (find name ms) null

-- ---- a kind and a list

abbrev pub kind_of_members : List (List ℕ × Tree) → KindView
kind_of_members ms = record {
  records = members_at (codes "list") ms;
  state = state_at (codes "state") ms;
}

abbrev pub list_of_members : List (List ℕ × Tree) → ListView
list_of_members ms = record {
  name = text_or_empty (codes "name") ms;
  filter = tree_at (codes "filter") ms;
  sort = tree_at (codes "sort") ms;
  collapse = unwrap_or (flag_in (codes "collapse") ms) false;
  ids = ids_at (codes "ids") ms;
  state = state_at (codes "state") ms;
}

abbrev pub list_in : Tree → ListView
list_in t = list_of_members (members_of_tree t)

abbrev pub lists_at : List ℕ → List (List ℕ × Tree) → List ListView
lists_at name ms = map list_in (unwrap_or (option_and_then as_list (find name ms)) [])

-- ---- the cache

abbrev pub cache_of_members : List (List ℕ × Tree) → Cached
cache_of_members ms = record {
  account = text_at (codes "account") ms;
  mailboxes = kind_of_members (members_at (codes "mailbox") ms);
  emails = kind_of_members (members_at (codes "email") ms);
  threads = kind_of_members (members_at (codes "thread") ms);
  lists = lists_at (codes "lists") ms;
}

-- what the tree says
abbrev pub cache_in : Tree → Cached
cache_in t = cache_of_members (members_of_tree t)

-- the text is that of a tree which is of the form of a cache's file and says this cache
pub record IsTextOf (bytes : List ℕ) (c : Cached) : Type 0 where
  pub tree : Tree
  pub read : reading_of bytes ≡ whole tree
  pub form : cache_places tree ≡ []
  pub says : c ≡ cache_in tree

-- ---- what can be written so that it is read

-- the state is one that a text has
abbrev pub StateFits : Option ℕ → Type 0
StateFits None = ⊤
StateFits (Some position) = IsState position

pub record ListFits (l : ListView) : Type 0 where
  pub ids : AreIds OfEmail l.ids
  pub state : StateFits l.state

-- The states, and the numbers of emails in lists, are ones that have texts.
pub record NumbersFit (c : Cached) : Type 0 where
  pub mailboxes : StateFits c.mailboxes.state
  pub emails : StateFits c.emails.state
  pub threads : StateFits c.threads.state
  pub lists : AllByRecursion ListFits c.lists
