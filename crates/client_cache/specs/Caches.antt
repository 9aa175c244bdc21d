-- What a client keeps of an account, and the tree and the text of its file. The form of the file is
-- our own:
--
--     {"account":A,"email":K,"lists":[L],"mailbox":K,"thread":K}
--
-- A is the account or null. K is {"list":{ID:OBJECT},"state":S} with the objects of records as a
-- get's response has them, and S is a state or null. L is
-- {"collapse":BOOL,"filter":F,"ids":[ID],"name":TEXT,"sort":O,"state":S}.
use Rattle.std.specs.Prelude.{ℕ, List, [], ◌∷◌, Bool, true, false, map, Option, Some, None, option_map, codes}
use Rattle.serde_json.specs.Written.{compact_text}
use Rattle.jm_base.specs.Ids.{state_text}
use Rattle.jm_base.specs.declared.identifiers.Kind.{Kind}
use Rattle.jm_base.specs.declared.identifiers.Kind.TheVariants.{Mailbox as OfMailbox, Email as OfEmail, Thread as OfThread}
use Rattle.jm_json.specs.JsonValues.{data_of}
use Rattle.jm_json.specs.Tree.{Tree, null, boolean, text, list, object, trees_of, fields_of}
use Rattle.method_args.specs.Ids.{id_trees}

-- A list of emails: its name; the filter and the sort of its query, and whether that collapses
-- threads (RFC 8621, 4.4); the emails that it has, and the state of the query, if it is known.
pub record ListView : Type 0 where
  pub name : List ℕ
  pub filter : Tree
  pub sort : Tree
  pub collapse : Bool
  pub ids : List ℕ
  pub state : Option ℕ

-- What is kept of a kind: the object of each record under its identifier, in byte order of these;
-- and the state that the kind had, if it is known.
pub record KindView : Type 0 where
  pub records : List (List ℕ × Tree)
  pub state : Option ℕ

-- What is kept: the account, if it is known; the kinds; the lists.
pub record Cached : Type 0 where
  pub account : Option (List ℕ)
  pub mailboxes : KindView
  pub emails : KindView
  pub threads : KindView
  pub lists : List ListView

-- what is kept of a kind
abbrev pub kind_of : Kind → Cached → KindView
kind_of OfMailbox c = c.mailboxes
kind_of OfEmail c = c.emails
kind_of OfThread c = c.threads

-- ---- the tree and the text of the file

abbrev pub text_or_null : Option (List ℕ) → Tree
text_or_null None = null
text_or_null (Some s) = text s

abbrev pub state_tree : Option ℕ → Tree
state_tree state = text_or_null (option_map state_text state)

abbrev pub kind_tree : KindView → Tree
kind_tree k =
    object (fields_of (
    (codes "list", object (fields_of k.records)) ∷ (codes "state", state_tree k.state) ∷ []))

abbrev pub list_tree : ListView → Tree
list_tree l =
    object (fields_of (
    (codes "collapse", boolean l.collapse)
    ∷ (codes "filter", l.filter)
    ∷ (codes "ids", list (trees_of (id_trees OfEmail l.ids)))
    ∷ (codes "name", text l.name)
    ∷ (codes "sort", l.sort)
    ∷ (codes "state", state_tree l.state)
    ∷ []))

abbrev pub cache_tree : Cached → Tree
cache_tree c =
    object (fields_of (
    (codes "account", text_or_null c.account)
    ∷ (codes "email", kind_tree c.emails)
    ∷ (codes "lists", list (trees_of (map list_tree c.lists)))
    ∷ (codes "mailbox", kind_tree c.mailboxes)
    ∷ (codes "thread", kind_tree c.threads)
    ∷ []))

abbrev pub cache_text : Cached → List ℕ
cache_text c = compact_text (data_of (cache_tree c))

-- ---- the new cache

abbrev pub nothing : KindView
nothing = record { records = []; state = None }

-- the newest emails first, by receivedAt
abbrev pub newest_first : Tree
newest_first =
    list (trees_of (
    object (fields_of (
    (codes "isAscending", boolean false) ∷ (codes "property", text (codes "receivedAt")) ∷ []))
    ∷ []))

-- the list `all`: each thread by its newest email, with no filter
abbrev pub all_list : ListView
all_list = record {
  name = codes "all";
  filter = null;
  sort = newest_first;
  collapse = true;
  ids = [];
  state = None;
}

-- nothing of any account, and the one list
abbrev pub new_cached : Cached
new_cached = record {
  account = None;
  mailboxes = nothing;
  emails = nothing;
  threads = nothing;
  lists = all_list ∷ [];
}
