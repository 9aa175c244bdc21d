-- For private clauses: the members of an object without those of hidden properties.
use Rattle.std.specs.Prelude.{ℕ, List, [], ◌∷◌, Bool, not, filter}
use Rattle.jm_json.specs.Tree.{Tree, object, fields_of}
use Rattle.jm_json.specs.Patch.{take_away}
use Rattle.mail_records.specs.declared.records.Mailbox.{Mailbox}
use Rattle.mail_records.specs.declared.records.Thread.{Thread}
use Rattle.mail_counts.specs.Views.{mailbox_members}
use Rattle.mail_view.specs.Threads.{thread_members}
use Rattle.get_args.specs.Selection.{is_among}

-- the members of other names
abbrev pub without : List (List ℕ) → List (List ℕ × Tree) → List (List ℕ × Tree)
without hidden members = filter (λ m. not (is_among hidden m.0)) members

-- the members that are left when the one of each name is removed, one after the other
abbrev pub remove_all : List (List ℕ) → List (List ℕ × Tree) → List (List ℕ × Tree)
remove_all [] members = members
remove_all (h ∷ hs) members = remove_all hs (take_away h members)

-- a mailbox without these properties
abbrev pub mailbox_without : Bool → List (List ℕ) → Mailbox → Tree
mailbox_without read_only hidden m =
    object (fields_of (without hidden (mailbox_members read_only m)))

-- a thread without these properties
abbrev pub thread_without : List (List ℕ) → Thread → Tree
thread_without hidden t = object (fields_of (without hidden (thread_members t)))
