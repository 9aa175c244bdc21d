-- The JSON view of a thread (RFC 8621, 3).
use Rattle.std.specs.Prelude.{ℕ, List, [], ◌∷◌, Option, filter, map, codes}
use Rattle.jm_base.specs.declared.identifiers.Kind.TheVariants.{Email as OfEmail, Thread as OfThread}
use Rattle.jm_json.specs.Tree.{Tree, text, object, fields_of}
use Rattle.mail_records.specs.Contents.{thread_number}
use Rattle.mail_records.specs.declared.records.Thread.{Thread}
use Rattle.get_args.specs.Selection.{is_shown}
use Rattle.mail_view.specs.Objects.{list_tree}
use Rattle.mail_view.specs.Records.{record_named}
use Rattle.mail_view.specs.View.{identifier}

-- the thread that an id names
abbrev pub thread_named : List Thread → List ℕ → Option Thread
thread_named threads id = record_named OfThread thread_number threads id

-- the properties of a thread, in byte order
abbrev pub thread_properties : List (List ℕ)
thread_properties = codes "emailIds" ∷ codes "id" ∷ []

-- the members of a thread's object: the ids of its emails in the order of the record, and its id
abbrev pub thread_members : Thread → List (List ℕ × Tree)
thread_members t =
    (codes "emailIds", list_tree (map text (map (identifier OfEmail) t.emails)))
    ∷ (codes "id", text (identifier OfThread t.number))
    ∷ []

-- the view of a thread with the properties of these names, both if there are none
abbrev pub thread_view : Option (List (List ℕ)) → Thread → Tree
thread_view names t = object (fields_of (filter (λ p. is_shown names p.0) (thread_members t)))
