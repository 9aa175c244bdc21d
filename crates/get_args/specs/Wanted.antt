-- The properties that the arguments of an Email/get or an Email/parse ask for (RFC 8621, 4.2 and
-- 4.9).
use Rattle.std.specs.Prelude.{⊤, ℕ, Bool, true, false, List, [], ◌∷◌, ◌++◌, map, Option, Some, None, option_map, option_and_then, unwrap_or, codes, if◌then◌else◌}
use Rattle.jm_json.specs.Tree.{Tree, boolean, text, list, object, trees_of, fields_of}
use Rattle.jm_json.specs.Find.{find, as_object}
use Rattle.method_args.specs.Arguments.{as_strings, given, flag_in, count_in}
use Rattle.get_args.specs.PropertyNames.{property_named, part_property_named}
use Rattle.get_args.specs.declared.property.NamedProperty.{NamedProperty}
use Rattle.get_args.specs.declared.property.NamedPartProperty.{NamedPartProperty}
use Rattle.get_args.specs.declared.wanted.Wanted.{Wanted}

-- the default properties of a parsed message (RFC 8621, 4.9), which an email has too
abbrev pub message_names : List (List ℕ)
message_names =
    codes "messageId" ∷ codes "inReplyTo" ∷ codes "references" ∷ codes "sender" ∷ codes "from"
    ∷ codes "to" ∷ codes "cc" ∷ codes "bcc" ∷ codes "replyTo" ∷ codes "subject" ∷ codes "sentAt"
    ∷ codes "hasAttachment" ∷ codes "preview" ∷ codes "bodyValues" ∷ codes "textBody"
    ∷ codes "htmlBody" ∷ codes "attachments" ∷ []

-- the default metadata properties of an email besides its id (RFC 8621, 4.2)
abbrev pub metadata_names : List (List ℕ)
metadata_names =
    codes "blobId" ∷ codes "threadId" ∷ codes "mailboxIds" ∷ codes "keywords" ∷ codes "size"
    ∷ codes "receivedAt" ∷ []

-- the properties that are returned if none are named
abbrev pub default_names : Bool → List (List ℕ)
default_names parse = if parse then message_names else metadata_names ++ message_names

-- the default properties of a body part (RFC 8621, 4.2)
abbrev pub part_names : List (List ℕ)
part_names =
    codes "partId" ∷ codes "blobId" ∷ codes "size" ∷ codes "name" ∷ codes "type" ∷ codes "charset"
    ∷ codes "disposition" ∷ codes "cid" ∷ codes "language" ∷ codes "location" ∷ []

-- the values of all items, if each has one
abbrev pub each : {A B : Type 0} → (A → Option B) → List A → Option (List B)
each f [] = Some []
each f (x ∷ xs) = option_and_then (λ y. option_map (λ ys. y ∷ ys) (each f xs)) (f x)

abbrev pub named_property : List ℕ → Option NamedProperty
named_property name = option_map (λ p. record { name = name; property = p }) (property_named name)

abbrev pub named_part_property : List ℕ → Option NamedPartProperty
named_part_property name =
    option_map (λ p. record { name = name; property = p }) (part_property_named name)

-- the names that an argument lists, or these if it is absent
abbrev pub names_by : List (List ℕ) → Option Tree → Option (List (List ℕ))
names_by names None = Some names
names_by names (Some t) = as_strings t

-- an email is always returned with its id (RFC 8620, 5.1)
abbrev pub with_id : Bool → List (List ℕ) → List (List ℕ)
with_id parse names = if parse then names else codes "id" ∷ names

-- the properties that are asked for, if each name is one's; null asks for the defaults
abbrev pub properties_in : Bool → List (List ℕ × Tree) → Option (List NamedProperty)
properties_in parse args =
    option_and_then (λ names. each named_property (with_id parse names))
    (names_by (default_names parse) (given (codes "properties") args))

-- those of body parts; null is no list
abbrev pub parts_in : List (List ℕ × Tree) → Option (List NamedPartProperty)
parts_in args =
    option_and_then (each named_part_property)
    (names_by part_names (find (codes "bodyProperties") args))

-- The argument of this name is invalid, or this is what the arguments ask for. The name is empty
-- if they are no object.
pub data Reading : Type 0 where
  invalid : List ℕ → Reading
  asked : Wanted → Reading

abbrev pub IsTaken : Reading → Type 0
IsTaken (invalid name) = ⊥
IsTaken (asked wanted) = ⊤

-- continues an argument if it is valid
abbrev pub read_or : {A : Type 0} → List ℕ → Option A → (A → Reading) → Reading
read_or name None go_on = invalid name
read_or name (Some a) go_on = go_on a

-- The first invalid argument in byte order of the names is the one that is named. Arguments of
-- other names are ignored.
abbrev pub wanted_by : Option (List (List ℕ × Tree)) → Bool → Reading
wanted_by None parse = invalid []
wanted_by (Some args) parse =
    read_or (codes "bodyProperties") (parts_in args) (λ parts.
    read_or (codes "fetchAllBodyValues") (flag_in (codes "fetchAllBodyValues") args) (λ all.
    read_or (codes "fetchHTMLBodyValues") (flag_in (codes "fetchHTMLBodyValues") args) (λ html.
    read_or (codes "fetchTextBodyValues") (flag_in (codes "fetchTextBodyValues") args) (λ plain.
    read_or (codes "maxBodyValueBytes") (count_in (codes "maxBodyValueBytes") args) (λ most.
    read_or (codes "properties") (properties_in parse args) (λ properties.
    asked (record {
      properties = properties;
      parts = parts;
      text_values = plain;
      html_values = html;
      all_values = all;
      most_bytes = most;
    })))))))

-- the properties that the arguments of a get ask for, or those of a parse
abbrev pub wanted_in : Tree → Bool → Reading
wanted_in args parse = wanted_by (as_object args) parse

-- the arguments of a parse by which the command line reads a message: the defaults and
-- bodyStructure, with the values of the text body
unfoldable pub read_arguments : Tree
read_arguments =
    object (fields_of (
    (codes "fetchTextBodyValues", boolean true)
    ∷ (
      codes "properties",
      list (trees_of (map text (message_names ++ codes "bodyStructure" ∷ []))),
    )
    ∷ []))

-- the properties of an email that a client keeps, in the order in which it asks for them
abbrev pub cached_names : List (List ℕ)
cached_names =
    codes "id" ∷ codes "blobId" ∷ codes "threadId" ∷ codes "mailboxIds" ∷ codes "keywords"
    ∷ codes "size" ∷ codes "receivedAt" ∷ codes "from" ∷ codes "subject" ∷ codes "preview"
    ∷ codes "hasAttachment" ∷ []

abbrev pub cached_names_tree : Tree
cached_names_tree = list (trees_of (map text cached_names))

-- the arguments of the Email/get by which a client asks for these emails of an account
abbrev pub cached_arguments : List ℕ → List (List ℕ) → Tree
cached_arguments account ids =
    object (fields_of (
    (codes "accountId", text account)
    ∷ (codes "ids", list (trees_of (map text ids)))
    ∷ (codes "properties", cached_names_tree)
    ∷ []))

-- what these arguments ask for
unfoldable pub cached_wanted : Wanted
cached_wanted = record {
  properties = unwrap_or (each named_property (with_id false cached_names)) [];
  parts = unwrap_or (each named_part_property part_names) [];
  text_values = false;
  html_values = false;
  all_values = false;
  most_bytes = 0;
}
