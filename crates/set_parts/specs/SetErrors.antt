-- What is reported of an object that a set, an import or a copy rejects: a SetError (RFC 8620, 5.3
-- and 5.4; RFC 8621, 2.5, 4.6 and 4.8).
use Rattle.std.specs.Prelude.{ℕ, List, [], ◌∷◌, map, codes}
use Rattle.jm_json.specs.Tree.{Tree, text, list, object, trees_of, fields_of}
use Rattle.set_parts.specs.declared.set_errors.SetError.{SetError}
use Rattle.set_parts.specs.declared.set_errors.SetError.TheVariants.{NotFound, WillDestroy, Forbidden, InvalidPatch, InvalidProperties, TooManyKeywords, TooManyMailboxes, BlobNotFound, TooLarge, OverQuota, MailboxHasChild, MailboxHasEmail}

-- a SetError of this type, with nothing else
abbrev pub error_of_type : List ℕ → Tree
error_of_type name = object (fields_of ((codes "type", text name) ∷ []))

-- a SetError of this type with the names of properties
abbrev pub error_of_properties : List ℕ → List (List ℕ) → Tree
error_of_properties name properties =
    object (fields_of
    ((codes "properties", list (trees_of (map text properties))) ∷ (codes "type", text name) ∷ []))

-- the SetError for blobs that are not there, with their ids (RFC 8621, 4.6)
abbrev pub error_of_blobs : List (List ℕ) → Tree
error_of_blobs ids =
    object (fields_of
    ((codes "notFound", list (trees_of (map text ids)))
    ∷ (codes "type", text (codes "blobNotFound")) ∷ []))

-- the SetError that reports an error
abbrev pub error_tree : SetError → Tree
error_tree NotFound = error_of_type (codes "notFound")
error_tree WillDestroy = error_of_type (codes "willDestroy")
error_tree Forbidden = error_of_type (codes "forbidden")
error_tree InvalidPatch = error_of_type (codes "invalidPatch")
error_tree (InvalidProperties names) = error_of_properties (codes "invalidProperties") names
error_tree TooManyKeywords = error_of_type (codes "tooManyKeywords")
error_tree TooManyMailboxes = error_of_type (codes "tooManyMailboxes")
error_tree (BlobNotFound ids) = error_of_blobs ids
error_tree TooLarge = error_of_type (codes "tooLarge")
error_tree OverQuota = error_of_type (codes "overQuota")
error_tree MailboxHasChild = error_of_type (codes "mailboxHasChild")
error_tree MailboxHasEmail = error_of_type (codes "mailboxHasEmail")
