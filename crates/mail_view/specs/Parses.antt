-- What an Email/parse is answered (RFC 8621, 4.9).
use Rattle.std.specs.Prelude.{ℕ, List, [], ◌∷◌, length, map, nat_lt, if◌then◌else◌, true, is_none, filter_map, Option, Some, None, option_map, option_and_then, unwrap_or, codes}
use Rattle.jm_json.specs.Tree.{Tree, null, text, object, fields_of}
use Rattle.jm_json.specs.Find.{find, as_object}
use Rattle.mail_records.specs.Histories.{History, blobs_of}
use Rattle.method_args.specs.Arguments.{account_in, as_strings}
use Rattle.method_args.specs.Wrapped.{list_or_null, object_or_null}
use Rattle.method_args.specs.declared.TheConstants.{MAX_OBJECTS_PER_CALL}
use Rattle.get_args.specs.Wanted.{Reading, invalid as invalid_wanted, asked, wanted_by}
use Rattle.get_args.specs.declared.wanted.Wanted.{Wanted}
use Rattle.mail_view.specs.Objects.{put_all}
use Rattle.mail_view.specs.Records.{first_mentions, naming_none}
use Rattle.mail_view.specs.View.{view_tree}
use Rattle.mail_view.specs.Gets.{Got, invalid, too_large, got, got_unless, get_if_object}
use Rattle.mail_view.specs.NamedBytes.{bytes_named}

-- the view of a message with this blob id, which is no email, if there is a message
abbrev pub view_if : List ℕ → Wanted → Option (List ℕ) → Option Tree
view_if id wanted bytes = option_map (λ b. view_tree b id None wanted) bytes

-- the view of the message that a blob id names, if it names one
abbrev pub parsed_view : List (List ℕ) → Wanted → List ℕ → Option Tree
parsed_view blobs wanted id = view_if id wanted (bytes_named blobs id)

abbrev pub parsed_member : List (List ℕ) → Wanted → List ℕ → Option (List ℕ × Tree)
parsed_member blobs wanted id = option_map (λ view. (id, view)) (parsed_view blobs wanted id)

-- the response: every message can be parsed, so notParsable is null
abbrev pub parse_tree : List ℕ → Tree → Tree → Tree
parse_tree account not_found parsed =
    object
    (fields_of
    ((codes "accountId", text account)
    ∷ (codes "notFound", not_found)
    ∷ (codes "notParsable", null)
    ∷ (codes "parsed", parsed)
    ∷ []))

abbrev pub parse_reply :
    List (List ℕ) → Wanted → List (List ℕ × Tree) → List (List ℕ) → Tree
parse_reply blobs wanted args ids =
    parse_tree (unwrap_or (account_in args) [])
    (list_or_null (map text (naming_none (parsed_view blobs wanted) (first_mentions ids))))
    (object_or_null (put_all (filter_map (parsed_member blobs wanted) (first_mentions ids)) []))

-- the blob ids, each as often as it is mentioned
abbrev pub blob_ids_in : List (List ℕ × Tree) → Option (List (List ℕ))
blob_ids_in args = option_and_then as_strings (find (codes "blobIds") args)

-- ---- the answer

abbrev pub parse_asked : List (List ℕ) → List (List ℕ × Tree) → List (List ℕ) → Reading → Got
parse_asked blobs args ids (invalid_wanted name) = invalid name
parse_asked blobs args ids (asked wanted) =
    if nat_lt MAX_OBJECTS_PER_CALL (length ids)
    then too_large
    else got (parse_reply blobs wanted args ids)

abbrev pub parse_by : List (List ℕ) → List (List ℕ × Tree) → Option (List (List ℕ)) → Got
parse_by blobs args None = invalid (codes "blobIds")
parse_by blobs args (Some ids) = parse_asked blobs args ids (wanted_by (Some args) true)

-- the name of `accountId` if it is invalid
abbrev pub invalid_account : List (List ℕ × Tree) → Option (List ℕ)
invalid_account args = if is_none (account_in args) then Some (codes "accountId") else None

abbrev pub parse_got : List (List ℕ) → List (List ℕ × Tree) → Got
parse_got blobs args = got_unless (invalid_account args) (parse_by blobs args (blob_ids_in args))

-- The answer to an Email/parse with these arguments, of an account with these blobs. Invalid
-- arguments come first, in byte order of their names; then more ids than a call may name are too
-- many.
abbrev pub parse_emails : List (List ℕ) → Tree → Got
parse_emails blobs args = get_if_object (parse_got blobs) (as_object args)

-- the answer to an Email/parse, of an account with this history, at its end
abbrev pub parse_in : History → Tree → Got
parse_in h args = parse_emails (blobs_of h) args
