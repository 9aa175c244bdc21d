-- The Email/set that destroys the originals of copies (RFC 8620, 5.4: onSuccessDestroyOriginal).
use Rattle.std.specs.Prelude.{ℕ, List, [], ◌∷◌, map, filter_map, Bool, false, Option, Some, None, is_some, option_and_then, option_map, unwrap_or, if◌then◌else◌, bytes_eq, codes}
use Rattle.jm_json.specs.Call.{Call}
use Rattle.jm_json.specs.Tree.{Tree, null, text, list, object, trees_of, fields_of}
use Rattle.jm_json.specs.Find.{as_object, find}
use Rattle.mail_view.specs.Records.{first_mentions}
use Rattle.method_args.specs.Arguments.{flag_in, text_in}
use Rattle.set_parts.specs.Arguments.{Create, creates_in}
use Rattle.set_parts.specs.Responses.{member_named}
use Rattle.mail_copies.specs.Arguments.{from_account_in}

-- the originals are to be destroyed
abbrev pub destroys_originals : List (List ℕ × Tree) → Bool
destroys_originals ms = unwrap_or (flag_in (codes "onSuccessDestroyOriginal") ms) false

-- what a response reports as created, by creation id; None if that is null
abbrev pub created_in : Tree → Option (List (List ℕ × Tree))
created_in reply = option_and_then as_object (member_named (codes "created") reply)

-- a create is reported as created
abbrev pub is_created : Option (List (List ℕ × Tree)) → List ℕ → Bool
is_created None creation = false
is_created (Some created) creation = is_some (find creation created)

-- the id of the original of a create, if the copy was created
abbrev pub copied_id : Option (List (List ℕ × Tree)) → Create → Option (List ℕ)
copied_id created x =
    if is_created created x.creation then text_in (codes "id") x.members else None

-- the originals that were copied, each once, in the order of their first creates
abbrev pub copied_ids : List (List ℕ × Tree) → Option (List (List ℕ × Tree))
    → List (List ℕ)
copied_ids ms created = first_mentions (filter_map (copied_id created) (creates_in ms))

-- the state that the originals' account must have: null if none is asked for
abbrev pub state_tree : Option (List ℕ) → Tree
state_tree None = null
state_tree (Some s) = text s

-- the arguments of the set
abbrev pub set_members : List (List ℕ × Tree) → Option (List (List ℕ × Tree))
    → List (List ℕ × Tree)
set_members ms created =
    (codes "accountId", text (from_account_in ms))
    ∷ (codes "destroy", list (trees_of (map text (copied_ids ms created))))
    ∷ (codes "ifInState", state_tree (text_in (codes "destroyFromIfInState") ms))
    ∷ []

abbrev pub set_by : Tree → Option (List (List ℕ × Tree)) → Option Tree
set_by reply None = None
set_by reply (Some ms) =
    if destroys_originals ms
    then Some (object (fields_of (set_members ms (created_in reply))))
    else None

-- The arguments of the Email/set that follows an Email/copy with these arguments and this response,
-- on the account of the originals. None if the originals are not to be destroyed. It follows also
-- if nothing was copied.
abbrev pub set_of_originals : Tree → Tree → Option Tree
set_of_originals args reply = set_by reply (as_object args)

-- the Email/set with these arguments, under the client's id of the copy
abbrev pub set_call : List ℕ → Tree → Call
set_call id args = record { name = codes "Email/set"; args = args; id = id }

-- The call that follows a copy, to which the account of the copies responded with this: the
-- Email/set of the originals. None if the response is an error, and none after another method than
-- Email/copy.
abbrev pub originals_call : Call → Call → Option Call
originals_call c response =
    if bytes_eq c.name (codes "Email/copy")
    then (if bytes_eq response.name (codes "error")
    then None
    else option_map (set_call c.id) (set_of_originals c.args response.args))
    else None
