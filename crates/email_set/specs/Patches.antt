-- What an update makes of the mailboxes and keywords of one email (RFC 8620, 5.3; RFC 8621, 4.1.1
-- and 4.6). It depends on that email, on the numbers of the mailboxes that are there, on what the
-- request has created and on the patch, and on nothing else.
use Rattle.std.specs.Prelude.{ℕ, List, [], ◌∷◌, ◌++◌, length, map, filter, Bool, not, ◌||◌, nat_lt, Option, Some, None, is_some, unwrap_or, if◌then◌else◌, codes, bytes_eq, option_map, option_and_then}
use Rattle.std.specs.List.{filter_map}
use Rattle.std.specs.Ordering.{nat_cmp}
use Rattle.std.specs.Cmp.Lexicographic.{slice_cmp}
use Rattle.std.specs.Str.{str_to_ascii_lowercase}
use Rattle.jm_json.specs.Tree.{Tree, object, fields_of}
use Rattle.jm_json.specs.Find.{as_object, find}
use Rattle.jm_json.specs.Integers.{pointer_part}
use Rattle.jm_json.specs.Order.{put}
use Rattle.jm_json.specs.Patch.{Patched, bad_patch, patched, patching_by}
use Rattle.jm_json.specs.Pointer.{cut, name_of, stripped}
use Rattle.jm_json.specs.declared.invocation.Created.{Created}
use Rattle.mail_counts.specs.Touched.{sorted_once}
use Rattle.mail_counts.specs.Views.{mailbox_id}
use Rattle.mail_counts.specs.declared.limits.TheConstants.{MAX_KEYWORDS_PER_EMAIL}
use Rattle.jm_base.specs.declared.limits.TheConstants.{MAX_MAILBOXES_PER_EMAIL}
use Rattle.set_parts.specs.CreationIds.{last_made, reference}
use Rattle.set_parts.specs.Names.{keywords_in, mailboxes_in, set_tree}
use Rattle.set_parts.specs.declared.set_errors.SetError.TheVariants.{InvalidPatch, InvalidProperties, TooManyKeywords, TooManyMailboxes}
use Rattle.email_set.specs.declared.filing.Filing.{Filing}
use Rattle.email_set.specs.declared.filing.Refiled.{Refiled}
use Rattle.email_set.specs.declared.filing.Refiled.TheVariants.{Rejected, Filed}

-- ---- what a patch changes

-- The object that a patch changes: the two properties of an email that may change, and no other.
abbrev pub filing_tree : Filing → Tree
filing_tree f =
    object (fields_of
    ((codes "keywords", set_tree f.keywords)
    ∷ (codes "mailboxIds", set_tree (map mailbox_id f.mailboxes)) ∷ []))

-- ---- paths

-- A part of a path that is a reference to a record that was created means the record's id. Any
-- other part means itself, also a reference that means nothing.
abbrev pub meant_part : List Created → List ℕ → List ℕ
meant_part made part =
    unwrap_or
    (option_map pointer_part
    (option_and_then (λ k. last_made k made) (option_and_then name_of (reference part)))) part

-- a path that begins with `mailboxIds/`, or another one
abbrev pub meant_in_mailboxes : List Created → List ℕ → Option (List ℕ) → List ℕ
meant_in_mailboxes made path None = path
meant_in_mailboxes made path (Some rest) = codes "mailboxIds/" ++ meant_part made rest

-- A path as it is applied: a keyword is in lower case, and a mailbox is named by its id.
abbrev pub meant_path : List Created → List ℕ → List ℕ
meant_path made path =
    if is_some (stripped (codes "keywords/") path)
    then str_to_ascii_lowercase path
    else meant_in_mailboxes made path (stripped (codes "mailboxIds/") path)

-- a change with its path as it is applied
abbrev pub meant_change : List Created → List ℕ × Tree → List ℕ × Tree
meant_change made m = (meant_path made m.0, m.1)

-- the changes put into others, if no two have one path
abbrev pub put_distinct : List (List ℕ × Tree) → List (List ℕ × Tree)
    → Option (List (List ℕ × Tree))
put_distinct [] ms = Some ms
put_distinct (n ∷ ns) ms =
    if is_some (find n.0 ms) then None else put_distinct ns (put n.0 n.1 ms)

-- The changes of a patch with their paths as they are applied. None if two paths are the same then:
-- each would be a prefix of the other.
abbrev pub meant_changes : List Created → List (List ℕ × Tree) → Option (List (List ℕ × Tree))
meant_changes made ms = put_distinct (map (meant_change made) ms) []

-- ---- properties that may not change

-- the property that a path of one part names
abbrev pub property_of : List (List ℕ) → Option (List ℕ)
property_of (p ∷ []) = name_of p
property_of _ = None

abbrev pub property_at : List ℕ × Tree → Option (List ℕ)
property_at m = property_of (cut m.0)

-- a property other than the two that may change
abbrev pub is_fixed : List ℕ → Bool
is_fixed name = not (bytes_eq name (codes "keywords") || bytes_eq name (codes "mailboxIds"))

-- The other properties that a patch names. They may not be sent, whatever their value is: neither
-- the one that the email has nor null (RFC 8621, 4.1: all but two are immutable; that an equal
-- value is rejected is our own).
abbrev pub fixed_names : List (List ℕ × Tree) → List (List ℕ)
fixed_names ms = filter is_fixed (filter_map property_at ms)

-- the name of a property, if its value is invalid
abbrev pub name_unless : {A : Type 0} → Option A → List ℕ → List (List ℕ)
name_unless value name = if is_some value then [] else name ∷ []

-- The names of the invalid properties, in byte order: those that may not be sent, and those of the
-- two whose value is invalid.
abbrev pub bad_names : List (List ℕ × Tree) → Option (List (List ℕ)) → Option (List ℕ)
    → List (List ℕ)
bad_names ms keywords mailboxes =
    sorted_once (slice_cmp nat_cmp)
    (fixed_names ms
    ++ name_unless keywords (codes "keywords") ++ name_unless mailboxes (codes "mailboxIds"))

-- ---- the result

-- the value of a property of the object that results
abbrev pub value_of : List ℕ → Tree → Option Tree
value_of name t = option_and_then (find name) (as_object t)

-- these mailboxes and keywords, if they are within the limits
abbrev pub within_limits : Filing → Refiled
within_limits f =
    if nat_lt MAX_KEYWORDS_PER_EMAIL (length f.keywords) then Rejected TooManyKeywords
    else (if nat_lt MAX_MAILBOXES_PER_EMAIL (length f.mailboxes) then Rejected TooManyMailboxes
    else Filed f)

-- what results, if these are the names of the invalid properties
abbrev pub refiled_unless : List (List ℕ) → Filing → Refiled
refiled_unless [] f = within_limits f
refiled_unless (n ∷ ns) f = Rejected (InvalidProperties (n ∷ ns))

abbrev pub refiled_to : List (List ℕ × Tree) → Option (List (List ℕ)) → Option (List ℕ) → Refiled
refiled_to ms keywords mailboxes =
    refiled_unless (bad_names ms keywords mailboxes)
    (record { mailboxes = unwrap_or mailboxes []; keywords = unwrap_or keywords [] })

abbrev pub refiled_in : List ℕ → List Created → List (List ℕ × Tree) → Patched → Refiled
refiled_in numbers made ms (bad_patch path) = Rejected InvalidPatch
refiled_in numbers made ms (patched t) =
    refiled_to ms (keywords_in (value_of (codes "keywords") t))
    (mailboxes_in numbers made (value_of (codes "mailboxIds") t))

abbrev pub refiled_by : List ℕ → List Created → Filing → List (List ℕ × Tree)
    → Option (List (List ℕ × Tree)) → Refiled
refiled_by numbers made f ms None = Rejected InvalidPatch
refiled_by numbers made f ms (Some changes) =
    refiled_in numbers made ms (patching_by changes (filing_tree f))

abbrev pub refiled_from : List ℕ → List Created → Filing → Option (List (List ℕ × Tree)) → Refiled
refiled_from numbers made f None = Rejected InvalidPatch
refiled_from numbers made f (Some ms) = refiled_by numbers made f ms (meant_changes made ms)

-- What a patch makes of the mailboxes and keywords of an email, in an account with mailboxes of
-- these numbers. It is rejected for the first of these reasons: it is no patch of them
-- (`invalidPatch`), some property may not be sent or its new value is invalid
-- (`invalidProperties`), there are too many keywords, or too many mailboxes.
abbrev pub refiled : List ℕ → List Created → Filing → Tree → Refiled
refiled numbers made f patch = refiled_from numbers made f (as_object patch)
