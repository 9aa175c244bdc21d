-- Creation ids: the names that a client gives to the records that a request creates, and the
-- references to them (RFC 8620, 3.3 and 5.3).
use Rattle.std.specs.Prelude.{ℕ, List, [], ◌∷◌, Bool, ◌&&◌, ◌==◌, nat_le, nat_lt, Option, Some, None, unwrap_or, option_and_then, if◌then◌else◌, bytes_eq}
use Rattle.std.specs.List.{find as first_that}
use Rattle.std.specs.Option.{option_or}
use Rattle.jm_base.specs.Ids.{id_text}
use Rattle.jm_base.specs.declared.identifiers.Kind.{Kind}
use Rattle.jm_base.specs.declared.identifiers.TheConstants.{NUMBER_LIMIT}
use Rattle.jm_json.specs.declared.invocation.Created.{Created}

-- the id that was created last under a creation id
abbrev pub last_made : List ℕ → List Created → Option (List ℕ)
last_made k [] = None
last_made k (x ∷ xs) =
    option_or (last_made k xs) (if bytes_eq x.creation k then Some x.id else None)

-- the creation id that a string refers to: what follows its `#`
abbrev pub reference : List ℕ → Option (List ℕ)
reference [] = None
reference (x ∷ xs) = if x == 35 then Some xs else None

-- the id that a string or its reference means
abbrev pub by_reference : List Created → List ℕ → Option (List ℕ) → Option (List ℕ)
by_reference made s None = Some s
by_reference made s (Some k) = last_made k made

abbrev pub identifier : List Created → List ℕ → Option (List ℕ)
identifier made s = by_reference made s (reference s)

-- The id under which an object of a set is reported: the one that its reference means, or the
-- string as it was sent (the RFC leaves open what is reported for an unknown reference).
abbrev pub reported_id : List Created → List ℕ → List ℕ
reported_id made s = unwrap_or (identifier made s) s

-- ---- records by their ids

-- the string is the id of the record of this kind and number
abbrev pub is_id : Kind → List ℕ → ℕ → Bool
is_id kind s n =
    nat_le 1 n && nat_lt n NUMBER_LIMIT
    && bytes_eq (id_text (record { kind = kind; number = n })) s

-- the one of these numbers of records of a kind whose id the string is
abbrev pub number_named : Kind → List ℕ → List ℕ → Option ℕ
number_named kind numbers s = first_that (is_id kind s) numbers

-- the one of these numbers that a string means: by its id, or as `#k` by the id that was created
-- last under k
abbrev pub number_meant : Kind → List ℕ → List Created → List ℕ → Option ℕ
number_meant kind numbers made s =
    option_and_then (number_named kind numbers) (identifier made s)
