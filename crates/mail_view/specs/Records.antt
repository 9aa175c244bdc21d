-- The records that the ids of a get name (RFC 8620, 5.1).
use Rattle.std.specs.Prelude.{ℕ, List, [], ◌∷◌, length, Bool, ◌&&◌, not, nat_le, nat_lt, is_none, Option, Some, None, filter, filter_map, bytes_eq}
use Rattle.std.specs.List.{find as first_that}
use Rattle.jm_base.specs.Ids.{id_text}
use Rattle.jm_base.specs.declared.identifiers.Kind.{Kind}
use Rattle.jm_base.specs.declared.identifiers.TheConstants.{NUMBER_LIMIT}

-- the string is the id of this number: ids are of numbers from 1 and below `NUMBER_LIMIT`
abbrev pub is_id_text : Kind → List ℕ → ℕ → Bool
is_id_text kind id n =
    nat_le 1 n
    && nat_lt n NUMBER_LIMIT
    && bytes_eq (id_text (record { kind = kind; number = n })) id

-- the record that an id names, if it names one, among the records of a kind with these numbers
abbrev pub record_named : {A : Type 0} → Kind → (A → ℕ) → List A → List ℕ → Option A
record_named kind number_of records id =
    first_that (λ r. is_id_text kind id (number_of r)) records

-- these strings, each once, in the order of their first mention
abbrev pub first_mentions : List (List ℕ) → List (List ℕ)
first_mentions [] = []
first_mentions (t ∷ ts) = t ∷ filter (λ s. not (bytes_eq s t)) (first_mentions ts)

-- the records that these ids name, in their order
abbrev pub records_named : {A : Type 0} → (List ℕ → Option A) → List (List ℕ) → List A
records_named named ids = filter_map named ids

-- those of these ids that name no record
abbrev pub naming_none : {A : Type 0} → (List ℕ → Option A) → List (List ℕ) → List (List ℕ)
naming_none named ids = filter (λ id. is_none (named id)) ids

-- The records that are asked for: those that are named, in the order of their first mention, or
-- all, in number order.
abbrev pub asked_records :
    {A : Type 0} → (List ℕ → Option A) → List A → Option (List (List ℕ)) → List A
asked_records named records None = records
asked_records named records (Some ids) = records_named named (first_mentions ids)

-- the ids that name no record, in the order of their first mention
abbrev pub unknown_ids :
    {A : Type 0} → (List ℕ → Option A) → Option (List (List ℕ)) → List (List ℕ)
unknown_ids named None = []
unknown_ids named (Some ids) = naming_none named (first_mentions ids)

-- how many objects are asked for, among this many: each id counts as often as it is mentioned
abbrev pub asked_count : ℕ → Option (List (List ℕ)) → ℕ
asked_count records None = records
asked_count records (Some ids) = length ids
