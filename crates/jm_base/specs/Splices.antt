-- A change to a list of record numbers, and the list that results (RFC 8620, 5.6: the client
-- removes the ids of `removed` from its list, then inserts each item of `added` in order, at its
-- index).
use Rattle.std.specs.Prelude.{◌≡◌, ℕ, ◌+◌, ◌==◌, nat_le, Bool, false, not, List, [], ◌∷◌, filter, insert, length, Result, Ok, Err, if◌then◌else◌}
use Rattle.std.specs.declared.cmp.Ordering.{Ordering}
use Rattle.std.specs.declared.cmp.Ordering.TheVariants.{Less}
use Rattle.std.specs.List.{list_any}
use Rattle.std.specs.List.Sorted.{IsStrictlySortedBy}
use Rattle.jm_base.specs.declared.identifiers.AddedItem.{AddedItem}

-- the list has this number
abbrev pub has : List ℕ → ℕ → Bool
has list number = list_any (λ n. n == number) list

-- the list without each number that `removed` has
abbrev pub without : List ℕ → List ℕ → List ℕ
without list removed = filter (λ n. not (has removed n)) list

-- The list with the items inserted in order, each at its index. An index may be at most the length
-- of the list at that turn: else the result is the index of that item among all items, where the
-- first of these is at `place`.
abbrev pub insert_all : ℕ → List ℕ → List AddedItem → Result (List ℕ) ℕ
insert_all place list [] = Ok list
insert_all place list (item ∷ items) =
    if nat_le item.index (length list)
    then insert_all (place + 1) (insert list item.index item.number) items
    else Err place

-- the list after the change, or the index in `added` of the first item whose own index is past the
-- list at its turn
abbrev pub splice : List ℕ → List ℕ → List AddedItem → Result (List ℕ) ℕ
splice list removed added = insert_all 0 (without list removed) added

-- the numbers of a list that pass a test, each with its index, where the first number of the list
-- has the index `start`
abbrev pub with_index : (ℕ → Bool) → ℕ → List ℕ → List AddedItem
with_index test start [] = []
with_index test start (n ∷ list) =
    if test n
    then record { number = n; index = start } ∷ with_index test (start + 1) list
    else with_index test (start + 1) list

-- A change that names neither a removed number nor an added item leaves the list as it is.
abbrev pub NothingChanges : Type 0
NothingChanges = (list : List ℕ) → splice list [] [] ≡ Ok list

-- Let the numbers that `removed` does not name be the same in two lists, in the same order. Then
-- the first list, spliced by `removed` and by the named numbers of the second list with their
-- indices, is the second list.
abbrev pub BecomesTheOther : Type 0
BecomesTheOther =
    (old new removed : List ℕ) → without old removed ≡ without new removed
    → splice old removed (with_index (has removed) 0 new) ≡ Ok new

-- no two items are each before the other
abbrev pub IsOneWay : (ℕ → ℕ → Ordering) → Type 0
IsOneWay order = (a b : ℕ) → order a b ≡ Less → order b a ≡ Less → ⊥

-- What a change must touch: two items that it does not touch are in the same order before and
-- after, and an item that it does not touch is in the new list if and only if it is in the old one.
pub record Touches
    (touched : ℕ → Bool) (before after : ℕ → ℕ → Ordering) (old new : List ℕ) : Type 0 where
  pub order : (a b : ℕ) → touched a ≡ false → touched b ≡ false → before a b ≡ after a b
  pub members : (n : ℕ) → touched n ≡ false → has old n ≡ has new n

-- Let a list be strictly sorted by one order and a second list by another order. Then the first
-- list, spliced by what the change touches and by the touched numbers of the second list with their
-- indices, is the second list (RFC 8620, 5.6: `removed` and `added` bring a cached list up to
-- date).
abbrev pub BringsUpToDate : Type 0
BringsUpToDate =
    (touched : ℕ → Bool) (before after : ℕ → ℕ → Ordering) (old new removed : List ℕ)
    → IsOneWay after → Touches touched before after old new
    → IsStrictlySortedBy before old → IsStrictlySortedBy after new
    → ((n : ℕ) → has removed n ≡ touched n)
    → splice old removed (with_index touched 0 new) ≡ Ok new
