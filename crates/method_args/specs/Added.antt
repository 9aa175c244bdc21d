-- The items of `added` in a response: records that a result list gained, each with its index in the
-- list that results (RFC 8620, 5.6). Other members of an item are ignored.
use Rattle.std.specs.Prelude.{ℕ, List, [], ◌∷◌, Option, Some, None, option_and_then, option_map, codes}
use Rattle.jm_base.specs.declared.identifiers.AddedItem.{AddedItem}
use Rattle.jm_base.specs.declared.identifiers.Kind.{Kind}
use Rattle.jm_json.specs.Find.{as_list, as_object, find}
use Rattle.jm_json.specs.Tree.{Tree}
use Rattle.method_args.specs.Arguments.{as_count}
use Rattle.method_args.specs.Ids.{id_in}

-- the record's number, in an object with its identifier
abbrev pub added_number : Kind → List (List ℕ × Tree) → Option ℕ
added_number kind ms = option_and_then (id_in kind) (find (codes "id") ms)

-- its index in the list
abbrev pub added_index : List (List ℕ × Tree) → Option ℕ
added_index ms = option_and_then as_count (find (codes "index") ms)

abbrev pub item_by : Option ℕ → Option ℕ → Option AddedItem
item_by None index = None
item_by (Some n) None = None
item_by (Some n) (Some i) = Some (record { number = n; index = i })

abbrev pub item_of_members : Kind → List (List ℕ × Tree) → Option AddedItem
item_of_members kind ms = item_by (added_number kind ms) (added_index ms)

-- the record of the kind and the index that the value says
abbrev pub added_item_in : Kind → Tree → Option AddedItem
added_item_in kind t = option_and_then (item_of_members kind) (as_object t)

-- what the values say, if each says a record and an index
abbrev pub added_from : Kind → List Tree → Option (List AddedItem)
added_from kind [] = Some []
added_from kind (t ∷ ts) =
    option_and_then (λ i. option_map (λ is. i ∷ is) (added_from kind ts)) (added_item_in kind t)

-- what a list of records with their indices says
abbrev pub added_in : Kind → Tree → Option (List AddedItem)
added_in kind t = option_and_then (added_from kind) (as_list t)
