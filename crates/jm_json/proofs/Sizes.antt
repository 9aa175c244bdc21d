-- A place of a list is no larger than the list.
use Rattle.std.proofs.Common.{ℕ, zero, suc, ◌≤◌, ◌<◌, List, [], ◌∷◌, map, length, get_or, arith}
use Rattle.jm_json.specs.Tree.{trees_of, fields_of}
use Rattle.jm_json.specs.Size.{size_of, trees_size, fields_size}
use Rattle.jm_json.specs.Json.{tree_of, member_of}
use Rattle.jm_json.specs.declared.tree.Json.{Json}
use Rattle.jm_json.specs.declared.tree.Member.{Member}

pub item_size : (js : List Json) (i : ℕ) (d : Json) → i < length js → size_of (tree_of (get_or js i d)) ≤ trees_size (trees_of (map tree_of js))
item_size [] i d h = absurd (omega arith)
item_size (j ∷ js) zero d h = omega arith
item_size (j ∷ js) (suc i) d h = let below = item_size js i d (omega arith) in omega arith

pub member_size : (ms : List Member) (i : ℕ) (d : Member) → i < length ms → size_of (tree_of (get_or ms i d).value) ≤ fields_size (fields_of (map member_of ms))
member_size [] i d h = absurd (omega arith)
member_size (m ∷ ms) zero d h = omega arith
member_size (m ∷ ms) (suc i) d h = let below = member_size ms i d (omega arith) in omega arith
