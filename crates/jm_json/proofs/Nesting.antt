-- The depth of a tree, of the value that it is, and of what was read.
use Rattle.std.proofs.Common.{◌≡◌, ℕ, suc, ◌+◌, ◌<◌, max, List, [], ◌∷◌, ◌++◌, map, take, length, get_or, refl, ap, ap₂, ◌∙◌, arith}
use Rattle.std.proofs.lemmas.List.{map-append, take_more}
use Rattle.serde_json.specs.Data as json
use Rattle.jm_json.specs.Tree.{Tree, null, boolean, number, text, list, object, Trees, no_trees, tree, Fields, no_fields, field, trees_of, fields_of}
use Rattle.jm_json.specs.Json.{tree_of, member_of}
use Rattle.jm_json.specs.JsonValues.{data_of, items_of, members_of}
use Rattle.jm_json.specs.Depth.{depth_of, trees_depth, fields_depth}
use Rattle.jm_json.specs.declared.tree.Json.{Json}
use Rattle.jm_json.specs.declared.tree.Member.{Member}

mutual
  pub depth_of_data : (t : Tree) → json.depth (data_of t) ≡ depth_of t
  depth_of_data null = refl
  depth_of_data (boolean b) = refl
  depth_of_data (number z) = refl
  depth_of_data (text s) = refl
  depth_of_data (list ts) = ap suc (depth_of_items ts)
  depth_of_data (object fs) = ap suc (depth_of_members fs)

  depth_of_items : (ts : Trees) → json.items_depth (items_of ts) ≡ trees_depth ts
  depth_of_items no_trees = refl
  depth_of_items (tree t ts) = ap₂ max (depth_of_data t) (depth_of_items ts)

  depth_of_members : (fs : Fields) → json.members_depth (members_of fs) ≡ fields_depth fs
  depth_of_members no_fields = refl
  depth_of_members (field k t fs) = ap₂ max (depth_of_data t) (depth_of_members fs)

-- one item or member more
items_more : (ts : List Tree) (t : Tree) → trees_depth (trees_of (ts ++ t ∷ [])) ≡ max (trees_depth (trees_of ts)) (depth_of t)
items_more [] t = omega arith
items_more (u ∷ ts) t = omega (arith, items_more ts t)

fields_more : (ms : List (List ℕ × Tree)) (m : List ℕ × Tree) → fields_depth (fields_of (ms ++ m ∷ [])) ≡ max (fields_depth (fields_of ms)) (depth_of m.1)
fields_more [] m = omega arith
fields_more (n ∷ ms) m = omega (arith, fields_more ms m)

pub item_next : (js : List Json) (i : ℕ) (d : Json) → i < length js
    → trees_depth (trees_of (map tree_of (take (i + 1) js))) ≡ max (trees_depth (trees_of (map tree_of (take i js)))) (depth_of (tree_of (get_or js i d)))
item_next js i d h =
    ap (λ xs. trees_depth (trees_of (map tree_of xs))) (take_more js i d h) ∙ ap (λ ts. trees_depth (trees_of ts)) (map-append tree_of (take i js) (get_or js i d ∷ []))
    ∙ items_more (map tree_of (take i js)) (tree_of (get_or js i d))

pub member_next : (ms : List Member) (i : ℕ) (d : Member) → i < length ms
    → fields_depth (fields_of (map member_of (take (i + 1) ms))) ≡ max (fields_depth (fields_of (map member_of (take i ms)))) (depth_of (tree_of (get_or ms i d).value))
member_next ms i d h =
    ap (λ xs. fields_depth (fields_of (map member_of xs))) (take_more ms i d h) ∙ ap (λ ns. fields_depth (fields_of ns)) (map-append member_of (take i ms) (get_or ms i d ∷ []))
    ∙ fields_more (map member_of (take i ms)) (member_of (get_or ms i d))
