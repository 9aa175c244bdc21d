-- The depth of what a list or an object holds is below the size of the list or the object.
use Rattle.std.specs.Prelude.{◌≤◌, max, List, [], ◌∷◌, map}
use Rattle.std.proofs.Common.{arith}
use denote.Param.Weighed.{most}
use Rattle.jm_json.specs.Tree.{trees_of, fields_of}
use Rattle.jm_json.specs.Size.{size_of, trees_size, fields_size}
use Rattle.jm_json.specs.Json.{tree_of, member_of}
use Rattle.jm_json.specs.declared.tree.Json.{Json}
use Rattle.jm_json.specs.declared.tree.Json.TheVariants.{Null, Bool, Int, Text, List as List', Object}
use Rattle.jm_json.specs.declared.tree.Items.TheDeep.{deep-Json, deep-Member}
use Rattle.jm_json.specs.declared.tree.Member.{Member}

pub deep_le : (j : Json) → deep-Json j ≤ size_of (tree_of j)
deep_le Null = omega arith
deep_le (Bool b) = omega arith
deep_le (Int z) = omega arith
deep_le (Text s) = omega arith
deep_le (List' ts) = omega arith
deep_le (Object ms) = omega arith

pub items_deep : (js : List Json)
    → max (most deep-Json js) 0 ≤ trees_size (trees_of (map tree_of js))
items_deep [] = omega arith
items_deep (j ∷ js) = omega (arith, deep_le j, items_deep js)

pub members_deep : (ms : List Member)
    → max (most deep-Member ms) 0 ≤ fields_size (fields_of (map member_of ms))
members_deep [] = omega arith
members_deep (m ∷ ms) = omega (arith, deep_le m.value, members_deep ms)
