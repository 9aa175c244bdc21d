-- The index of a key in an object, or the index at which it would be inserted.
use Rattle.std.specs.Prelude.{◌≡◌, ℕ, ◌<◌, ◌≤◌, List, length, take, drop, slice_index_or}
use Rattle.std.specs.Ordering.{nat_cmp}
use Rattle.std.specs.Cmp.Lexicographic.{slice_cmp}
use Rattle.std.specs.List.{AllByRecursion}
use Rattle.std.specs.Map.{keys_of}
use Rattle.std.specs.declared.cmp.Ordering.TheVariants.{Less, Greater}
use Rattle.jm_json.specs.Tree.{Tree}
use Rattle.jm_json.specs.declared.tree.KeyIndex.{KeyIndex}
use Rattle.jm_json.specs.declared.tree.KeyIndex.TheVariants.{Held, New}

-- each key is below k
abbrev pub AllBelow : List ℕ → List (List ℕ × Tree) → Type 0
AllBelow k ms = AllByRecursion (λ y. slice_cmp nat_cmp k y ≡ Greater) (keys_of ms)

-- each key is above k
abbrev pub AllAbove : List ℕ → List (List ℕ × Tree) → Type 0
AllAbove k ms = AllByRecursion (λ y. slice_cmp nat_cmp k y ≡ Less) (keys_of ms)

abbrev pub IsKeyIndex : KeyIndex → List ℕ → List (List ℕ × Tree) → Type 0
IsKeyIndex (Held at) k ms =
    (at < length ms) × AllBelow k (take at ms)
    × ((d : List ℕ × Tree) → (slice_index_or ms at d).0 ≡ k)
IsKeyIndex (New at) k ms = (at ≤ length ms) × AllBelow k (take at ms) × AllAbove k (drop at ms)
