-- What is found in a walk of parts.
use Rattle.std.proofs.Common.{◌≡◌, ℕ, zero, suc, ◌<◌, ◌≤◌, Bool, true, false, List, [], ◌∷◌, ◌++◌, length, get_or, drop, Some, refl, sym, ap, ◌∙◌, append-nil, arith, subst, add-one, ◌+◌}
use Rattle.std.specs.Prelude.{find, ◌||◌, if◌then◌else◌}
use Rattle.std.specs.List.{list_any}
use Rattle.std.specs.Option.{option_or}
use Rattle.mime_type.specs.PartTrees.{Node, PartTrees, none, part, part_count}
use Rattle.mime_type.specs.PartViews.{part_before, joined, node_of}
use Rattle.mime_type.specs.declared.part.Part.{Part}
use Rattle.mime_tree.specs.PartLimit.{walked}
use Rattle.mime_tree.specs.Places.{IsPlaced, AllPlaced}
use Rattle.mail_summary.specs.Leaves.{has_number, leaf_numbered}

pub part_size : (ps : List Part) (i : ℕ) (d : Part) → i < length ps → part_count (part_before (get_or ps i d) none) ≤ part_count (joined ps none)
part_size [] i d h = absurd (omega arith)
part_size (p ∷ ps) zero d h = omega arith
part_size (p ∷ ps) (suc i) d h = omega (arith, part_size ps i d (omega arith))

-- the first that passes, of two lists
pub find_append : (p : Node → Bool) (xs ys : List Node) → find p (xs ++ ys) ≡ option_or (find p xs) (find p ys)
find_append p [] ys = refl
find_append p (x ∷ xs) ys = elim (p x) as (λ b. (if b then Some x else find p (xs ++ ys)) ≡ option_or (if b then Some x else find p xs) (find p ys)) [ true ↦ refl | false ↦ find_append p xs ys ]

pub any_append : (p : Node → Bool) (xs ys : List Node) → list_any p (xs ++ ys) ≡ (list_any p xs || list_any p ys)
any_append p [] ys = refl
any_append p (x ∷ xs) ys = elim (p x) as (λ b. (b || list_any p (xs ++ ys)) ≡ ((b || list_any p xs) || list_any p ys)) [ true ↦ refl | false ↦ any_append p xs ys ]

-- all these byte offsets are in order
abbrev pub AllStand : ℕ → List Node → Type 0
AllStand size [] = Unit {0}
AllStand size (x ∷ xs) = IsPlaced size x × AllStand size xs

stand_append : (size : ℕ) (xs ys : List Node) → AllStand size xs → AllStand size ys → AllStand size (xs ++ ys)
stand_append size [] ys a b = b
stand_append size (x ∷ xs) ys a b = (a.0, stand_append size xs ys a.1 b)

stand_walked : (size : ℕ) (f : PartTrees) → AllPlaced size f → AllStand size (walked f)
stand_walked size none all = tt
stand_walked size (part x inner later) all = (all.0, stand_append size (walked inner) (walked later) (stand_walked size inner all.1) (stand_walked size later all.2))

found_stands : (size n : ℕ) (xs : List Node) (y : Node) → AllStand size xs → find (has_number n) xs ≡ Some y → IsPlaced size y
found_stands size n [] y all e = cc
found_stands size n (x ∷ xs) y all e =
    elim (has_number n x) as (λ b. (if b then Some x else find (has_number n) xs) ≡ Some y → IsPlaced size y) [
      | true ↦ λ h. subst (IsPlaced size) (cc) all.0
      | false ↦ λ h. found_stands size n xs y all.1 h
    ] e

-- a leaf that is found is in the message
pub leaf_placed : (size n : ℕ) (f : PartTrees) (y : Node) → AllPlaced size f → leaf_numbered n f ≡ Some y → IsPlaced size y
leaf_placed size n f y all e = found_stands size n (walked f) y (stand_walked size f all) e

find_node : (n : ℕ) (p : Part) (later : List Node) → find (has_number n) (node_of p ∷ (walked p.parts ++ later)) ≡ option_or (leaf_numbered n (part_before p none)) (find (has_number n) later)
find_node n p later =
    find_append (has_number n) (node_of p ∷ walked p.parts) later
    ∙ ap (λ xs. option_or (find (has_number n) (node_of p ∷ xs)) (find (has_number n) later)) (sym (append-nil (walked p.parts)))

found_first : (n i : ℕ) (ps : List Part) (d : Part) → i < length ps → leaf_numbered n (joined (drop i ps) none) ≡ option_or (leaf_numbered n (part_before (get_or ps i d) none)) (leaf_numbered n (joined (drop (suc i) ps) none))
found_first n i [] d h = absurd (omega arith)
found_first n zero (p ∷ ps) d h = find_node n p (walked (joined ps none))
found_first n (suc i) (p ∷ ps) d h = found_first n i ps d (omega arith)

-- a leaf of a part is before those of the later ones
pub found_next : (n i : ℕ) (ps : List Part) (p : Part) → i < length ps → p ≡ get_or ps i p → leaf_numbered n (joined (drop i ps) none) ≡ option_or (leaf_numbered n (part_before p none)) (leaf_numbered n (joined (drop (i + 1) ps) none))
found_next n i ps p h is =
    found_first n i ps p h
    ∙ ap (λ q. option_or (leaf_numbered n (part_before q none)) (leaf_numbered n (joined (drop (suc i) ps) none))) (sym is)
    ∙ ap (λ k. option_or (leaf_numbered n (part_before p none)) (leaf_numbered n (joined (drop k ps) none))) (sym (add-one i))
