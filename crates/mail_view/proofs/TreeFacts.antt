-- The parts of a tree one after another.
use Rattle.std.proofs.Common.{◌≡◌, ℕ, zero, suc, ◌<◌, ◌≤◌, List, [], ◌∷◌, ◌++◌, length, get_or, Some, Bool, true, false, cond, refl, sym, ap, ◌∙◌, append-nil, arith}
use Rattle.std.specs.Prelude.{find, IfSome}
use denote.Ref.{Bor}
use Rattle.mime_type.specs.PartTrees.{Node, PartTrees, none, part, part_count}
use Rattle.mime_type.specs.PartViews.{part_before, joined, node_of}
use Rattle.mime_type.specs.declared.part.Part.{Part}
use Rattle.mime_tree.specs.PartLimit.{walked}
use Rattle.mime_tree.specs.Places.{AllPlaced, IsPlaced}
use Rattle.mail_view.specs.Views.{ArePlaced, nodes_of}

-- a part before others
pub walked-part_before : (p : Part) (later : PartTrees) → walked (part_before p later) ≡ walked (part_before p none) ++ walked later
walked-part_before p later =
    ap (λ (xs : List Node). node_of p ∷ (xs ++ walked later)) (sym (append-nil (walked p.parts)))

pub part_size : (ps : List Part) (i : ℕ) (d : Part) → i < length ps → part_count (part_before (get_or ps i d) none) ≤ part_count (joined ps none)
part_size [] i d h = absurd (omega arith)
part_size (p ∷ ps) zero d h = omega arith
part_size (p ∷ ps) (suc i) d h = omega (arith, part_size ps i d (omega arith))

pub placed_part : (n : ℕ) (ps : List Part) (i : ℕ) (d : Part) → i < length ps → AllPlaced n (joined ps none) → AllPlaced n (part_before (get_or ps i d) none)
placed_part n [] i d h all = absurd (omega arith)
placed_part n (p ∷ ps) zero d h all = (all.0, all.1, tt)
placed_part n (p ∷ ps) (suc i) d h all = placed_part n ps i d (omega arith) all.2

placed_both : (n : ℕ) (xs ys : List Node) → ArePlaced n xs → ArePlaced n ys → ArePlaced n (xs ++ ys)
placed_both n [] ys h k = k
placed_both n (x ∷ xs) ys h k = (h.0, placed_both n xs ys h.1 k)

-- the places of the parts in walk order
pub walked_placed : (n : ℕ) (f : PartTrees) → AllPlaced n f → ArePlaced n (walked f)
walked_placed n none h = tt
walked_placed n (part x inner later) h = (h.0, placed_both n (walked inner) (walked later) (walked_placed n inner h.1) (walked_placed n later h.2))

pub found_placed : (n : ℕ) (test : Node → Bool) (xs : List Node) → ArePlaced n xs → IfSome (find test xs) (IsPlaced n)
found_placed n test [] h = tt
found_placed n test (x ∷ xs) h = elim (test x) as (λ v. IfSome (cond v (Some x) (find test xs)) (IsPlaced n)) [ true ↦ h.0 | false ↦ found_placed n test xs h.1 ]

pub placed_at : (n : ℕ) (ps : List (Bor Part)) (i : ℕ) (d : Bor Part) → i < length ps → ArePlaced n (nodes_of ps) → IsPlaced n (node_of (get_or ps i d).now)
placed_at n [] i d h all = absurd (omega arith)
placed_at n (p ∷ ps) zero d h all = all.0
placed_at n (p ∷ ps) (suc i) d h all = placed_at n ps i d (omega arith) all.1
