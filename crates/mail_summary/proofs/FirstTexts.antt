-- Where the first text among some leaves is.
use Rattle.std.proofs.Common.{◌≡◌, ℕ, true, false, List, [], ◌∷◌, Option, Some, None, refl, subst}
use Rattle.mime_type.specs.PartTrees.{Node, PartTrees}
use Rattle.mime_tree.specs.Places.{IsPlaced, AllPlaced}
use Rattle.mail_summary.specs.Leaves.{leaf_numbered, is_text, if_text, first_text}
use Rattle.mail_summary.proofs.LeafFacts.{leaf_placed}

text_placed : (size : ℕ) (y : Node) (o later : Option Node) → ((x : Node) → o ≡ Some x → IsPlaced size x) → (later ≡ Some y → IsPlaced size y) → if_text o later ≡ Some y → IsPlaced size y
text_placed size y None later placed rest e = rest e
text_placed size y (Some x) later placed rest e =
    elim (is_text x) as (λ b. (elim b [ true ↦ Some x | false ↦ later ]) ≡ Some y → IsPlaced size y) [
      | true ↦ λ h. subst (IsPlaced size) (cc) (placed x refl)
      | false ↦ rest
    ] e

-- the first text is in the message
pub first_placed : (size : ℕ) (f : PartTrees) (ns : List ℕ) (y : Node) → AllPlaced size f → first_text f ns ≡ Some y → IsPlaced size y
first_placed size f [] y all e = cc
first_placed size f (n ∷ ns) y all e = text_placed size y (leaf_numbered n f) (first_text f ns) (λ x is. leaf_placed size n f x all is) (first_placed size f ns y all) e
