-- What is added to lists, and what follows an index of them.
use Rattle.std.proofs.Common.{◌≡◌, ℕ, zero, suc, ◌<◌, ◌≤◌, Bool, true, List, [], ◌∷◌, ◌++◌, length, take, drop, get_or, refl, ap, append_assoc, append-nil, arith}
use Rattle.std.specs.Prelude.{is_some, if◌then◌else◌}
use Rattle.mime_type.specs.PartTrees.{Node, none, part_count}
use Rattle.mime_type.specs.PartViews.{part_before, joined}
use Rattle.mime_type.specs.declared.part.Part.{Part}
use Rattle.body_lists.specs.Lists.{Lists, Open, EnclosingList, both, nothing, or_else, ended, inside, item_gives, leaf_gives}

pub filled : (n : ℕ) (ns other : List ℕ) → n < length ns → ns ≡ take n ns ++ or_else (drop n ns) other
filled n [] other h = absurd (omega arith)
filled zero (m ∷ ns) other h = refl
filled (suc n) (m ∷ ns) other h = ap (λ ms. m ∷ ms) (filled n ns other (omega arith))

pub both-nothing : (a : Lists) → both a nothing ≡ a
both-nothing a = λ i. record { text = append-nil a.text i; html = append-nil a.html i; attachments = append-nil a.attachments i }

pub both-assoc : (a b c : Lists) → both (both a b) c ≡ both a (both b c)
both-assoc a b c = λ i. record {
  text = append_assoc a.text b.text c.text i;
  html = append_assoc a.html b.html c.html i;
  attachments = append_assoc a.attachments b.attachments c.attachments i;
}

pub part_size : (ps : List Part) (i : ℕ) (d : Part) → i < length ps → part_count (part_before (get_or ps i d) none) ≤ part_count (joined ps none)
part_size [] i d h = absurd (omega arith)
part_size (p ∷ ps) zero d h = omega arith
part_size (p ∷ ps) (suc i) d h = omega (arith, part_size ps i d (omega arith))

-- a list to which nothing was added when the other is looked at
pub or_else-twice : (a b : List ℕ) → or_else a (or_else b a) ≡ or_else a b
or_else-twice [] [] = refl
or_else-twice [] (n ∷ ns) = refl
or_else-twice (m ∷ ms) b = refl

pub multipart_gives : (place : EnclosingList) (first : Bool) (taking : Open) (x : Node) (new : Lists) → is_some x.boundary ≡ true → item_gives place first taking x new ≡ ended (inside place x) taking new
multipart_gives place first taking x new h = ap (λ b. if b then ended (inside place x) taking new else leaf_gives place first taking x) h
