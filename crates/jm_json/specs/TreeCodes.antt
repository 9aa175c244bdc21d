-- A code for trees, so that a type may be seen as one.
use Rattle.std.specs.Prelude.{◌≡◌, ℕ, zero, suc, ℤ, pos, negsuc, List, [], ◌∷◌, true, false, refl}
use Rattle.std.proofs.Common.{sym, ap, ap₂, ◌∙◌}
use base.Stored.{Coded, Gv, gnil, gnum, gcons}
use Rattle.jm_json.specs.Tree.{Tree, null, boolean, number, text, list, object, Trees, no_trees, tree, Fields, no_fields, field}

abbrev of_numbers : List ℕ → Gv
of_numbers [] = gnil
of_numbers (x ∷ xs) = gcons (gnum x) (of_numbers xs)

abbrev to_numbers : Gv → List ℕ
to_numbers gnil = []
to_numbers (gnum n) = []
to_numbers (gcons gnil r) = []
to_numbers (gcons (gnum n) r) = n ∷ to_numbers r
to_numbers (gcons (gcons a b) r) = []

pub numbers_back : (xs : List ℕ) → to_numbers (of_numbers xs) ≡ xs
numbers_back [] = refl
numbers_back (x ∷ xs) = ap (λ ys. x ∷ ys) (numbers_back xs)

abbrev of_integer : ℤ → Gv
of_integer (pos n) = gcons gnil (gnum n)
of_integer (negsuc n) = gnum n

abbrev to_integer : Gv → ℤ
to_integer gnil = pos 0
to_integer (gnum n) = negsuc n
to_integer (gcons a gnil) = pos 0
to_integer (gcons a (gnum n)) = pos n
to_integer (gcons a (gcons b c)) = pos 0

pub integer_back : (z : ℤ) → to_integer (of_integer z) ≡ z
integer_back (pos n) = refl
integer_back (negsuc n) = refl

abbrev mutual
  of_tree : Tree → Gv
  of_tree null = gnil
  of_tree (boolean false) = gnum 0
  of_tree (boolean true) = gnum 1
  of_tree (number z) = gcons (gnum 0) (of_integer z)
  of_tree (text s) = gcons (gnum 1) (of_numbers s)
  of_tree (list ts) = gcons gnil (of_trees ts)
  of_tree (object fs) = gcons (gcons gnil gnil) (of_fields fs)

  of_trees : Trees → Gv
  of_trees no_trees = gnil
  of_trees (tree t ts) = gcons (of_tree t) (of_trees ts)

  of_fields : Fields → Gv
  of_fields no_fields = gnil
  of_fields (field k t fs) = gcons (of_numbers k) (gcons (of_tree t) (of_fields fs))

-- the kind of the first item says which part follows
abbrev mutual
  to_tree : Gv → Tree
  to_tree gnil = null
  to_tree (gnum zero) = boolean false
  to_tree (gnum (suc n)) = boolean true
  to_tree (gcons (gnum zero) r) = number (to_integer r)
  to_tree (gcons (gnum (suc n)) r) = text (to_numbers r)
  to_tree (gcons gnil r) = list (to_trees r)
  to_tree (gcons (gcons a b) r) = object (to_fields r)

  to_trees : Gv → Trees
  to_trees gnil = no_trees
  to_trees (gnum n) = no_trees
  to_trees (gcons a r) = tree (to_tree a) (to_trees r)

  to_fields : Gv → Fields
  to_fields gnil = no_fields
  to_fields (gnum n) = no_fields
  to_fields (gcons a gnil) = no_fields
  to_fields (gcons a (gnum n)) = no_fields
  to_fields (gcons a (gcons b c)) = field (to_numbers a) (to_tree b) (to_fields c)

mutual
  pub tree_back : (t : Tree) → to_tree (of_tree t) ≡ t
  tree_back null = refl
  tree_back (boolean false) = refl
  tree_back (boolean true) = refl
  tree_back (number z) = ap number (integer_back z)
  tree_back (text s) = ap text (numbers_back s)
  tree_back (list ts) = ap list (trees_back ts)
  tree_back (object fs) = ap object (fields_back fs)

  pub trees_back : (ts : Trees) → to_trees (of_trees ts) ≡ ts
  trees_back no_trees = refl
  trees_back (tree t ts) = ap₂ tree (tree_back t) (trees_back ts)

  pub fields_back : (fs : Fields) → to_fields (of_fields fs) ≡ fs
  fields_back no_fields = refl
  fields_back (field k t fs) =
      ap (λ s. field s (to_tree (of_tree t)) (to_fields (of_fields fs))) (numbers_back k)
      ∙ ap₂ (field k) (tree_back t) (fields_back fs)

abbrev pub tree_code : Coded Tree
tree_code =
    record { code = of_tree; inj = λ s t e. sym (tree_back s) ∙ (ap to_tree e ∙ tree_back t) }
