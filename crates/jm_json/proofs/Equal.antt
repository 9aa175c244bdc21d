-- The test of two trees says whether they are equal.
use Rattle.std.proofs.Common.{Decides, ◌≡◌, Bool, true, false, ◌&&◌, refl, subst, ap, ap₂, ◌∙◌, bytes_eq}
use Rattle.std.specs.Cmp.{signed_Decides}
use Rattle.std.proofs.lemmas.Bool.{false≢true}
use Rattle.jm_json.specs.Tree.{Tree, null, boolean, number, text, list, object, Trees, no_trees, tree, Fields, no_fields, field}
use Rattle.jm_json.specs.Equality.{are_same_fields, are_same_trees, is_same, is_same_truth}
use Rattle.std.proofs.lemmas.Slice.Eq.{bytes_eq-Decides}

both : (a b : Bool) → (a && b) ≡ true → (a ≡ true) × (b ≡ true)
both true b e = (refl, e)
both false b e = absurd (false≢true e)

same_truths : (a b : Bool) → is_same_truth a b ≡ true → a ≡ b
same_truths true true e = refl
same_truths true false e = absurd (false≢true e)
same_truths false true e = absurd (false≢true e)
same_truths false false e = refl

mutual
  pub equal_if_same : (s t : Tree) → is_same s t ≡ true → s ≡ t
  equal_if_same null null e = refl
  equal_if_same (boolean a) (boolean b) e = ap boolean (same_truths a b e)
  equal_if_same (number y) (number z) e = ap number ((signed_Decides y z).0 e)
  equal_if_same (text s) (text t) e = ap text ((bytes_eq-Decides s t).0 e)
  equal_if_same (list ss) (list ts) e = ap list (equal_trees ss ts e)
  equal_if_same (object fs) (object gs) e = ap object (equal_fields fs gs e)
  equal_if_same _ _ e = absurd (false≢true e)

  pub equal_trees : (ss ts : Trees) → are_same_trees ss ts ≡ true → ss ≡ ts
  equal_trees no_trees no_trees e = refl
  equal_trees (tree s ss) (tree t ts) e =
      let h = both (is_same s t) (are_same_trees ss ts) e in
      ap₂ tree (equal_if_same s t h.0) (equal_trees ss ts h.1)
  equal_trees _ _ e = absurd (false≢true e)

  pub equal_fields : (fs gs : Fields) → are_same_fields fs gs ≡ true → fs ≡ gs
  equal_fields no_fields no_fields e = refl
  equal_fields (field j s fs) (field k t gs) e =
      let h = both (bytes_eq j k && is_same s t) (are_same_fields fs gs) e in
      let m = both (bytes_eq j k) (is_same s t) h.0 in
      ap (λ x. field x s fs) ((bytes_eq-Decides j k).0 m.0) ∙ ap₂ (field k) (equal_if_same s t m.1) (equal_fields fs gs h.1)
  equal_fields _ _ e = absurd (false≢true e)

same_truth : (b : Bool) → is_same_truth b b ≡ true
same_truth true = refl
same_truth false = refl

mutual
  same_as_itself : (t : Tree) → is_same t t ≡ true
  same_as_itself null = refl
  same_as_itself (boolean b) = same_truth b
  same_as_itself (number z) = (signed_Decides z z).1 refl
  same_as_itself (text s) = (bytes_eq-Decides s s).1 refl
  same_as_itself (list ts) = same_trees ts
  same_as_itself (object fs) = same_fields fs

  same_trees : (ts : Trees) → are_same_trees ts ts ≡ true
  same_trees no_trees = refl
  same_trees (tree t ts) = rw (same_as_itself t, same_trees ts) refl

  same_fields : (fs : Fields) → are_same_fields fs fs ≡ true
  same_fields no_fields = refl
  same_fields (field k t fs) = rw ((bytes_eq-Decides k k).1 refl, same_as_itself t, same_fields fs) refl

pub is_same_decides : (s t : Tree) → Decides (is_same s t) (s ≡ t)
is_same_decides s t = (λ e. equal_if_same s t e, λ e. subst (λ u. is_same s u ≡ true) e (same_as_itself s))
