-- Whether lists are the same, item by item.
use Rattle.std.proofs.Common.{◌≡◌, ◌≢◌, ℕ, suc, ◌+◌, ◌<◌, Bool, true, false, ◌&&◌, List, [], ◌∷◌, map, length, get_or, drop, refl, sym, ap, ◌∙◌, bytes_eq}
use Rattle.std.proofs.lemmas.List.{drop_more}
use Rattle.jm_json.specs.Tree.{trees_of, fields_of}
use Rattle.jm_json.specs.Json.{tree_of, member_of}
use Rattle.jm_json.specs.declared.tree.Json.{Json}
use Rattle.jm_json.specs.declared.tree.Member.{Member}
use Rattle.jm_json.specs.Equality.{are_same_fields, are_same_trees, is_same}

abbrev pub trees_tested : List Json → List Json → Bool
trees_tested xs ys = are_same_trees (trees_of (map tree_of xs)) (trees_of (map tree_of ys))

abbrev pub fields_tested : List Member → List Member → Bool
fields_tested xs ys = are_same_fields (fields_of (map member_of xs)) (fields_of (map member_of ys))

and_false : (b : Bool) → (b && false) ≡ false
and_false true = refl
and_false false = refl

-- lists of different lengths differ
pub trees_of_lengths : (xs ys : List Json) → length xs ≢ length ys → trees_tested xs ys ≡ false
trees_of_lengths [] [] ne = absurd (ne refl)
trees_of_lengths [] (y ∷ ys) ne = refl
trees_of_lengths (x ∷ xs) [] ne = refl
trees_of_lengths (x ∷ xs) (y ∷ ys) ne =
    ap (λ b. is_same (tree_of x) (tree_of y) && b) (trees_of_lengths xs ys (λ e. ne (ap suc e))) ∙ and_false (is_same (tree_of x) (tree_of y))

pub fields_of_lengths : (xs ys : List Member) → length xs ≢ length ys → fields_tested xs ys ≡ false
fields_of_lengths [] [] ne = absurd (ne refl)
fields_of_lengths [] (y ∷ ys) ne = refl
fields_of_lengths (x ∷ xs) [] ne = refl
fields_of_lengths (x ∷ xs) (y ∷ ys) ne =
    ap (λ b. bytes_eq x.name y.name && is_same (tree_of x.value) (tree_of y.value) && b) (fields_of_lengths xs ys (λ e. ne (ap suc e)))
    ∙ and_false (bytes_eq x.name y.name && is_same (tree_of x.value) (tree_of y.value))

-- the items at one place, and those after
pub trees_step : (xs ys : List Json) (i : ℕ) (x y : Json) → i < length xs → i < length ys → x ≡ get_or xs i x → y ≡ get_or ys i y
    → trees_tested (drop i xs) (drop i ys) ≡ (is_same (tree_of x) (tree_of y) && trees_tested (drop (i + 1) xs) (drop (i + 1) ys))
trees_step xs ys i x y lx ly ex ey =
    rw (drop_more xs i x lx, drop_more ys i y ly, sym ex, sym ey) refl

pub fields_step : (xs ys : List Member) (i : ℕ) (x y : Member) → i < length xs → i < length ys → x ≡ get_or xs i x → y ≡ get_or ys i y
    → fields_tested (drop i xs) (drop i ys) ≡ (bytes_eq x.name y.name && is_same (tree_of x.value) (tree_of y.value) && fields_tested (drop (i + 1) xs) (drop (i + 1) ys))
fields_step xs ys i x y lx ly ex ey =
    rw (drop_more xs i x lx, drop_more ys i y ly, sym ex, sym ey) refl
