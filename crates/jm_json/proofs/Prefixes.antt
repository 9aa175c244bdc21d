-- Paths that continue from another, among paths in the order of their bytes: they are where the
-- path with a slash after it would be.
use Rattle.std.proofs.Common.{◌≡◌, ℕ, ◌+◌, ◌<◌, ◌≤◌, List, [], ◌∷◌, ◌++◌, length, take, drop, get_or, true, false, eqb, ◌&&◌, ◌||◌, Less, Equal, Greater, Ordering, refl, sym, ap, ◌∙◌, subst, arith}
use Rattle.std.proofs.lemmas.List.{drop_more, drop_all, take-append-drop}
use Rattle.std.proofs.lemmas.Bool.Decides.{nat_tests}
use Rattle.std.proofs.lemmas.Cmp.{ranked}
use Rattle.std.specs.Ordering.{nat_cmp, ordering_then, MatchOrdering}
use Rattle.std.specs.Cmp.Lexicographic.{slice_cmp}
use Rattle.std.specs.List.Sorted.{IsStrictlySortedBy}
use Rattle.jm_json.specs.Tree.{Tree, null}
use Rattle.jm_json.specs.Order.{KeysRise}
use Rattle.jm_json.specs.KeyIndices.{AllBelow, AllAbove, IsKeyIndex}
use Rattle.jm_json.specs.Patch.{goes_on, is_prefix}
use Rattle.jm_json.specs.declared.tree.KeyIndex.TheVariants.{Held, New}
use Rattle.jm_json.proofs.Puts.{split_at}

abbrev Pairs : Type 0
Pairs = List (List ℕ × Tree)

-- ---- what the comparison of two lists says of their first numbers

cmp_same : (x y : ℕ) → eqb x y ≡ true → nat_cmp x y ≡ Equal
cmp_same x y e = grind (arith, nat_tests)

first_at : (a b : ℕ) (r o : Ordering) → MatchOrdering r (a < b) (a ≡ b) (b < a) → ordering_then r o ≡ Less → a ≤ b
first_at a b Less o h e = omega (arith, h)
first_at a b Equal o h e = omega (arith, h)
first_at a b Greater o h e = absurd (cc)

first_le : (a b : ℕ) (o : Ordering) → ordering_then (nat_cmp a b) o ≡ Less → a ≤ b
first_le a b o e = first_at a b (nat_cmp a b) o (ranked a b (nat_cmp a b) refl) e

-- ---- a path below, at or above the path with a slash

below_slash : (y : ℕ) (ys : List ℕ) → slice_cmp nat_cmp (47 ∷ []) (y ∷ ys) ≡ Greater → eqb y 47 ≡ true → ⊥
below_slash y [] e same = let here : nat_cmp 47 y ≡ Equal = cmp_same 47 y (grind (arith, nat_tests)) in let bad : Equal ≡ Greater = rw here at e in cc
below_slash y (z ∷ ys) e same = let here : nat_cmp 47 y ≡ Equal = cmp_same 47 y (grind (arith, nat_tests)) in let bad : Less ≡ Greater = rw here at e in cc

below_no : (p y : List ℕ) → slice_cmp nat_cmp (p ++ 47 ∷ []) y ≡ Greater → goes_on p y ≡ false
below_no [] [] e = refl
below_no [] (y ∷ ys) e = elim (eqb y 47) as (λ b. eqb y 47 ≡ b → b ≡ false) [ true ↦ λ same. absurd (below_slash y ys e same) | false ↦ λ same. refl ] refl
below_no (x ∷ xs) [] e = refl
below_no (x ∷ xs) (y ∷ ys) e = elim (eqb x y) as (λ b. eqb x y ≡ b → b && goes_on xs ys ≡ false) [ true ↦ λ same. below_no xs ys (rw (cmp_same x y same) at e) | false ↦ λ same. refl ] refl

at_slash : (p : List ℕ) → goes_on p (p ++ 47 ∷ []) ≡ true
at_slash [] = refl
at_slash (x ∷ xs) = let same : eqb x x ≡ true = grind (arith, nat_tests) in rw same (at_slash xs)

-- what is above a path that is above the slash, and does not continue, does not either
above_slash : (a b : ℕ) (more bs : List ℕ) → slice_cmp nat_cmp (47 ∷ []) (a ∷ more) ≡ Less → eqb a 47 ≡ false → slice_cmp nat_cmp (a ∷ more) (b ∷ bs) ≡ Less → eqb b 47 ≡ false
above_slash a b more bs e other up =
    let low : 47 ≤ a = first_le 47 a (slice_cmp nat_cmp [] more) e in
    let high : a ≤ b = first_le a b (slice_cmp nat_cmp more bs) up in
    grind (arith, nat_tests)

above_no : (p x y : List ℕ) → slice_cmp nat_cmp (p ++ 47 ∷ []) x ≡ Less → goes_on p x ≡ false → slice_cmp nat_cmp x y ≡ Less → goes_on p y ≡ false
above_no [] x [] e stops up = refl
above_no (c ∷ cs) x [] e stops up = refl
above_no [] [] (b ∷ bs) e stops up = absurd (cc)
above_no (c ∷ cs) [] (b ∷ bs) e stops up = absurd (cc)
above_no [] (a ∷ more) (b ∷ bs) e stops up = above_slash a b more bs e stops up
above_no (c ∷ cs) (a ∷ more) (b ∷ bs) e stops up =
    elim (eqb c b) as (λ t. eqb c b ≡ t → t && goes_on cs bs ≡ false) [
      | true ↦ λ same.
          (let low : c ≤ a = first_le c a (slice_cmp nat_cmp (cs ++ 47 ∷ []) more) e in
          let high : a ≤ b = first_le a b (slice_cmp nat_cmp more bs) up in
          let first : eqb c a ≡ true = grind (arith, nat_tests) in
          let next : eqb a b ≡ true = grind (arith, nat_tests) in
          above_no cs more bs (rw (cmp_same c a first) at e) (rw first at stops) (rw (cmp_same a b next) at up))
      | false ↦ λ same. refl
    ] refl

-- ---- the paths of an object, below, at or above the path with a slash

prefix_below : (p : List ℕ) (xs ys : Pairs) → AllBelow (p ++ 47 ∷ []) xs → is_prefix p (xs ++ ys) ≡ is_prefix p ys
prefix_below p [] ys low = refl
prefix_below p (x ∷ xs) ys low = rw (below_no p x.0 low.0) (prefix_below p xs ys low.1)

prefix_above : (p x : List ℕ) (ys : Pairs) → slice_cmp nat_cmp (p ++ 47 ∷ []) x ≡ Less → goes_on p x ≡ false → AllAbove x ys → is_prefix p ys ≡ false
prefix_above p x [] e stops all = refl
prefix_above p x (y ∷ ys) e stops all = rw (above_no p x y.0 e stops all.0) (prefix_above p x ys e stops all.1)

rest_above : (xs : Pairs) (m : List ℕ × Tree) (ys : Pairs) → KeysRise (xs ++ m ∷ ys) → AllAbove m.0 ys
unfolding IsStrictlySortedBy
rest_above [] m ys rise = rise.0
rest_above (x ∷ xs) m ys rise = rest_above xs m ys rise.1

pub prefix_held : (p : List ℕ) (ms : Pairs) (i : ℕ) → IsKeyIndex (Held i) (p ++ 47 ∷ []) ms → is_prefix p ms ≡ true
prefix_held p ms i place =
    let d : List ℕ × Tree = get_or ms i (p, null) in
    let here : goes_on p (get_or ms i d).0 ≡ true = ap (goes_on p) (place.2 d) ∙ at_slash p in
    ap (is_prefix p) (split_at ms i d place.0) ∙ prefix_below p (take i ms) (get_or ms i d ∷ drop (i + 1) ms) place.1 ∙ (rw here refl)

pub prefix_past : (p : List ℕ) (ms : Pairs) (i : ℕ) → length ms ≤ i → IsKeyIndex (New i) (p ++ 47 ∷ []) ms → is_prefix p ms ≡ false
prefix_past p ms i h place =
    ap (is_prefix p) (sym (take-append-drop i ms)) ∙ prefix_below p (take i ms) (drop i ms) place.1 ∙ ap (is_prefix p) (drop_all i ms h)

pub prefix_new : (p : List ℕ) (ms : Pairs) (i : ℕ) (d : List ℕ × Tree) → i < length ms → KeysRise ms → IsKeyIndex (New i) (p ++ 47 ∷ []) ms → is_prefix p ms ≡ goes_on p (get_or ms i d).0
prefix_new p ms i d h rise place =
    let m = get_or ms i d in
    let rest = drop (i + 1) ms in
    let parts = split_at ms i d h in
    let over : slice_cmp nat_cmp (p ++ 47 ∷ []) m.0 ≡ Less = (subst (AllAbove (p ++ 47 ∷ [])) (drop_more ms i d h) place.2).0 in
    let above : AllAbove m.0 rest = rest_above (take i ms) m rest (subst KeysRise parts rise) in
    ap (is_prefix p) parts ∙ prefix_below p (take i ms) (m ∷ rest) place.1
    ∙ elim (goes_on p m.0) as (λ b. goes_on p m.0 ≡ b → b || is_prefix p rest ≡ b) [ true ↦ λ e. refl | false ↦ λ e. prefix_above p m.0 rest over e above ] refl
