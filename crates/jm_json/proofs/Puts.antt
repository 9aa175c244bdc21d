-- A key in an object: its place, what is found, put or taken away there, and that keys still rise.
use Rattle.std.proofs.Common.{Result, Ok, Err, OnOk, OnErr, ◌≡◌, ℕ, zero, suc, ◌+◌, ◌<◌, true, false, Some, None, List, set, insert, [], ◌∷◌, ◌++◌, map, take, drop, length, get_or, Less, Equal, Greater, Ordering, refl, sym, ap, ◌∙◌, subst, arith, add-one, bytes_eq}
use Rattle.std.proofs.lemmas.List.{take_more, drop_more, take-append-drop, map-set, get_or-map, length-map}
use Rattle.std.specs.Ordering.{nat_cmp, ordering_reverse, is_eq}
use Rattle.std.specs.Cmp.Lexicographic.{slice_cmp, nat_list_cmp_total}
use Rattle.std.specs.List.Sorted.{IsStrictlySortedBy}
use Rattle.jm_json.specs.Tree.{Tree}
use Rattle.jm_base.specs.declared.memory.NoMemory.{NoMemory}
use Rattle.std.proofs.lemmas.Cmp.{tied_itself}
use Rattle.std.proofs.lemmas.Slice.Eq.{bytes_eq-Decides}
use Rattle.std.proofs.lemmas.Map.Text.{is_eq-slice_cmp}
use Rattle.jm_json.specs.Find.{find}
use Rattle.jm_json.specs.Patch.{take_away}
use Rattle.jm_json.specs.Order.{KeysRise, put}
use Rattle.jm_json.specs.Json.{tree_of, member_of}
use Rattle.jm_json.specs.KeyIndices.{AllBelow, AllAbove, IsKeyIndex}
use Rattle.jm_json.specs.declared.tree.Member.{Member}
use Rattle.jm_json.specs.declared.tree.KeyIndex.TheVariants.{Held, New}

abbrev Pairs : Type 0
Pairs = List (List ℕ × Tree)

turned : (x y : List ℕ) → slice_cmp nat_cmp x y ≡ Greater → slice_cmp nat_cmp y x ≡ Less
turned x y e = nat_list_cmp_total.antisymm y x ∙ ap ordering_reverse e

above_trans : (k l : List ℕ) (ms : Pairs) → slice_cmp nat_cmp k l ≡ Less → AllAbove l ms → AllAbove k ms
above_trans k l [] h all = tt
above_trans k l (m ∷ ms) h all = (nat_list_cmp_total.trans k l m.0 h all.0, above_trans k l ms h all.1)

above_same : (k l : List ℕ) (ms : Pairs) → slice_cmp nat_cmp k l ≡ Equal → AllAbove l ms → AllAbove k ms
above_same k l [] h all = tt
above_same k l (m ∷ ms) h all = (nat_list_cmp_total.congr k l m.0 h ∙ all.0, above_same k l ms h all.1)

above_put_at : (o : Ordering) (a k : List ℕ) (t : Tree) (m : List ℕ × Tree) (ms : Pairs) → slice_cmp nat_cmp k m.0 ≡ o → slice_cmp nat_cmp a k ≡ Less
    → AllAbove a (m ∷ ms) → AllAbove a (put k t ms) → AllAbove a (put k t (m ∷ ms))
above_put_at Less a k t m ms e h all more = rw e (h, all)
above_put_at Equal a k t m ms e h all more = rw e (h, all.1)
above_put_at Greater a k t m ms e h all more = rw e (all.0, more)

above_put : (a k : List ℕ) (t : Tree) (ms : Pairs) → slice_cmp nat_cmp a k ≡ Less → AllAbove a ms → AllAbove a (put k t ms)
above_put a k t [] h all = (h, tt)
above_put a k t (m ∷ ms) h all = above_put_at _ a k t m ms refl h all (above_put a k t ms h all.1)

rises_at : (o : Ordering) (k : List ℕ) (t : Tree) (m : List ℕ × Tree) (ms : Pairs) → slice_cmp nat_cmp k m.0 ≡ o → KeysRise (m ∷ ms) → KeysRise (put k t ms) → KeysRise (put k t (m ∷ ms))
unfolding IsStrictlySortedBy
rises_at Less k t m ms e rise more = rw e ((e, above_trans k m.0 ms e rise.0), rise)
rises_at Equal k t m ms e rise more = rw e (above_same k m.0 ms e rise.0, rise.1)
rises_at Greater k t m ms e rise more = rw e (above_put m.0 k t ms (turned k m.0 e) rise.0, more)

pub KeysRise-put : (k : List ℕ) (t : Tree) (ms : Pairs) → KeysRise ms → KeysRise (put k t ms)
unfolding IsStrictlySortedBy
KeysRise-put k t [] rise = (tt, tt)
KeysRise-put k t (m ∷ ms) rise = rises_at _ k t m ms refl rise (KeysRise-put k t ms rise.1)

-- ---- what rises below a key that the key is not below

back : (k x y : List ℕ) (o : Ordering) → slice_cmp nat_cmp k y ≡ o → slice_cmp nat_cmp x y ≡ Less → (o ≡ Less → ⊥) → slice_cmp nat_cmp k x ≡ Greater
back k x y Less e h differs = absurd (differs refl)
back k x y Equal e h differs =
    let same : slice_cmp nat_cmp y k ≡ Equal = nat_list_cmp_total.antisymm y k ∙ ap ordering_reverse e in
    nat_list_cmp_total.congr k y x e ∙ (nat_list_cmp_total.antisymm y x ∙ ap ordering_reverse h)
back k x y Greater e h differs =
    nat_list_cmp_total.antisymm k x ∙ ap ordering_reverse (nat_list_cmp_total.trans x y k h (turned k y e))

first_below : (m x : List ℕ × Tree) (xs : Pairs) (ys : Pairs) → AllAbove x.0 (xs ++ m ∷ ys) → slice_cmp nat_cmp x.0 m.0 ≡ Less
first_below m x [] ys all = all.0
first_below m x (z ∷ xs) ys all = first_below m x xs ys all.1

pub below_of : (k : List ℕ) (xs : Pairs) (m : List ℕ × Tree) (ys : Pairs) → KeysRise (xs ++ m ∷ ys) → (slice_cmp nat_cmp k m.0 ≡ Less → ⊥) → AllBelow k xs
unfolding IsStrictlySortedBy
below_of k [] m ys rise differs = tt
below_of k (x ∷ xs) m ys rise differs = (back k x.0 m.0 _ refl (first_below m x xs ys rise.0) differs, below_of k xs m ys rise.1 differs)

-- what rises above a key that is above another
pub above_of : (k : List ℕ) (xs : Pairs) (m : List ℕ × Tree) (ys : Pairs) → KeysRise (xs ++ m ∷ ys) → slice_cmp nat_cmp k m.0 ≡ Less → AllAbove k (m ∷ ys)
unfolding IsStrictlySortedBy
above_of k [] m ys rise e = (e, above_trans k m.0 ys e rise.0)
above_of k (x ∷ xs) m ys rise e = above_of k xs m ys rise.1 e

pub below_more : (k : List ℕ) (xs : Pairs) (m : List ℕ × Tree) → AllBelow k xs → slice_cmp nat_cmp k m.0 ≡ Greater → AllBelow k (xs ++ m ∷ [])
below_more k [] m all e = (e, tt)
below_more k (x ∷ xs) m all e = (all.0, below_more k xs m all.1 e)

-- ---- a key between what is below and what is above it, or at its own

put_first : (k : List ℕ) (t : Tree) (ys : Pairs) → AllAbove k ys → put k t ys ≡ (k, t) ∷ ys
put_first k t [] all = refl
put_first k t (y ∷ ys) all = rw (all.0) refl

pub put_between : (k : List ℕ) (t : Tree) (xs ys : Pairs) → AllBelow k xs → AllAbove k ys → put k t (xs ++ ys) ≡ xs ++ (k, t) ∷ ys
put_between k t [] ys low high = put_first k t ys high
put_between k t (x ∷ xs) ys low high = rw (low.0) (ap (λ zs. x ∷ zs) (put_between k t xs ys low.1 high))

pub put_held : (k : List ℕ) (t : Tree) (xs : Pairs) (m : List ℕ × Tree) (ys : Pairs) → AllBelow k xs → slice_cmp nat_cmp k m.0 ≡ Equal → put k t (xs ++ m ∷ ys) ≡ xs ++ (k, t) ∷ ys
put_held k t [] m ys low e = rw e refl
put_held k t (x ∷ xs) m ys low e = rw (low.0) (ap (λ zs. x ∷ zs) (put_held k t xs m ys low.1 e))

pub same_key : (k x : List ℕ) → x ≡ k → slice_cmp nat_cmp k x ≡ Equal
same_key k x e = subst (λ z. slice_cmp nat_cmp z x ≡ Equal) e (tied_itself nat_list_cmp_total x)

-- keys that compare otherwise are others
other_key : (k x : List ℕ) (o : Ordering) → slice_cmp nat_cmp k x ≡ o → (o ≡ Equal → ⊥) → bytes_eq x k ≡ false
other_key k x o e differs = elim (bytes_eq x k) as (λ b. bytes_eq x k ≡ b → bytes_eq x k ≡ false) [ true ↦ λ same. absurd (differs (sym e ∙ same_key k x ((bytes_eq-Decides x k).0 same))) | false ↦ λ other. other ] refl

pub below_other : (k x : List ℕ) → slice_cmp nat_cmp k x ≡ Greater → bytes_eq x k ≡ false
below_other k x e = other_key k x Greater e (λ l. cc)

above_other : (k x : List ℕ) → slice_cmp nat_cmp k x ≡ Less → bytes_eq x k ≡ false
above_other k x e = other_key k x Less e (λ l. cc)

find_above : (k : List ℕ) (ys : Pairs) → AllAbove k ys → find k ys ≡ None
find_above k [] all = refl
find_above k (y ∷ ys) all = rw (above_other k y.0 all.0) (find_above k ys all.1)

find_between : (k : List ℕ) (xs ys : Pairs) → AllBelow k xs → AllAbove k ys → find k (xs ++ ys) ≡ None
find_between k [] ys low high = find_above k ys high
find_between k (x ∷ xs) ys low high = rw (below_other k x.0 low.0) (find_between k xs ys low.1 high)

find_held : (k : List ℕ) (xs : Pairs) (m : List ℕ × Tree) (ys : Pairs) → AllBelow k xs → bytes_eq m.0 k ≡ true → find k (xs ++ m ∷ ys) ≡ Some m.1
find_held k [] m ys low e = rw e refl
find_held k (x ∷ xs) m ys low e = rw (below_other k x.0 low.0) (find_held k xs m ys low.1 e)

away_above : (k : List ℕ) (ys : Pairs) → AllAbove k ys → take_away k ys ≡ ys
away_above k [] all = refl
away_above k (y ∷ ys) all = rw (above_other k y.0 all.0) (ap (λ zs. y ∷ zs) (away_above k ys all.1))

away_between : (k : List ℕ) (xs ys : Pairs) → AllBelow k xs → AllAbove k ys → take_away k (xs ++ ys) ≡ xs ++ ys
away_between k [] ys low high = away_above k ys high
away_between k (x ∷ xs) ys low high = rw (below_other k x.0 low.0) (ap (λ zs. x ∷ zs) (away_between k xs ys low.1 high))

away_held : (k : List ℕ) (xs : Pairs) (m : List ℕ × Tree) (ys : Pairs) → AllBelow k xs → bytes_eq m.0 k ≡ true → take_away k (xs ++ m ∷ ys) ≡ xs ++ ys
away_held k [] m ys low e = rw e refl
away_held k (x ∷ xs) m ys low e = rw (below_other k x.0 low.0) (ap (λ zs. x ∷ zs) (away_held k xs m ys low.1 e))

-- ---- the three ways that a search by halves continues, at a place of the list

pub split_at : (ms : Pairs) (i : ℕ) (d : List ℕ × Tree) → i < length ms → ms ≡ take i ms ++ get_or ms i d ∷ drop (i + 1) ms
split_at [] i d h = absurd (omega arith)
split_at (m ∷ ms) zero d h = refl
split_at (m ∷ ms) (suc i) d h = rw (add-one) (ap (λ zs. m ∷ zs) (rw (add-one) at (split_at ms i d (omega arith))))

goes_low : (k : List ℕ) (ms : Pairs) (i : ℕ) (d : List ℕ × Tree) → i < length ms → KeysRise ms → slice_cmp nat_cmp k (get_or ms i d).0 ≡ Less → AllAbove k (drop i ms)
goes_low k ms i d h rise e = subst (AllAbove k) (sym (drop_more ms i d h)) (above_of k (take i ms) (get_or ms i d) (drop (i + 1) ms) (subst KeysRise (split_at ms i d h) rise) e)

stays_low : (k : List ℕ) (ms : Pairs) (i : ℕ) (d : List ℕ × Tree) → i < length ms → KeysRise ms → (slice_cmp nat_cmp k (get_or ms i d).0 ≡ Less → ⊥) → AllBelow k (take i ms)
stays_low k ms i d h rise differs = below_of k (take i ms) (get_or ms i d) (drop (i + 1) ms) (subst KeysRise (split_at ms i d h) rise) differs

goes_high : (k : List ℕ) (ms : Pairs) (i : ℕ) (d : List ℕ × Tree) → i < length ms → KeysRise ms → slice_cmp nat_cmp k (get_or ms i d).0 ≡ Greater → AllBelow k (take (i + 1) ms)
goes_high k ms i d h rise e = subst (AllBelow k) (sym (take_more ms i d h)) (below_more k (take i ms) (get_or ms i d) (stays_low k ms i d h rise (λ l. cc)) e)

-- ---- the three ways of a search by halves, over the members themselves

pub named : (ms : List Member) (i : ℕ) (m : Member) → m ≡ get_or ms i m → i < length ms → get_or (map member_of ms) i (member_of m) ≡ member_of m
named ms i m is h = get_or-map member_of ms i m (member_of m) h ∙ ap member_of (sym is)

inside : (ms : List Member) (i : ℕ) → i < length ms → i < length (map member_of ms)
inside ms i h = omega (arith, length-map ms member_of)

pub low_at : (k : List ℕ) (ms : List Member) (i : ℕ) (m : Member) → i < length ms → m ≡ get_or ms i m → KeysRise (map member_of ms) → slice_cmp nat_cmp k m.name ≡ Less → AllAbove k (drop i (map member_of ms))
low_at k ms i m h is rise e = goes_low k (map member_of ms) i (member_of m) (inside ms i h) rise (ap (λ (p : List ℕ × Tree). slice_cmp nat_cmp k p.0) (named ms i m is h) ∙ e)

pub high_at : (k : List ℕ) (ms : List Member) (i : ℕ) (m : Member) → i < length ms → m ≡ get_or ms i m → KeysRise (map member_of ms) → slice_cmp nat_cmp k m.name ≡ Greater → AllBelow k (take (i + 1) (map member_of ms))
high_at k ms i m h is rise e = goes_high k (map member_of ms) i (member_of m) (inside ms i h) rise (ap (λ (p : List ℕ × Tree). slice_cmp nat_cmp k p.0) (named ms i m is h) ∙ e)

pub held_at : (k : List ℕ) (ms : List Member) (i : ℕ) (m : Member) → i < length ms → m ≡ get_or ms i m → KeysRise (map member_of ms) → slice_cmp nat_cmp k m.name ≡ Equal → IsKeyIndex (Held i) k (map member_of ms)
held_at k ms i m h is rise e =
    let there : slice_cmp nat_cmp k (get_or (map member_of ms) i (member_of m)).0 ≡ Equal = ap (λ (p : List ℕ × Tree). slice_cmp nat_cmp k p.0) (named ms i m is h) ∙ e in
    let same : m.name ≡ k = sym ((bytes_eq-Decides k m.name).0 (sym (is_eq-slice_cmp k m.name) ∙ ap is_eq e)) in (
      inside ms i h,
      stays_low k (map member_of ms) i (member_of m) (inside ms i h) rise (λ l. cc),
      λ d. ap (λ (p : List ℕ × Tree). p.0) (get_or-map member_of ms i m d h ∙ ap member_of (sym is)) ∙ same,
    )

-- ---- what is found, put or taken away at a key's place

pub found : (k : List ℕ) (ms : List Member) (i : ℕ) (m : Member) → i < length ms → m ≡ get_or ms i m → IsKeyIndex (Held i) k (map member_of ms) → find k (map member_of ms) ≡ Some (tree_of m.value)
found k ms i m h is place =
    let there = split_at (map member_of ms) i (member_of m) place.0 ∙ ap (λ p. take i (map member_of ms) ++ p ∷ drop (i + 1) (map member_of ms)) (named ms i m is h) in
    let same : m.name ≡ k = sym (ap (λ (p : List ℕ × Tree). p.0) (named ms i m is h)) ∙ place.2 (member_of m) in
    ap (find k) there ∙ find_held k (take i (map member_of ms)) (member_of m) (drop (i + 1) (map member_of ms)) place.1 ((bytes_eq-Decides m.name k).1 same)

pub not_found : (k : List ℕ) (ms : Pairs) (i : ℕ) → IsKeyIndex (New i) k ms → find k ms ≡ None
not_found k ms i place = ap (find k) (sym (take-append-drop i ms)) ∙ find_between k (take i ms) (drop i ms) place.1 place.2

pub not_taken : (k : List ℕ) (ms : Pairs) (i : ℕ) → IsKeyIndex (New i) k ms → take_away k ms ≡ ms
not_taken k ms i place = ap (take_away k) (sym (take-append-drop i ms)) ∙ away_between k (take i ms) (drop i ms) place.1 place.2 ∙ take-append-drop i ms

map_without : (ms : List Member) (i : ℕ) → map member_of (take i ms ++ drop (suc i) ms) ≡ take i (map member_of ms) ++ drop (suc i) (map member_of ms)
map_without [] zero = refl
map_without [] (suc i) = refl
map_without (x ∷ ms) zero = refl
map_without (x ∷ ms) (suc i) = ap (λ zs. member_of x ∷ zs) (map_without ms i)

pub taken : (k : List ℕ) (ms : List Member) (i : ℕ) (m : Member) → i < length ms → m ≡ get_or ms i m → IsKeyIndex (Held i) k (map member_of ms) → take_away k (map member_of ms) ≡ map member_of (take i ms ++ drop (suc i) ms)
taken k ms i m h is place =
    let there = split_at (map member_of ms) i (member_of m) place.0 ∙ ap (λ p. take i (map member_of ms) ++ p ∷ drop (i + 1) (map member_of ms)) (named ms i m is h) in
    let same : m.name ≡ k = sym (ap (λ (p : List ℕ × Tree). p.0) (named ms i m is h)) ∙ place.2 (member_of m) in
    let rest : take i (map member_of ms) ++ drop (i + 1) (map member_of ms) ≡ map member_of (take i ms ++ drop (suc i) ms) = rw (add-one) (sym (map_without ms i)) in
    ap (take_away k) there ∙ away_held k (take i (map member_of ms)) (member_of m) (drop (i + 1) (map member_of ms)) place.1 ((bytes_eq-Decides m.name k).1 same) ∙ rest

put_at_held : (k : List ℕ) (t : Tree) (ms : Pairs) (i : ℕ) → IsKeyIndex (Held i) k ms → put k t ms ≡ take i ms ++ (k, t) ∷ drop (i + 1) ms
put_at_held k t ms i place = ap (put k t) (split_at ms i (k, t) place.0) ∙ put_held k t (take i ms) (get_or ms i (k, t)) (drop (i + 1) ms) place.1 (same_key k _ (place.2 (k, t)))

put_at_new : (k : List ℕ) (t : Tree) (ms : Pairs) (i : ℕ) → IsKeyIndex (New i) k ms → put k t ms ≡ take i ms ++ (k, t) ∷ drop i ms
put_at_new k t ms i place = ap (put k t) (sym (take-append-drop i ms)) ∙ put_between k t (take i ms) (drop i ms) place.1 place.2

set_parts : (ms : Pairs) (i : ℕ) (p : List ℕ × Tree) → i < length ms → set ms i p ≡ take i ms ++ p ∷ drop (i + 1) ms
set_parts [] i p h = absurd (omega arith)
set_parts (m ∷ ms) zero p h = refl
set_parts (m ∷ ms) (suc i) p h = rw (add-one) (ap (λ zs. m ∷ zs) (rw (add-one) at (set_parts ms i p (omega arith))))

-- the members after a write at a key's place
pub written : (k : List ℕ) (t : Tree) (ms : List Member) (i : ℕ) (m : Member) → member_of m ≡ (k, t) → IsKeyIndex (Held i) k (map member_of ms) → map member_of (set ms i m) ≡ put k t (map member_of ms)
written k t ms i m is place =
    map-set member_of ms i m ∙ ap (set (map member_of ms) i) is ∙ set_parts (map member_of ms) i (k, t) place.0 ∙ sym (put_at_held k t (map member_of ms) i place)

map_parts : (ms : List Member) (i : ℕ) (m : Member) → map member_of (take i ms ++ m ∷ drop i ms) ≡ take i (map member_of ms) ++ member_of m ∷ drop i (map member_of ms)
map_parts [] zero m = refl
map_parts [] (suc i) m = refl
map_parts (x ∷ ms) zero m = refl
map_parts (x ∷ ms) (suc i) m = ap (λ zs. member_of x ∷ zs) (map_parts ms i m)

-- and after an insertion there
pub inserted : (k : List ℕ) (t : Tree) (ms : List Member) (i : ℕ) (m : Member) → member_of m ≡ (k, t) → IsKeyIndex (New i) k (map member_of ms) → map member_of (insert ms i m) ≡ put k t (map member_of ms)
inserted k t ms i m is place =
    map_parts ms i m ∙ ap (λ p. take i (map member_of ms) ++ p ∷ drop i (map member_of ms)) is ∙ sym (put_at_new k t (map member_of ms) i place)

-- keys rise after a call that put or failed
pub rises_after : (r : Result (Unit {0}) NoMemory) (k : List ℕ) (t : Tree) (old new : List Member) → OnOk r (map member_of new ≡ put k t (map member_of old)) → OnErr r (new ≡ old)
    → KeysRise (map member_of old) → KeysRise (map member_of new)
rises_after (Ok u) k t old new done same rise = subst KeysRise (sym done) (KeysRise-put k t (map member_of old) rise)
rises_after (Err e) k t old new done same rise = subst (λ ms. KeysRise (map member_of ms)) (sym same) rise

-- a comparison with the name of a member that was read at a place
pub told : (k a : List ℕ) (m n : Member) (o : Ordering) → m ≡ n → a ≡ n.name → o ≡ slice_cmp nat_cmp k a → slice_cmp nat_cmp k m.name ≡ o
told k a m n o is name e = ap (λ (x : Member). slice_cmp nat_cmp k x.name) is ∙ ap (slice_cmp nat_cmp k) (sym name) ∙ sym e

-- what is put at a key twice is what was put last
twice_at : (o : Ordering) (k : List ℕ) (t u : Tree) (m : List ℕ × Tree) (ms : Pairs) → slice_cmp nat_cmp k m.0 ≡ o → put k u (put k t ms) ≡ put k u ms → put k u (put k t (m ∷ ms)) ≡ put k u (m ∷ ms)
twice_at Less k t u m ms e more = rw (e, tied_itself nat_list_cmp_total k) refl
twice_at Equal k t u m ms e more = rw (e, tied_itself nat_list_cmp_total k) refl
twice_at Greater k t u m ms e more = rw (e, e) (ap (λ zs. m ∷ zs) more)

pub put_twice : (k : List ℕ) (t u : Tree) (ms : Pairs) → put k u (put k t ms) ≡ put k u ms
put_twice k t u [] = rw (tied_itself nat_list_cmp_total k) refl
put_twice k t u (m ∷ ms) = twice_at _ k t u m ms refl (put_twice k t u ms)
