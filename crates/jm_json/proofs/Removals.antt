-- A member taken away from an object, and put back.
use Rattle.std.proofs.Common.{◌≡◌, ℕ, List, [], ◌∷◌, Bool, true, false, Some, None, Less, Equal, Greater, refl, ap, ◌∙◌, subst}
use Rattle.std.specs.Str.{bytes_eq}
use Rattle.std.specs.Ordering.{nat_cmp, ordering_reverse}
use Rattle.std.specs.List.{AllByRecursion}
use Rattle.std.specs.List.Sorted.{IsStrictlySortedBy}
use Rattle.std.specs.Map.{keys_of}
use Rattle.std.specs.Cmp.Lexicographic.{slice_cmp, nat_list_cmp_total}
use Rattle.std.proofs.lemmas.Cmp.{tied_itself}
use Rattle.std.proofs.lemmas.Slice.Eq.{bytes_eq-Decides}
use Rattle.jm_json.specs.Tree.{Tree}
use Rattle.jm_json.specs.Find.{find}
use Rattle.jm_json.specs.Order.{KeysRise, put}
use Rattle.jm_json.specs.Patch.{take_away}

abbrev Pairs : Type 0
Pairs = List (List ℕ × Tree)

abbrev AllAbove : List ℕ → Pairs → Type 0
AllAbove k ms = AllByRecursion (λ y. slice_cmp nat_cmp k y ≡ Less) (keys_of ms)

above_at : (b : Bool) (a k : List ℕ) (m : List ℕ × Tree) (ms : Pairs) → bytes_eq m.0 k ≡ b → AllAbove a (m ∷ ms) → AllAbove a (take_away k ms) → AllAbove a (take_away k (m ∷ ms))
above_at true a k m ms e all more = rw e (all.1)
above_at false a k m ms e all more = rw e (all.0, more)

above_without : (a k : List ℕ) (ms : Pairs) → AllAbove a ms → AllAbove a (take_away k ms)
above_without a k [] all = tt
above_without a k (m ∷ ms) all = above_at _ a k m ms refl all (above_without a k ms all.1)

rises_at : (b : Bool) (k : List ℕ) (m : List ℕ × Tree) (ms : Pairs) → bytes_eq m.0 k ≡ b → KeysRise (m ∷ ms) → KeysRise (take_away k ms) → KeysRise (take_away k (m ∷ ms))
unfolding IsStrictlySortedBy
rises_at true k m ms e rise more = rw e (rise.1)
rises_at false k m ms e rise more = rw e (above_without m.0 k ms rise.0, more)

pub KeysRise-take_away : (k : List ℕ) (ms : Pairs) → KeysRise ms → KeysRise (take_away k ms)
unfolding IsStrictlySortedBy
KeysRise-take_away k [] rise = tt
KeysRise-take_away k (m ∷ ms) rise = rises_at _ k m ms refl rise (KeysRise-take_away k ms rise.1)

absent_at : (b : Bool) (k : List ℕ) (m : List ℕ × Tree) (ms : Pairs) → bytes_eq m.0 k ≡ b → find k (m ∷ ms) ≡ None → (find k ms ≡ None → take_away k ms ≡ ms) → take_away k (m ∷ ms) ≡ m ∷ ms
absent_at true k m ms e none more = absurd (let never : Some m.1 ≡ None = rw e at none in cc)
absent_at false k m ms e none more = rw e (ap (λ ys. m ∷ ys) (more (rw e at none)))

pub take_away-absent : (k : List ℕ) (ms : Pairs) → find k ms ≡ None → take_away k ms ≡ ms
take_away-absent k [] none = refl
take_away-absent k (m ∷ ms) none = absent_at _ k m ms refl none (take_away-absent k ms)

put_first : (k : List ℕ) (v : Tree) (ms : Pairs) → AllAbove k ms → put k v ms ≡ (k, v) ∷ ms
put_first k v [] all = refl
put_first k v (m ∷ ms) all = rw (all.0) refl

found_above_at : (b : Bool) (a k : List ℕ) (u : Tree) (m : List ℕ × Tree) (ms : Pairs) → bytes_eq m.0 k ≡ b → AllAbove a (m ∷ ms) → find k (m ∷ ms) ≡ Some u → (find k ms ≡ Some u → slice_cmp nat_cmp a k ≡ Less) → slice_cmp nat_cmp a k ≡ Less
found_above_at true a k u m ms e all found more = subst (λ y. slice_cmp nat_cmp a y ≡ Less) ((bytes_eq-Decides m.0 k).0 e) all.0
found_above_at false a k u m ms e all found more = more (rw e at found)

found_above : (a k : List ℕ) (u : Tree) (ms : Pairs) → AllAbove a ms → find k ms ≡ Some u → slice_cmp nat_cmp a k ≡ Less
found_above a k u [] all found = absurd (cc)
found_above a k u (m ∷ ms) all found = found_above_at _ a k u m ms refl all found (found_above a k u ms all.1)

turned : (x y : List ℕ) → slice_cmp nat_cmp x y ≡ Less → slice_cmp nat_cmp y x ≡ Greater
turned x y e = nat_list_cmp_total.antisymm y x ∙ ap ordering_reverse e

same_key : (x y : List ℕ) → x ≡ y → slice_cmp nat_cmp y x ≡ Equal
same_key x y e = subst (λ z. slice_cmp nat_cmp z x ≡ Equal) e (tied_itself nat_list_cmp_total x)

back_at : (b : Bool) (k : List ℕ) (u v : Tree) (m : List ℕ × Tree) (ms : Pairs) → bytes_eq m.0 k ≡ b → AllAbove m.0 ms → find k (m ∷ ms) ≡ Some u
    → (find k ms ≡ Some u → put k v (take_away k ms) ≡ put k v ms) → put k v (take_away k (m ∷ ms)) ≡ put k v (m ∷ ms)
back_at true k u v m ms e above found more =
    let same = (bytes_eq-Decides m.0 k).0 e in
    rw (e, same_key m.0 k same) (put_first k v ms (subst (λ y. AllAbove y ms) same above))
back_at false k u v m ms e above found more =
    let rest : find k ms ≡ Some u = rw e at found in
    rw (e, turned m.0 k (found_above m.0 k u ms above rest)) (ap (λ ys. m ∷ ys) (more rest))

-- what is taken away and put back with another value was set to that value
pub put-take_away : (k : List ℕ) (u v : Tree) (ms : Pairs) → KeysRise ms → find k ms ≡ Some u → put k v (take_away k ms) ≡ put k v ms
unfolding IsStrictlySortedBy
put-take_away k u v [] rise found = absurd (cc)
put-take_away k u v (m ∷ ms) rise found = back_at _ k u v m ms refl rise.0 found (put-take_away k u v ms rise.1)
