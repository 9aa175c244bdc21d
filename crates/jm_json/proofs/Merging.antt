-- Two lists of members put together by their first keys.
use Rattle.std.proofs.Common.{◌≡◌, ℕ, ◌<◌, ◌≤◌, zero, suc, List, [], ◌∷◌, ◌++◌, map, length, drop, get_or, Option, Some, None, MatchOption, Less, Equal, Greater, Ordering, append-nil, refl, sym, ap, ◌∙◌, subst, arith}
use Rattle.std.specs.Ordering.{nat_cmp, ordering_reverse}
use Rattle.std.specs.Cmp.Lexicographic.{slice_cmp, nat_list_cmp_total}
use Rattle.std.specs.List.Sorted.{IsStrictlySortedBy}
use Rattle.jm_json.specs.Tree.{Tree, null}
use Rattle.jm_json.specs.Order.{KeysRise, put, put_all}
use Rattle.jm_json.specs.KeyIndices.{AllBelow, AllAbove, IsKeyIndex}
use Rattle.jm_json.specs.declared.tree.KeyIndex.TheVariants.{Held}
use Rattle.jm_json.specs.FirstMembers.{first_order}
use Rattle.jm_json.specs.Json.{member_of}
use Rattle.jm_json.specs.declared.tree.Member.{Member}
use Rattle.jm_json.specs.declared.tree.Json.{Json}
use Rattle.jm_json.proofs.Puts.{KeysRise-put, same_key, named}

abbrev Pairs : Type 0
Pairs = List (List ℕ × Tree)

reversed : (x y : List ℕ) (o : Ordering) → slice_cmp nat_cmp x y ≡ o → slice_cmp nat_cmp y x ≡ ordering_reverse o
reversed x y o e = nat_list_cmp_total.antisymm y x ∙ ap ordering_reverse e

above_trans : (k l : List ℕ) (ms : Pairs) → slice_cmp nat_cmp k l ≡ Less → AllAbove l ms → AllAbove k ms
above_trans k l [] h all = tt
above_trans k l (m ∷ ms) h all = (nat_list_cmp_total.trans k l m.0 h all.0, above_trans k l ms h all.1)

-- ---- a member at the end

above_end : (a k : List ℕ) (t : Tree) (ms : Pairs) → AllAbove a ms → slice_cmp nat_cmp a k ≡ Less → AllAbove a (ms ++ (k, t) ∷ [])
above_end a k t [] all h = (h, tt)
above_end a k t (m ∷ ms) all h = (all.0, above_end a k t ms all.1 h)

pub rises_at_end : (k : List ℕ) (t : Tree) (ms : Pairs) → KeysRise ms → AllBelow k ms → KeysRise (ms ++ (k, t) ∷ [])
unfolding IsStrictlySortedBy
rises_at_end k t [] rise low = (tt, tt)
rises_at_end k t (m ∷ ms) rise low = (above_end m.0 k t ms rise.0 (reversed k m.0 Greater low.0), rises_at_end k t ms rise.1 low.1)

pub put_all_end : (k : List ℕ) (t : Tree) (ns ms : Pairs) → put_all (ns ++ (k, t) ∷ []) ms ≡ put k t (put_all ns ms)
put_all_end k t [] ms = refl
put_all_end k t (n ∷ ns) ms = put_all_end k t ns (put n.0 n.1 ms)

pub KeysRise-put_all : (ns ms : Pairs) → KeysRise ms → KeysRise (put_all ns ms)
KeysRise-put_all [] ms rise = rise
KeysRise-put_all (n ∷ ns) ms rise = KeysRise-put_all ns (put n.0 n.1 ms) (KeysRise-put n.0 n.1 ms rise)

pub merged_rises : (newer older merged left : Pairs) → KeysRise older → put_all newer older ≡ merged ++ left → left ≡ [] → KeysRise merged
merged_rises newer older merged left rise same none =
    subst KeysRise (same ∙ ap (λ ms. merged ++ ms) none ∙ append-nil merged) (KeysRise-put_all newer older rise)

-- a key that is the last of all is below none
never_below : (k : List ℕ) (ms : Pairs) (i : ℕ) (d : List ℕ × Tree) (o : Ordering) → i < length ms → AllBelow k ms → slice_cmp nat_cmp k (get_or ms i d).0 ≡ o → o ≡ Greater
never_below k [] i d o h low e = absurd (omega arith)
never_below k (m ∷ ms) zero d o h low e = sym e ∙ low.0
never_below k (m ∷ ms) (suc i) d o h low e = never_below k ms i d o (omega arith) low.1 e

pub held_not_past : (k : List ℕ) (ms : Pairs) (at : ℕ) → IsKeyIndex (Held at) k ms → AllBelow k ms → ⊥
held_not_past k ms at place low =
    let same : slice_cmp nat_cmp k (get_or ms at (k, null)).0 ≡ Equal = same_key k _ (place.2 (k, null)) in
    let wrong : Equal ≡ Greater = never_below k ms at (k, null) Equal place.0 low same in
    cc

pub new_past : (k : List ℕ) (ms : Pairs) (at : ℕ) → at ≤ length ms → AllAbove k (drop at ms) → AllBelow k ms → at ≡ length ms
new_past k [] zero h high low = refl
new_past k [] (suc i) h high low = absurd (omega arith)
new_past k (m ∷ ms) zero h high low = absurd (let wrong : Less ≡ Greater = sym high.0 ∙ low.0 in cc)
new_past k (m ∷ ms) (suc i) h high low = omega (arith, new_past k ms i (omega arith) high low.1)

-- ---- a value that is taken out

pub name_at : (k : List ℕ) (ms : List Member) (i : ℕ) (m : Member) → i < length ms → m ≡ get_or ms i m → IsKeyIndex (Held i) k (map member_of ms) → m.name ≡ k
name_at k ms i m h is place = sym (ap (λ (p : List ℕ × Tree). p.0) (named ms i m is h)) ∙ place.2 (member_of m)

pub rises_if_taken : (r : Option Json) (k : List ℕ) (old new : List Member) → MatchOption r (new ≡ old) (λ _. map member_of new ≡ put k null (map member_of old)) → KeysRise (map member_of old) → KeysRise (map member_of new)
rises_if_taken None k old new same rise = subst (λ ms. KeysRise (map member_of ms)) (sym same) rise
rises_if_taken (Some j) k old new done rise = subst KeysRise (sym done) (KeysRise-put k null (map member_of old) rise)

-- ---- the first member of both

merge_lower : (l : List ℕ × Tree) (ls us : Pairs) → AllAbove l.0 us → put_all us (l ∷ ls) ≡ l ∷ put_all us ls
merge_lower l ls [] all = refl
merge_lower l ls (u ∷ us) all = rw (reversed l.0 u.0 Less all.0) (merge_lower l (put u.0 u.1 ls) us all.1)

pub first_lower : (l : List ℕ × Tree) (ls us : Pairs) → KeysRise us → first_order (l ∷ ls) us ≡ Some Greater → put_all us (l ∷ ls) ≡ l ∷ put_all us ls
unfolding IsStrictlySortedBy
first_lower l ls [] rise e = refl
first_lower l ls (u ∷ us) rise e =
    let above : slice_cmp nat_cmp l.0 u.0 ≡ Less = reversed u.0 l.0 Greater (cc) in
    merge_lower l ls (u ∷ us) (above, above_trans l.0 u.0 us above rise.0)

pub first_upper : (u : List ℕ × Tree) (ls us : Pairs) → KeysRise (u ∷ us) → first_order ls (u ∷ us) ≡ Some Less → put_all (u ∷ us) ls ≡ u ∷ put_all us ls
unfolding IsStrictlySortedBy
first_upper u [] us rise e = merge_lower u [] us rise.0
first_upper u (l ∷ ls) us rise e =
    let below : slice_cmp nat_cmp u.0 l.0 ≡ Less = cc in
    rw below (merge_lower u (l ∷ ls) us rise.0)

pub first_both : (u l : List ℕ × Tree) (ls us : Pairs) → KeysRise (u ∷ us) → first_order (l ∷ ls) (u ∷ us) ≡ Some Equal → put_all (u ∷ us) (l ∷ ls) ≡ u ∷ put_all us ls
unfolding IsStrictlySortedBy
first_both u l ls us rise e =
    let same : slice_cmp nat_cmp u.0 l.0 ≡ Equal = cc in
    rw same (merge_lower u ls us rise.0)

-- ---- the first member of both, over the lists from which members are taken

pub rises_without_first : (ls rest : List Member) → rest ≡ drop 1 ls → KeysRise (map member_of ls) → KeysRise (map member_of rest)
unfolding IsStrictlySortedBy
rises_without_first [] rest e rise = rw e tt
rises_without_first (l ∷ ls) rest e rise = rw e (rise.1)

pub lower_taken : (ls us rest : List Member) (n : ℕ) (r : Option Member) → n ≡ length ls → ((d : Member) → 0 < n → r ≡ Some (get_or ls 0 d)) → rest ≡ drop 1 ls
    → KeysRise (map member_of us) → first_order (map member_of ls) (map member_of us) ≡ Some Greater
    → MatchOption r (put_all (map member_of us) (map member_of ls) ≡ []) (λ m. put_all (map member_of us) (map member_of ls) ≡ member_of m ∷ put_all (map member_of us) (map member_of rest))
lower_taken [] [] rest n r len value e rise order = absurd (cc)
lower_taken [] (u ∷ us) rest n r len value e rise order = absurd (cc)
lower_taken (l ∷ ls) us rest n r len value e rise order =
    rw (value l (omega (arith, len)), e) (first_lower (member_of l) (map member_of ls) (map member_of us) rise order)

pub upper_taken : (ls us rest : List Member) (n : ℕ) (r : Option Member) → n ≡ length us → ((d : Member) → 0 < n → r ≡ Some (get_or us 0 d)) → rest ≡ drop 1 us
    → KeysRise (map member_of us) → first_order (map member_of ls) (map member_of us) ≡ Some Less
    → MatchOption r (put_all (map member_of us) (map member_of ls) ≡ []) (λ m. put_all (map member_of us) (map member_of ls) ≡ member_of m ∷ put_all (map member_of rest) (map member_of ls))
upper_taken [] [] rest n r len value e rise order = absurd (cc)
upper_taken (l ∷ ls) [] rest n r len value e rise order = absurd (cc)
upper_taken ls (u ∷ us) rest n r len value e rise order =
    rw (value u (omega (arith, len)), e) (first_upper (member_of u) (map member_of ls) (map member_of us) rise order)

pub both_taken : (ls us lower upper : List Member) (n : ℕ) (r : Option Member) → n ≡ length us → ((d : Member) → 0 < n → r ≡ Some (get_or us 0 d)) → lower ≡ drop 1 ls → upper ≡ drop 1 us
    → KeysRise (map member_of us) → first_order (map member_of ls) (map member_of us) ≡ Some Equal
    → MatchOption r (put_all (map member_of us) (map member_of ls) ≡ []) (λ m. put_all (map member_of us) (map member_of ls) ≡ member_of m ∷ put_all (map member_of upper) (map member_of lower))
both_taken [] [] lower upper n r len value f e rise order = absurd (cc)
both_taken [] (u ∷ us) lower upper n r len value f e rise order = absurd (cc)
both_taken (l ∷ ls) [] lower upper n r len value f e rise order = absurd (cc)
both_taken (l ∷ ls) (u ∷ us) lower upper n r len value f e rise order =
    rw (value u (omega (arith, len)), e, f) (first_both (member_of u) (member_of l) (map member_of ls) (map member_of us) rise order)

none_left : (ls us : Pairs) → first_order ls us ≡ None → put_all us ls ≡ []
none_left [] [] e = refl
none_left [] (u ∷ us) e = absurd (cc)
none_left (l ∷ ls) [] e = absurd (cc)
none_left (l ∷ ls) (u ∷ us) e = absurd (cc)

pub none_taken : (ls us : Pairs) (o : Option Ordering) → o ≡ first_order ls us → o ≡ None → put_all us ls ≡ []
none_taken ls us o is none = none_left ls us (sym is ∙ none)
