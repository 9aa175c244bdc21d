-- The members put together from what was made: of what was made, only the order under one creation id counts.
use Rattle.std.proofs.Common.{◌≡◌, ℕ, List, [], ◌∷◌, filter, Bool, true, false, not, ◌&&◌, cond, Option, Some, None, Less, Equal, Greater, Ordering, bytes_eq, refl, sym, ap, ap₂, ◌∙◌, subst}
use Rattle.std.proofs.lemmas.List.Elements.{filter_agree}
use Rattle.std.proofs.lemmas.Slice.Eq.{bytes_eq-Decides}
use Rattle.std.proofs.lemmas.Map.Text.{is_eq-slice_cmp}
use Rattle.std.specs.Ordering.{nat_cmp, ordering_reverse, is_eq, is_lt}
use Rattle.std.specs.Cmp.Lexicographic.{slice_cmp, nat_list_cmp_total}
use Rattle.std.specs.List.Sorted.{IsStrictlySortedBy, IsStableBy, ties}
use Rattle.jm_json.specs.Tree.{Tree, text}
use Rattle.jm_json.specs.Find.{find}
use Rattle.jm_json.specs.Order.{KeysRise, put}
use Rattle.jm_json.specs.KeyIndices.{AllAbove}
use Rattle.jm_json.specs.declared.invocation.Created.{Created}
use Rattle.jm_json.proofs.Puts.{KeysRise-put}
use Rattle.method_batch.specs.Outcome.{put_ids}

abbrev Pairs : Type 0
Pairs = List (List ℕ × Tree)

same_key : (k l : List ℕ) → slice_cmp nat_cmp k l ≡ Equal → k ≡ l
same_key k l e = (bytes_eq-Decides k l).0 (sym (is_eq-slice_cmp k l) ∙ ap is_eq e)

itself : (k : List ℕ) → bytes_eq k k ≡ true
itself k = (bytes_eq-Decides k k).1 refl

-- keys that compare otherwise are others
other_key : (k l : List ℕ) (o : Ordering) → slice_cmp nat_cmp k l ≡ o → (o ≡ Equal → ⊥) → bytes_eq k l ≡ false
other_key k l o e differs = sym (is_eq-slice_cmp k l) ∙ ap is_eq e ∙ unequal o differs
  where
    unequal : (o : Ordering) → (o ≡ Equal → ⊥) → is_eq o ≡ false
    unequal Less h = refl
    unequal Equal h = absurd (h refl)
    unequal Greater h = refl

-- ---- what is found once a member is put

put_equal : (k l : List ℕ) (t : Tree) (m : List ℕ × Tree) (ms : Pairs) (b : Bool) → bytes_eq k l ≡ b → k ≡ m.0 → cond b (Some t) (find l ms) ≡ cond b (Some t) (find l (m ∷ ms))
put_equal k l t m ms true h same = refl
put_equal k l t m ms false h same = let other : bytes_eq m.0 l ≡ false = ap (λ s. bytes_eq s l) (sym same) ∙ h in rw other refl

put_greater : (k l : List ℕ) (t : Tree) (m : List ℕ × Tree) (ms : Pairs) (b : Bool) → bytes_eq m.0 l ≡ b → slice_cmp nat_cmp k m.0 ≡ Greater → find l (put k t ms) ≡ cond (bytes_eq k l) (Some t) (find l ms)
    → cond b (Some m.1) (find l (put k t ms)) ≡ cond (bytes_eq k l) (Some t) (cond b (Some m.1) (find l ms))
put_greater k l t m ms true h e more =
    let other : bytes_eq k l ≡ false = ap (bytes_eq k) (sym ((bytes_eq-Decides m.0 l).0 h)) ∙ other_key k m.0 Greater e (λ c. cc) in
    rw other refl
put_greater k l t m ms false h e more = more

find_put_at : (o : Ordering) (k l : List ℕ) (t : Tree) (m : List ℕ × Tree) (ms : Pairs) → slice_cmp nat_cmp k m.0 ≡ o → find l (put k t ms) ≡ cond (bytes_eq k l) (Some t) (find l ms)
    → find l (put k t (m ∷ ms)) ≡ cond (bytes_eq k l) (Some t) (find l (m ∷ ms))
find_put_at Less k l t m ms e more = rw e refl
find_put_at Equal k l t m ms e more = rw e (put_equal k l t m ms _ refl (same_key k m.0 e))
find_put_at Greater k l t m ms e more = rw e (put_greater k l t m ms _ refl e more)

find_put : (k l : List ℕ) (t : Tree) (ms : Pairs) → find l (put k t ms) ≡ cond (bytes_eq k l) (Some t) (find l ms)
find_put k l t [] = refl
find_put k l t (m ∷ ms) = find_put_at _ k l t m ms refl (find_put k l t ms)

find_same : (l : List ℕ) (before other : Pairs) (cs : List Created) → find l before ≡ find l other → find l (put_ids before cs) ≡ find l (put_ids other cs)
find_same l before other [] h = h
find_same l before other (c ∷ cs) h =
    find_same l (put c.creation (text c.id) before) (put c.creation (text c.id) other) cs
    (find_put c.creation l (text c.id) before ∙ ap (cond (bytes_eq c.creation l) (Some (text c.id))) h ∙ sym (find_put c.creation l (text c.id) other))

kept_at : (b : Bool) (l : List ℕ) (before : Pairs) (c : Created) (cs : List Created) → bytes_eq c.creation l ≡ b
    → ((start : Pairs) → find l (put_ids start cs) ≡ find l (put_ids start (filter (λ (x : Created). bytes_eq x.creation l) cs)))
    → find l (put_ids (put c.creation (text c.id) before) cs) ≡ find l (put_ids before (cond b (c ∷ filter (λ (x : Created). bytes_eq x.creation l) cs) (filter (λ (x : Created). bytes_eq x.creation l) cs)))
kept_at true l before c cs h more = more (put c.creation (text c.id) before)
kept_at false l before c cs h more = find_same l (put c.creation (text c.id) before) before cs (find_put c.creation l (text c.id) before ∙ (rw h refl)) ∙ more before

-- under an id, only what was made under it counts
find_kept : (l : List ℕ) (cs : List Created) (before : Pairs) → find l (put_ids before cs) ≡ find l (put_ids before (filter (λ (x : Created). bytes_eq x.creation l) cs))
find_kept l [] before = refl
find_kept l (c ∷ cs) before = kept_at _ l before c cs refl (find_kept l cs)

-- ---- members in order are the same where each look-up is

above_trans : (k l : List ℕ) (ms : Pairs) → slice_cmp nat_cmp k l ≡ Less → AllAbove l ms → AllAbove k ms
above_trans k l [] h all = tt
above_trans k l (m ∷ ms) h all = (nat_list_cmp_total.trans k l m.0 h all.0, above_trans k l ms h all.1)

find_above : (k : List ℕ) (ms : Pairs) → AllAbove k ms → find k ms ≡ None
find_above k [] all = refl
find_above k (m ∷ ms) all =
    let other : bytes_eq m.0 k ≡ false = other_key m.0 k Greater (nat_list_cmp_total.antisymm m.0 k ∙ ap ordering_reverse all.0) (λ c. cc) in
    rw other (find_above k ms all.1)

found_first : (m : List ℕ × Tree) (ms : Pairs) → find m.0 (m ∷ ms) ≡ Some m.1
found_first m ms = rw (itself m.0) refl

never : (x : Tree) (o : Option Tree) → o ≡ Some x → o ≡ None → ⊥
never x o some none = let bad : Some x ≡ None = sym some ∙ none in cc

pair_same : (m n : List ℕ × Tree) → m.0 ≡ n.0 → m.1 ≡ n.1 → m ≡ n
pair_same (k, t) (l, u) a b = ap₂ (λ p q. (p, q)) a b

some_same : (t u : Tree) → Some t ≡ Some u → t ≡ u
some_same t u e = cc

tail_at : (b : Bool) (k l : List ℕ) (t u : Tree) (ms ns : Pairs) → bytes_eq k l ≡ b → AllAbove k ms → AllAbove k ns → cond b (Some t) (find l ms) ≡ cond b (Some u) (find l ns) → find l ms ≡ find l ns
tail_at true k l t u ms ns h high above same =
    let is : k ≡ l = (bytes_eq-Decides k l).0 h in
    subst (λ s. find s ms ≡ find s ns) is (find_above k ms high ∙ sym (find_above k ns above))
tail_at false k l t u ms ns h high above same = same

members_same : (ms ns : Pairs) → KeysRise ms → KeysRise ns → ((l : List ℕ) → find l ms ≡ find l ns) → ms ≡ ns
unfolding IsStrictlySortedBy
members_same [] [] low high same = refl
members_same [] (n ∷ ns) low high same = absurd (never n.1 _ (found_first n ns) (sym (same n.0)))
members_same (m ∷ ms) [] low high same = absurd (never m.1 _ (found_first m ms) (same m.0))
members_same (m ∷ ms) (n ∷ ns) low high same =
    elim (slice_cmp nat_cmp m.0 n.0) as (λ o. slice_cmp nat_cmp m.0 n.0 ≡ o → m ∷ ms ≡ n ∷ ns) [
      | Less ↦ λ e.
          absurd (never m.1 _ (found_first m ms) (same m.0 ∙ find_above m.0 (n ∷ ns) (e, above_trans m.0 n.0 ns e high.0)))
      | Equal ↦ λ e.
          (let key : m.0 ≡ n.0 = same_key m.0 n.0 e in
          let value : m.1 ≡ n.1 = some_same m.1 n.1 (sym (found_first m ms) ∙ same m.0 ∙ ap (λ s. find s (n ∷ ns)) key ∙ found_first n ns) in
          let above : AllAbove m.0 ns = subst (λ s. AllAbove s ns) (sym key) high.0 in
          let rest : (l : List ℕ) → find l ms ≡ find l ns = λ l. tail_at _ m.0 l m.1 n.1 ms ns refl low.0 above (same l ∙ ap (λ s. cond (bytes_eq s l) (Some n.1) (find l ns)) (sym key)) in
          ap₂ (λ (p : List ℕ × Tree) (ps : Pairs). p ∷ ps) (pair_same m n key value) (members_same ms ns low.1 high.1 rest))
      | Greater ↦ λ e.
          (let back : slice_cmp nat_cmp n.0 m.0 ≡ Less = nat_list_cmp_total.antisymm n.0 m.0 ∙ ap ordering_reverse e in
          absurd (never n.1 _ (found_first n ns) (sym (same n.0) ∙ find_above n.0 (m ∷ ms) (back, above_trans n.0 m.0 ms back low.0))))
    ] refl

ids_rise : (cs : List Created) (before : Pairs) → KeysRise before → KeysRise (put_ids before cs)
ids_rise [] before rise = rise
ids_rise (c ∷ cs) before rise = ids_rise cs (put c.creation (text c.id) before) (KeysRise-put c.creation (text c.id) before rise)

-- ---- the order by creation id

abbrev pub comes_before : Created → Created → Bool
comes_before a b = is_lt (slice_cmp nat_cmp a.creation b.creation)

tie_at : (o p : Ordering) → p ≡ ordering_reverse o → not (is_lt p) && not (is_lt o) ≡ is_eq o
tie_at Less p e = rw e refl
tie_at Equal p e = rw e refl
tie_at Greater p e = rw e refl

is_tie : (l : List ℕ) (c : Created) → bytes_eq c.creation l ≡ ties comes_before (record { creation = l; id = [] }) c
is_tie l c = sym (tie_at (slice_cmp nat_cmp c.creation l) (slice_cmp nat_cmp l c.creation) (nat_list_cmp_total.antisymm l c.creation) ∙ is_eq-slice_cmp c.creation l)

none_rise : KeysRise []
unfolding IsStrictlySortedBy
none_rise = tt

pub same_ids : (xs ys : List Created) → IsStableBy comes_before xs ys → put_ids [] ys ≡ put_ids [] xs
same_ids xs ys stable =
    members_same _ _ (ids_rise ys [] none_rise) (ids_rise xs [] none_rise)
    (λ l. find_kept l ys [] ∙ ap (λ cs. find l (put_ids [] cs)) (kept l) ∙ sym (find_kept l xs []))
  where
    kept : (l : List ℕ) → filter (λ (c : Created). bytes_eq c.creation l) ys ≡ filter (λ (c : Created). bytes_eq c.creation l) xs
    kept l =
        filter_agree (λ (c : Created). bytes_eq c.creation l) (ties comes_before (record { creation = l; id = [] })) (is_tie l) ys
        ∙ stable (record { creation = l; id = [] })
        ∙ sym (filter_agree (λ (c : Created). bytes_eq c.creation l) (ties comes_before (record { creation = l; id = [] })) (is_tie l) xs)
