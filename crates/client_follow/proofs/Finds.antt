-- What is found under an id after records are put and taken away.
use Rattle.std.proofs.Common.{◌≡◌, ℕ, List, [], ◌∷◌, Bool, true, false, not, cond, Option, Some, None, Less, Equal, Greater, Ordering, bytes_eq, refl, sym, ap, ap₂, subst, ◌∙◌}
use Rattle.std.proofs.lemmas.Slice.Eq.{bytes_eq-Decides}
use Rattle.std.proofs.lemmas.Map.Text.{is_eq-slice_cmp}
use Rattle.std.specs.Option.{option_or}
use Rattle.std.specs.Ordering.{nat_cmp, ordering_reverse, is_eq}
use Rattle.std.specs.Cmp.Lexicographic.{slice_cmp, nat_list_cmp_total}
use Rattle.std.specs.List.Sorted.{IsStrictlySortedBy}
use Rattle.jm_base.specs.declared.identifiers.Kind.{Kind}
use Rattle.jm_json.specs.Tree.{Tree}
use Rattle.jm_json.specs.Find.{find}
use Rattle.jm_json.specs.Order.{KeysRise, put, put_all}
use Rattle.jm_json.specs.KeyIndices.{AllAbove}
use Rattle.jm_json.proofs.Puts.{KeysRise-put}
use Rattle.client_cache.specs.Records.{records_but}
use Rattle.client_follow.specs.Holdings.{names}

abbrev Pairs : Type 0
Pairs = List (List ℕ × Tree)

same_key : (k l : List ℕ) → slice_cmp nat_cmp k l ≡ Equal → k ≡ l
same_key k l e = (bytes_eq-Decides k l).0 (sym (is_eq-slice_cmp k l) ∙ ap is_eq e)

-- keys that compare otherwise are others
other_key : (k l : List ℕ) (o : Ordering) → slice_cmp nat_cmp k l ≡ o → (o ≡ Equal → ⊥) → bytes_eq k l ≡ false
other_key k l o e differs = sym (is_eq-slice_cmp k l) ∙ ap is_eq e ∙ unequal o differs
  where
    unequal : (o : Ordering) → (o ≡ Equal → ⊥) → is_eq o ≡ false
    unequal Less h = refl
    unequal Equal h = absurd (h refl)
    unequal Greater h = refl

-- ---- a record that is put

put_equal : (k l : List ℕ) (t : Tree) (m : List ℕ × Tree) (ms : Pairs) (b : Bool) → bytes_eq k l ≡ b → k ≡ m.0 → cond b (Some t) (find l ms) ≡ cond b (Some t) (find l (m ∷ ms))
put_equal k l t m ms true h same = refl
put_equal k l t m ms false h same = let other : bytes_eq m.0 l ≡ false = ap (λ s. bytes_eq s l) (sym same) ∙ h in rw other refl

put_greater : (k l : List ℕ) (t : Tree) (m : List ℕ × Tree) (ms : Pairs) (b : Bool) → bytes_eq m.0 l ≡ b → slice_cmp nat_cmp k m.0 ≡ Greater → find l (put k t ms) ≡ cond (bytes_eq k l) (Some t) (find l ms)
    → cond b (Some m.1) (find l (put k t ms)) ≡ cond (bytes_eq k l) (Some t) (cond b (Some m.1) (find l ms))
put_greater k l t m ms true h e more =
    let other : bytes_eq k l ≡ false = ap (bytes_eq k) (sym ((bytes_eq-Decides m.0 l).0 h)) ∙ other_key k m.0 Greater e (λ c. cc) in
    rw other refl
put_greater k l t m ms false h e more = more

find_put_at : (o : Ordering) (k l : List ℕ) (t : Tree) (m : List ℕ × Tree) (ms : Pairs) → slice_cmp nat_cmp k m.0 ≡ o → find l (put k t ms) ≡ cond (bytes_eq k l) (Some t) (find l ms)
    → find l (put k t (m ∷ ms)) ≡ cond (bytes_eq k l) (Some t) (find l (m ∷ ms))
find_put_at Less k l t m ms e more = rw e refl
find_put_at Equal k l t m ms e more = rw e (put_equal k l t m ms _ refl (same_key k m.0 e))
find_put_at Greater k l t m ms e more = rw e (put_greater k l t m ms _ refl e more)

pub find_put : (k l : List ℕ) (t : Tree) (ms : Pairs) → find l (put k t ms) ≡ cond (bytes_eq k l) (Some t) (find l ms)
find_put k l t [] = refl
find_put k l t (m ∷ ms) = find_put_at _ k l t m ms refl (find_put k l t ms)

-- ---- records that are put, of which each has an id of its own

find_above : (k : List ℕ) (ms : Pairs) → AllAbove k ms → find k ms ≡ None
find_above k [] all = refl
find_above k (m ∷ ms) all =
    let other : bytes_eq m.0 k ≡ false = other_key m.0 k Greater (nat_list_cmp_total.antisymm m.0 k ∙ ap ordering_reverse all.0) (λ c. cc) in
    rw other (find_above k ms all.1)

put_first : (b : Bool) (id : List ℕ) (n : List ℕ × Tree) (ns ms : Pairs) → bytes_eq n.0 id ≡ b → AllAbove n.0 ns
    → option_or (find id ns) (cond b (Some n.1) (find id ms)) ≡ option_or (cond b (Some n.1) (find id ns)) (find id ms)
put_first true id n ns ms e above =
    let none : find id ns ≡ None = ap (λ k. find k ns) (sym ((bytes_eq-Decides n.0 id).0 e)) ∙ find_above n.0 ns above in
    ap (λ o. option_or o (Some n.1)) none
put_first false id n ns ms e above = refl

pub find_puts : (id : List ℕ) (ns ms : Pairs) → KeysRise ns → find id (put_all ns ms) ≡ option_or (find id ns) (find id ms)
unfolding IsStrictlySortedBy
find_puts id [] ms rise = refl
find_puts id (n ∷ ns) ms rise =
    find_puts id ns (put n.0 n.1 ms) rise.1
    ∙ (ap (option_or (find id ns)) (find_put n.0 id n.1 ms) ∙ put_first (bytes_eq n.0 id) id n ns ms refl rise.0)

pub puts_rise : (ns ms : Pairs) → KeysRise ms → KeysRise (put_all ns ms)
puts_rise [] ms rise = rise
puts_rise (n ∷ ns) ms rise = puts_rise ns (put n.0 n.1 ms) (KeysRise-put n.0 n.1 ms rise)

-- ---- records that are taken away

same_id : (k id : List ℕ) (kind : Kind) (numbers : List ℕ) → bytes_eq k id ≡ true → names kind numbers k ≡ names kind numbers id
same_id k id kind numbers e = ap (names kind numbers) ((bytes_eq-Decides k id).0 e)

but_at : (a b : Bool) (kind : Kind) (numbers id : List ℕ) (m : List ℕ × Tree) (ms : Pairs) → names kind numbers m.0 ≡ a → bytes_eq m.0 id ≡ b
    → find id (records_but kind numbers ms) ≡ cond (names kind numbers id) None (find id ms)
    → find id (cond (not a) (m ∷ records_but kind numbers ms) (records_but kind numbers ms)) ≡ cond (names kind numbers id) None (cond b (Some m.1) (find id ms))
but_at true true kind numbers id m ms among e more = more ∙ rw (sym (same_id m.0 id kind numbers e) ∙ among) refl
but_at true false kind numbers id m ms among e more = more
but_at false true kind numbers id m ms among e more = rw (e, sym (same_id m.0 id kind numbers e) ∙ among) refl
but_at false false kind numbers id m ms among e more = rw e more

nothing : (b : Bool) → find [] [] ≡ cond b None (find [] [])
nothing true = refl
nothing false = refl

pub find_but : (kind : Kind) (numbers id : List ℕ) (ms : Pairs) → find id (records_but kind numbers ms) ≡ cond (names kind numbers id) None (find id ms)
find_but kind numbers id [] = nothing (names kind numbers id)
find_but kind numbers id (m ∷ ms) = but_at (names kind numbers m.0) (bytes_eq m.0 id) kind numbers id m ms refl refl (find_but kind numbers id ms)

-- ---- records in order are the same where each look-up is

above_trans : (k l : List ℕ) (ms : Pairs) → slice_cmp nat_cmp k l ≡ Less → AllAbove l ms → AllAbove k ms
above_trans k l [] h all = tt
above_trans k l (m ∷ ms) h all = (nat_list_cmp_total.trans k l m.0 h all.0, above_trans k l ms h all.1)

found_first : (m : List ℕ × Tree) (ms : Pairs) → find m.0 (m ∷ ms) ≡ Some m.1
found_first m ms = let itself : bytes_eq m.0 m.0 ≡ true = (bytes_eq-Decides m.0 m.0).1 refl in rw itself refl

never : (x : Tree) (o : Option Tree) → o ≡ Some x → o ≡ None → ⊥
never x o some none = let bad : Some x ≡ None = sym some ∙ none in cc

pair_same : (m n : List ℕ × Tree) → m.0 ≡ n.0 → m.1 ≡ n.1 → m ≡ n
pair_same (k, t) (l, u) a b = ap₂ (λ p q. (p, q)) a b

some_same : (t u : Tree) → Some t ≡ Some u → t ≡ u
some_same t u e = cc

tail_at : (b : Bool) (k l : List ℕ) (t u : Tree) (ms ns : Pairs) → bytes_eq k l ≡ b → AllAbove k ms → AllAbove k ns → cond b (Some t) (find l ms) ≡ cond b (Some u) (find l ns) → find l ms ≡ find l ns
tail_at true k l t u ms ns h high above same =
    let is : k ≡ l = (bytes_eq-Decides k l).0 h in
    subst (λ s. find s ms ≡ find s ns) is (find_above k ms high ∙ sym (find_above k ns above))
tail_at false k l t u ms ns h high above same = same

pub records_same : (ms ns : Pairs) → KeysRise ms → KeysRise ns → ((l : List ℕ) → find l ms ≡ find l ns) → ms ≡ ns
unfolding IsStrictlySortedBy
records_same [] [] low high same = refl
records_same [] (n ∷ ns) low high same = absurd (never n.1 _ (found_first n ns) (sym (same n.0)))
records_same (m ∷ ms) [] low high same = absurd (never m.1 _ (found_first m ms) (same m.0))
records_same (m ∷ ms) (n ∷ ns) low high same =
    elim (slice_cmp nat_cmp m.0 n.0) as (λ o. slice_cmp nat_cmp m.0 n.0 ≡ o → m ∷ ms ≡ n ∷ ns) [
      | Less ↦ λ e.
          absurd (never m.1 _ (found_first m ms) (same m.0 ∙ find_above m.0 (n ∷ ns) (e, above_trans m.0 n.0 ns e high.0)))
      | Equal ↦ λ e.
          (let key : m.0 ≡ n.0 = same_key m.0 n.0 e in
          let value : m.1 ≡ n.1 = some_same m.1 n.1 (sym (found_first m ms) ∙ same m.0 ∙ ap (λ s. find s (n ∷ ns)) key ∙ found_first n ns) in
          let above : AllAbove m.0 ns = subst (λ s. AllAbove s ns) (sym key) high.0 in
          let rest : (l : List ℕ) → find l ms ≡ find l ns = λ l. tail_at _ m.0 l m.1 n.1 ms ns refl low.0 above (same l ∙ ap (λ s. cond (bytes_eq s l) (Some n.1) (find l ns)) (sym key)) in
          ap₂ (λ (p : List ℕ × Tree) (ps : Pairs). p ∷ ps) (pair_same m n key value) (records_same ms ns low.1 high.1 rest))
      | Greater ↦ λ e.
          (let back : slice_cmp nat_cmp n.0 m.0 ≡ Less = nat_list_cmp_total.antisymm n.0 m.0 ∙ ap ordering_reverse e in
          absurd (never n.1 _ (found_first n ns) (sym (same n.0) ∙ find_above n.0 (m ∷ ms) (back, above_trans n.0 m.0 ms back low.0))))
    ] refl

pub nothing_rises : KeysRise []
unfolding IsStrictlySortedBy
nothing_rises = tt
