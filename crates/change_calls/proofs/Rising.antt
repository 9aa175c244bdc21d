-- Numbers in order, each once, and the entries of a map whose keys they are.
use Rattle.std.proofs.Common.{◌≡◌, ℕ, ◌+◌, ◌<◌, ◌≤◌, Bool, true, false, ◌||◌, cond, eqb, ltb, List, [], ◌∷◌, filter, length, Option, Some, None, refl, sym, ap, ◌∙◌, subst, arith, ⊎_elim, eqb-true, eq-eqb, ne_eqb}
use Rattle.std.specs.BTreeMap.{insert_entry, is_at}
use Rattle.std.specs.Cmp.{unsigned_tied}
use Rattle.std.specs.List.{AllByRecursion, list_any}
use Rattle.std.specs.List.Sorted.{IsStrictlyIncreasing, IsStrictlySortedBy}
use Rattle.std.specs.Map.{keys_of, lookup}
use Rattle.std.specs.declared.cmp.Ordering.TheVariants.{Less}
use Rattle.std.specs.Ordering.{nat_cmp}
use Rattle.std.proofs.lemmas.Bool.{cases_Bool, eqb-false}
use Rattle.std.proofs.lemmas.Map.Keys.{IsStrictlyIncreasing-from_sorted}
use Rattle.mail_records.specs.Tables.{IsTable, put}

-- each number is below the later ones
abbrev pub Rises : List ℕ → Type 0
Rises ns = IsTable (λ n. n) ns

abbrev pub has : List ℕ → ℕ → Bool
has ns n = list_any (λ x. eqb x n) ns

pub at_is : (n k : ℕ) → is_at (nat_cmp n) k ≡ eqb n k
at_is n k = unsigned_tied n k

-- ---- an entry that is set

pub keys-insert : {X : Type 0} (k : ℕ) (v : X) (es : List (ℕ × X)) → keys_of (insert_entry nat_cmp es k v) ≡ put (λ n. n) k (keys_of es)
keys-insert k v [] = refl
keys-insert k v (e ∷ es) =
    ⊎_elim
    (λ (lt : ltb k e.0 ≡ true). rw lt refl)
    (λ (lt : ltb k e.0 ≡ false).
    rw lt
    (⊎_elim
    (λ (s : eqb k e.0 ≡ true). rw s (ap (λ n. n ∷ keys_of es) (sym (eqb-true k e.0 s))))
    (λ (s : eqb k e.0 ≡ false). rw s (ap (λ ns. e.0 ∷ ns) (keys-insert k v es)))
    (cases_Bool (eqb k e.0))))
    (cases_Bool (ltb k e.0))

twice : {X : Type 0} (b : Bool) (v w : X) (o : Option X) → cond b (Some v) o ≡ cond b (Some v) (cond b (Some w) o)
twice true v w o = refl
twice false v w o = refl

swapped : {X : Type 0} (a b : Bool) (v w : X) (o : Option X) → (a ≡ true → b ≡ true → ⊥) → cond a (Some w) (cond b (Some v) o) ≡ cond b (Some v) (cond a (Some w) o)
swapped true true v w o apart = absurd (apart refl refl)
swapped true false v w o apart = refl
swapped false true v w o apart = refl
swapped false false v w o apart = refl

pub lookup-insert : {X : Type 0} (n k : ℕ) (v : X) (es : List (ℕ × X)) → lookup (is_at (nat_cmp n)) (insert_entry nat_cmp es k v) ≡ cond (eqb n k) (Some v) (lookup (is_at (nat_cmp n)) es)
lookup-insert n k v [] = ap (λ b. cond b (Some v) None) (at_is n k)
lookup-insert {X} n k v (e ∷ es) =
    let rest : Option X = lookup (is_at (nat_cmp n)) es in
    ⊎_elim
    (λ (lt : ltb k e.0 ≡ true). rw lt (ap (λ b. cond b (Some v) (cond (is_at (nat_cmp n) e.0) (Some e.1) rest)) (at_is n k)))
    (λ (lt : ltb k e.0 ≡ false).
    rw lt
    (⊎_elim
    (λ (s : eqb k e.0 ≡ true).
    rw s
    (let here : eqb n e.0 ≡ eqb n k = ap (eqb n) (sym (eqb-true k e.0 s)) in
    let at : is_at (nat_cmp n) e.0 ≡ eqb n k = at_is n e.0 ∙ here in
    ap (λ b. cond b (Some v) rest) at ∙ (twice (eqb n k) v e.1 rest ∙ ap (λ b. cond (eqb n k) (Some v) (cond b (Some e.1) rest)) (sym at))))
    (λ (s : eqb k e.0 ≡ false).
    rw s
    (ap (λ o. cond (is_at (nat_cmp n) e.0) (Some e.1) o) (lookup-insert n k v es)
    ∙ swapped (is_at (nat_cmp n) e.0) (eqb n k) v e.1 rest
    (λ a b. eqb-false k e.0 s (sym (eqb-true n k b) ∙ eqb-true n e.0 (sym (at_is n e.0) ∙ a)))))
    (cases_Bool (eqb k e.0))))
    (cases_Bool (ltb k e.0))

not_found : {X : Type 0} (b : Bool) (v : X) (o : Option X) → cond b (Some v) o ≡ None → (b ≡ false) × (o ≡ None)
not_found true v o h = absurd (cc)
not_found false v o h = (refl, h)

-- a number more, if it has no entry
pub length-insert_new : {X : Type 0} (k : ℕ) (v : X) (es : List (ℕ × X)) → lookup (is_at (nat_cmp k)) es ≡ None → length (insert_entry nat_cmp es k v) ≡ length es + 1
length-insert_new k v [] none = refl
length-insert_new {X} k v (e ∷ es) none =
    let rest : Option X = lookup (is_at (nat_cmp k)) es in
    let parts = not_found (is_at (nat_cmp k) e.0) e.1 rest none in
    let away : eqb k e.0 ≡ false = sym (at_is k e.0) ∙ parts.0 in
    ⊎_elim
    (λ (lt : ltb k e.0 ≡ true). rw lt (omega arith))
    (λ (lt : ltb k e.0 ≡ false). rw lt (rw away (let more = length-insert_new k v es parts.1 in omega arith)))
    (cases_Bool (ltb k e.0))

-- ---- a number that is set among others

or_swap : (a b c : Bool) → (b || (a || c)) ≡ (a || (b || c))
or_swap true true c = refl
or_swap true false c = refl
or_swap false true c = refl
or_swap false false c = refl

or_twice : (a b : Bool) → (a || b) ≡ (a || (a || b))
or_twice true b = refl
or_twice false b = refl

pub has-put : (k n : ℕ) (ns : List ℕ) → has (put (λ m. m) k ns) n ≡ (eqb k n || has ns n)
has-put k n [] = refl
has-put k n (x ∷ xs) =
    ⊎_elim
    (λ (lt : ltb k x ≡ true). rw lt refl)
    (λ (lt : ltb k x ≡ false).
    rw lt
    (⊎_elim
    (λ (s : eqb k x ≡ true). rw s (or_twice (eqb k n) (has xs n) ∙ ap (λ m. eqb k n || (eqb m n || has xs n)) (eqb-true k x s)))
    (λ (s : eqb k x ≡ false). rw s (ap (λ b. eqb x n || b) (has-put k n xs) ∙ or_swap (eqb k n) (eqb x n) (has xs n)))
    (cases_Bool (eqb k x))))
    (cases_Bool (ltb k x))

pub length-put : (k : ℕ) (ns : List ℕ) → length ns ≤ length (put (λ m. m) k ns)
length-put k [] = omega arith
length-put k (x ∷ xs) =
    ⊎_elim
    (λ (lt : ltb k x ≡ true). rw lt (omega arith))
    (λ (lt : ltb k x ≡ false).
    rw lt
    (⊎_elim
    (λ (s : eqb k x ≡ true). rw s (omega arith))
    (λ (s : eqb k x ≡ false). rw s (let more = length-put k xs in omega arith))
    (cases_Bool (eqb k x))))
    (cases_Bool (ltb k x))

-- ---- rising

all_less : (x : ℕ) (xs : List ℕ) → AllByRecursion (λ y. x < y) xs → AllByRecursion (λ y. nat_cmp x y ≡ Less) xs
all_less x [] all = tt
all_less x (y ∷ ys) all = ((let lt = all.0 in grind arith), all_less x ys all.1)

pub sorted : (ns : List ℕ) → Rises ns → IsStrictlySortedBy nat_cmp ns
unfolding IsStrictlySortedBy
sorted [] rise = tt
sorted (x ∷ xs) rise = (all_less x xs rise.0, sorted xs rise.1)

pub IsStrictlyIncreasing-rises : (ns : List ℕ) → Rises ns → IsStrictlyIncreasing ns
IsStrictlyIncreasing-rises ns rise = IsStrictlyIncreasing-from_sorted ns (sorted ns rise)

-- ---- entries whose keys rise

-- what a look-up finds is the value of a key
found_key : {X : Type 0} (n : ℕ) (v : X) (es : List (ℕ × X)) (m : ℕ) → AllByRecursion (λ k. m < k) (keys_of es) → lookup (is_at (nat_cmp n)) es ≡ Some v → m < n
found_key n v [] m above is = absurd (cc)
found_key {X} n v (e ∷ es) m above is =
    ⊎_elim
    (λ (s : eqb n e.0 ≡ true). let same = eqb-true n e.0 s in let lt = above.0 in omega arith)
    (λ (s : eqb n e.0 ≡ false).
    let at : is_at (nat_cmp n) e.0 ≡ false = at_is n e.0 ∙ s in
    let rest : Option X = lookup (is_at (nat_cmp n)) es in
    let tail : rest ≡ Some v = subst (λ b. cond b (Some e.1) rest ≡ Some v) at is in
    found_key n v es m above.1 tail)
    (cases_Bool (eqb n e.0))

-- a filter by the values is one by the keys, if each value that a look-up finds passes as its key does
pub keys-filter : {X : Type 0} (test : X → Bool) (want : ℕ → Bool) (es : List (ℕ × X)) → Rises (keys_of es) → ((n : ℕ) (v : X) → lookup (is_at (nat_cmp n)) es ≡ Some v → test v ≡ want n)
    → keys_of (filter (λ e. test e.1) es) ≡ filter want (keys_of es)
keys-filter test want [] rise agree = refl
keys-filter {X} test want (e ∷ es) rise agree =
    let rest : Option X = lookup (is_at (nat_cmp e.0)) es in
    let here : is_at (nat_cmp e.0) e.0 ≡ true = at_is e.0 e.0 ∙ eq-eqb e.0 e.0 refl in
    let first : test e.1 ≡ want e.0 = agree e.0 e.1 (ap (λ b. cond b (Some e.1) rest) here) in
    let others : (n : ℕ) (v : X) → lookup (is_at (nat_cmp n)) es ≡ Some v → test v ≡ want n =
    λ n v is.
    let lt : e.0 < n = found_key n v es e.0 rise.0 is in
    let away : is_at (nat_cmp n) e.0 ≡ false = at_is n e.0 ∙ ne_eqb n e.0 (λ same. omega arith) in
    agree n v (ap (λ b. cond b (Some e.1) (lookup (is_at (nat_cmp n)) es)) away ∙ is) in
    let tail = keys-filter test want es rise.1 others in
    ⊎_elim
    (λ (t : test e.1 ≡ true). let w : want e.0 ≡ true = sym first ∙ t in rw t (rw w (ap (λ ns. e.0 ∷ ns) tail)))
    (λ (t : test e.1 ≡ false). let w : want e.0 ≡ false = sym first ∙ t in rw t (rw w tail))
    (cases_Bool (test e.1))

-- what holds of each value that a look-up finds holds of each entry
pub all_entries : {X : Type 0} (P : ℕ → X → Type 0) (es : List (ℕ × X)) → Rises (keys_of es) → ((n : ℕ) (v : X) → lookup (is_at (nat_cmp n)) es ≡ Some v → P n v) → AllByRecursion (λ e. P e.0 e.1) es
all_entries P [] rise agree = tt
all_entries {X} P (e ∷ es) rise agree =
    let rest : Option X = lookup (is_at (nat_cmp e.0)) es in
    let here : is_at (nat_cmp e.0) e.0 ≡ true = at_is e.0 e.0 ∙ eq-eqb e.0 e.0 refl in (
      agree e.0 e.1 (ap (λ b. cond b (Some e.1) rest) here),
      all_entries P es rise.1
          (λ n v is.
          let lt : e.0 < n = found_key n v es e.0 rise.0 is in
          let away : is_at (nat_cmp n) e.0 ≡ false = at_is n e.0 ∙ ne_eqb n e.0 (λ same. omega arith) in
          agree n v (ap (λ b. cond b (Some e.1) (lookup (is_at (nat_cmp n)) es)) away ∙ is)),
    )
