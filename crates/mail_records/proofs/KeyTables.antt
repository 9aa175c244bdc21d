-- The keys of entries next to a table: what they come to as a record is put or dropped, and the parts of them.
use Rattle.std.proofs.Common.{◌≡◌, ℕ, ◌+◌, ◌<◌, Bool, true, false, ◌||◌, ◌&&◌, not, cond, eqb, List, [], ◌∷◌, drop, map, filter, length, get_or, Option, Some, None, refl, sym, ap, ap₂, ◌∙◌, subst, arith, ⊎_elim, inl, inr, eqb-true, ◌⊎◌}
use Rattle.std.specs.List.{AllByRecursion}
use Rattle.std.specs.declared.cmp.Ordering.{Ordering}
use Rattle.std.specs.declared.cmp.Ordering.TheVariants.{Less, Equal, Greater}
use Rattle.std.specs.Ordering.{is_eq, is_lt, is_gt, ordering_then, nat_cmp, int_cmp}
use Rattle.std.specs.Option.{option_cmp}
use Rattle.std.specs.Cmp.{IsTotalOrder, alike_right, tied_itself, nat_cmp_total, then_total, on_total}
use Rattle.std.specs.Cmp.Lexicographic.{slice_cmp, options_total, nat_list_cmp_total}
use Rattle.std.proofs.lemmas.Bool.{cases_Bool, true≢false, eqb-false}
use Rattle.std.proofs.lemmas.List.{drop_more}
use Rattle.std.proofs.lemmas.List.Kept.{IsStrictlySortedBy-filter}
use Rattle.mail_records.specs.Tables.{lookup, put, without}
use Rattle.mail_records.specs.Orders.{AreKeys, Key, KeysRise, any_key, has_in, has_key, has_text, is_in_group, is_key_of, key_cmp, key_of, keys_of}
use Rattle.mail_records.specs.OrderSteps.{prefix_cmp, rest_cmp, put_in, put_all_in, take_out, take_all_out}
use Rattle.mail_records.proofs.Tables.{lookup-put_same, lookup-put_other, lookup-without_other, lookup-without_same}
use Rattle.mail_records.proofs.Rising.{has-filter, has-put_all, has-take_all, rise-put_all, rise-take_all}
use Rattle.mail_records.proofs.KeyOrder.{key_total}

-- ---- one item of a list more

pub put_step : {K : Type 0} (R : K → K → Ordering) (ks : List K) (i : ℕ) (k : K) (xs : List K) → i < length ks → k ≡ get_or ks i k
    → put_all_in R (drop (i + 1) ks) (put_in R k xs) ≡ put_all_in R (drop i ks) xs
put_step R ks i k xs lt is = ap (λ zs. put_all_in R zs xs) (sym (drop_more ks i k lt ∙ ap (λ z. z ∷ drop (i + 1) ks) (sym is)))

pub out_step : {K : Type 0} (R : K → K → Ordering) (ks : List K) (i : ℕ) (k : K) (xs : List K) → i < length ks → k ≡ get_or ks i k
    → take_all_out R (drop (i + 1) ks) (take_out R k xs) ≡ take_all_out R (drop i ks) xs
out_step R ks i k xs lt is = ap (λ zs. take_all_out R zs xs) (sym (drop_more ks i k lt ∙ ap (λ z. z ∷ drop (i + 1) ks) (sym is)))

-- ---- equal keys

pub then_first : (r s : Ordering) → is_eq (ordering_then r s) ≡ true → is_eq r ≡ true
then_first Less s e = e
then_first Equal s e = refl
then_first Greater s e = e

pub then_second : (r s : Ordering) → is_eq (ordering_then r s) ≡ true → is_eq s ≡ true
then_second Less s e = absurd (true≢false (sym e))
then_second Equal s e = e
then_second Greater s e = absurd (true≢false (sym e))

eq_Equal : (r : Ordering) → is_eq r ≡ true → r ≡ Equal
eq_Equal Less e = absurd (true≢false (sym e))
eq_Equal Equal e = refl
eq_Equal Greater e = absurd (true≢false (sym e))

pub nat_equal : (a b : ℕ) → is_eq (nat_cmp a b) ≡ true → a ≡ b
nat_equal a b e = grind (arith, e)

pub equal_number : (a b : Key) → is_eq (key_cmp a b) ≡ true → a.number ≡ b.number
equal_number a b e =
    let places = nat_cmp a.place b.place in
    let numbers = ordering_then (nat_cmp a.number b.number) places in
    let times = ordering_then (int_cmp a.received b.received) numbers in
    let texts = ordering_then (slice_cmp nat_cmp a.text b.text) times in
    nat_equal a.number b.number
    (then_first (nat_cmp a.number b.number) places
    (then_second (int_cmp a.received b.received) numbers
    (then_second (slice_cmp nat_cmp a.text b.text) times (then_second (option_cmp nat_cmp a.group b.group) texts e))))

or_first : (a b : Bool) → (a || b) ≡ false → a ≡ false
or_first true b h = absurd (true≢false h)
or_first false b h = refl

or_second : (a b : Bool) → (a || b) ≡ false → b ≡ false
or_second true b h = absurd (true≢false h)
or_second false b h = h

not_and : (b : Bool) → (not b && b) ≡ false
not_and true = refl
not_and false = refl

-- no key of one number is among those of another
pub has_none : (n : ℕ) (k : Key) → eqb n k.number ≡ false → (ks : List Key) → AllByRecursion (λ x. x.number ≡ n) ks → has_key k ks ≡ false
has_none n k other [] all = refl
has_none n k other (x ∷ xs) all =
    ⊎_elim
    (λ (t : is_eq (key_cmp x k) ≡ true). absurd (eqb-false n k.number other (sym all.0 ∙ equal_number x k t)))
    (λ (t : is_eq (key_cmp x k) ≡ false). rw t (has_none n k other xs all.1))
    (cases_Bool (is_eq (key_cmp x k)))

same_map : {A B : Type 0} (f g : A → B) → ((x : A) → f x ≡ g x) → (xs : List A) → map f xs ≡ map g xs
same_map f g h [] = refl
same_map f g h (x ∷ xs) = ap₂ (λ y ys. y ∷ ys) (h x) (same_map f g h xs)

module _ {R E : Type 0} (number : R → ℕ) (owner : E → ℕ) (key : Option R → E → Key) (keys : R → List Key)
    (key_number : (o : Option R) (e : E) → (key o e).number ≡ owner e)
    (keys_number : (r : R) → AllByRecursion (λ k. k.number ≡ number r) (keys r)) where
  -- where no key has a number, no entry is of that record
  owners : (n : ℕ) (rows : List R) (es : List E) → ((k : Key) → k.number ≡ n → has_key k (keys_of number owner key rows es) ≡ false)
      → AllByRecursion (λ e. eqb n (owner e) ≡ false) es
  owners n rows [] none = tt
  owners n rows (e ∷ es) none =
      let k = key_of number owner key rows e in (
        ⊎_elim
            (λ (t : eqb n (owner e) ≡ true).
            let named : k.number ≡ n = key_number (lookup number (owner e) rows) e ∙ sym (eqb-true n (owner e) t) in
            let away = or_first (is_eq (key_cmp k k)) (has_key k (keys_of number owner key rows es)) (none k named) in
            absurd (true≢false (sym (ap is_eq (tied_itself key_total k)) ∙ away)))
            (λ (t : eqb n (owner e) ≡ false). t)
            (cases_Bool (eqb n (owner e))),
        owners n rows es (λ x named. or_second (is_eq (key_cmp k x)) (has_key x (keys_of number owner key rows es)) (none x named)),
      )

  -- tables that differ at a number alone give the same keys to the entries of other records
  same_besides : (n : ℕ) (rows other : List R) → ((m : ℕ) → eqb n m ≡ false → lookup number m rows ≡ lookup number m other)
      → (es : List E) → AllByRecursion (λ e. eqb n (owner e) ≡ false) es → keys_of number owner key rows es ≡ keys_of number owner key other es
  same_besides n rows other same [] all = refl
  same_besides n rows other same (e ∷ es) all =
      ap₂ (λ y ys. y ∷ ys) (ap (λ o. key o e) (same (owner e) all.0)) (same_besides n rows other same es all.1)

  -- tables with the same look-ups have the same orders
  pub same_tables : (rows other : List R) (es : List E) → ((m : ℕ) → lookup number m rows ≡ lookup number m other)
      → AreKeys any_key number keys rows (keys_of number owner key rows es) → AreKeys any_key number keys other (keys_of number owner key other es)
  same_tables rows other es same are =
      let is = same_map (key_of number owner key rows) (key_of number owner key other) (λ e. ap (λ o. key o e) (same (owner e))) es in record {
        rise = subst KeysRise is are.rise;
        exactly = λ k. subst (λ ks. has_key k ks ≡ is_key_of number keys rows k) is (are.exactly k) ∙ ap (has_in keys k) (same k.number);
      }

  -- the entries of a record were taken out
  pub left : (n : ℕ) (rows other : List R) (es fewer : List E) (old : R) → lookup number n rows ≡ Some old → number old ≡ n
      → ((m : ℕ) → lookup number m other ≡ lookup number m (without number n rows))
      → AreKeys any_key number keys rows (keys_of number owner key rows es)
      → keys_of number owner key rows fewer ≡ take_all_out key_cmp (keys old) (keys_of number owner key rows es)
      → AreKeys any_key number keys other (keys_of number owner key other fewer)
  left n rows other es fewer old there named same are is =
      let has : (k : Key) → has_key k (keys_of number owner key rows fewer) ≡ (not (has_key k (keys old)) && is_key_of number keys rows k) =
      λ k. ap (has_key k) is ∙ (has-take_all key_total (keys old) k (keys_of number owner key rows es) ∙ ap (λ b. not (has_key k (keys old)) && b) (are.exactly k)) in
      let gone : (k : Key) → k.number ≡ n → has_key k (keys_of number owner key rows fewer) ≡ false =
      λ k e. has k ∙ (ap (λ o. not (has_key k (keys old)) && has_in keys k o) (ap (λ m. lookup number m rows) e ∙ there) ∙ not_and (has_key k (keys old))) in
      let besides : (m : ℕ) → eqb n m ≡ false → lookup number m rows ≡ lookup number m other =
      λ m e. sym (same m ∙ lookup-without_other number n m e rows) in
      let moved = same_besides n rows other besides fewer (owners n rows fewer gone) in
      let exact : (k : Key) → has_key k (keys_of number owner key rows fewer) ≡ is_key_of number keys other k =
      λ k.
      ⊎_elim
      (λ (t : eqb n k.number ≡ true).
      let e : n ≡ k.number = eqb-true n k.number t in
      gone k (sym e) ∙ sym (ap (has_in keys k) (same k.number ∙ (ap (λ m. lookup number m (without number n rows)) (sym e) ∙ lookup-without_same number n rows))))
      (λ (t : eqb n k.number ≡ false).
      has k
      ∙ (ap (λ b. not b && is_key_of number keys rows k) (has_none n k t (keys old) (subst (λ m. AllByRecursion (λ x. x.number ≡ m) (keys old)) named (keys_number old)))
      ∙ ap (has_in keys k) (besides k.number t)))
      (cases_Bool (eqb n k.number)) in
      record {
        rise = subst KeysRise moved (subst KeysRise (sym is) (rise-take_all key_total (keys old) (keys_of number owner key rows es) are.rise));
        exactly = λ k. subst (λ ks. has_key k ks ≡ is_key_of number keys other k) moved (exact k);
      }

  -- the keys of the other records' entries are the same with a record that was put
  pub unmoved : (n : ℕ) (rows : List R) (es : List E) → AreKeys any_key number keys (without number n rows) (keys_of number owner key (without number n rows) es)
      → keys_of number owner key (without number n rows) es ≡ keys_of number owner key rows es
  unmoved n rows es are =
      let gone : (k : Key) → k.number ≡ n → has_key k (keys_of number owner key (without number n rows) es) ≡ false =
      λ k e. are.exactly k ∙ ap (has_in keys k) (ap (λ m. lookup number m (without number n rows)) e ∙ lookup-without_same number n rows) in
      same_besides n (without number n rows) rows (λ m e. lookup-without_other number n m e rows) es (owners n (without number n rows) es gone)

  -- the entries of a record were put in
  pub settled : (n : ℕ) (rows : List R) (es more : List E) (row : R) → lookup number n rows ≡ Some row → number row ≡ n
      → AreKeys any_key number keys (without number n rows) (keys_of number owner key (without number n rows) es)
      → keys_of number owner key rows more ≡ put_all_in key_cmp (keys row) (keys_of number owner key rows es)
      → AreKeys any_key number keys rows (keys_of number owner key rows more)
  settled n rows es more row there named are is =
      let same = unmoved n rows es are in
      let has : (k : Key) → has_key k (keys_of number owner key rows more) ≡ (has_key k (keys row) || is_key_of number keys (without number n rows) k) =
      λ k.
      ap (has_key k) is
      ∙ (has-put_all key_total (keys row) k (keys_of number owner key rows es)
      ∙ ap (λ b. has_key k (keys row) || b) (ap (has_key k) (sym same) ∙ are.exactly k)) in
      let exact : (k : Key) → has_key k (keys_of number owner key rows more) ≡ is_key_of number keys rows k =
      λ k.
      ⊎_elim
      (λ (t : eqb n k.number ≡ true).
      let e : n ≡ k.number = eqb-true n k.number t in
      has k
      ∙ (ap (λ o. has_key k (keys row) || has_in keys k o) (ap (λ m. lookup number m (without number n rows)) (sym e) ∙ lookup-without_same number n rows)
      ∙ (or_none (has_key k (keys row)) ∙ sym (ap (has_in keys k) (ap (λ m. lookup number m rows) (sym e) ∙ there)))))
      (λ (t : eqb n k.number ≡ false).
      has k
      ∙ (ap (λ b. b || is_key_of number keys (without number n rows) k) (has_none n k t (keys row) (subst (λ m. AllByRecursion (λ x. x.number ≡ m) (keys row)) named (keys_number row)))
      ∙ ap (has_in keys k) (lookup-without_other number n k.number t rows)))
      (cases_Bool (eqb n k.number)) in
      record {
        rise = subst KeysRise (sym is) (rise-put_all key_total (keys row) (keys_of number owner key rows es) (subst KeysRise same are.rise));
        exactly = exact;
      }
    where
      or_none : (b : Bool) → (b || false) ≡ b
      or_none true = refl
      or_none false = refl

  -- a record was put that has the same keys as the one of its number
  pub kept : (rows : List R) (es : List E) (old item : R) → lookup number (number item) rows ≡ Some old → keys old ≡ keys item
      → ((e : E) → key (Some old) e ≡ key (Some item) e)
      → AreKeys any_key number keys rows (keys_of number owner key rows es)
      → AreKeys any_key number keys (put number item rows) (keys_of number owner key (put number item rows) es)
  kept rows es old item there same_keys same_key are =
      let at : (e : E) (m : ℕ) → key (lookup number m rows) e ≡ key (lookup number m (put number item rows)) e =
      λ e m.
      ⊎_elim
      (λ (t : eqb (number item) m ≡ true).
      let is : number item ≡ m = eqb-true (number item) m t in
      ap (λ o. key o e) (ap (λ x. lookup number x rows) (sym is) ∙ there)
      ∙ (same_key e ∙ ap (λ o. key o e) (sym (lookup-put_same number item m is rows))))
      (λ (t : eqb (number item) m ≡ false). ap (λ o. key o e) (sym (lookup-put_other number item m t rows)))
      (cases_Bool (eqb (number item) m)) in
      let of : (k : Key) → is_key_of number keys rows k ≡ is_key_of number keys (put number item rows) k =
      λ k.
      ⊎_elim
      (λ (t : eqb (number item) k.number ≡ true).
      let is : number item ≡ k.number = eqb-true (number item) k.number t in
      ap (has_in keys k) (ap (λ x. lookup number x rows) (sym is) ∙ there)
      ∙ (ap (has_key k) same_keys ∙ ap (has_in keys k) (sym (lookup-put_same number item k.number is rows))))
      (λ (t : eqb (number item) k.number ≡ false). ap (has_in keys k) (sym (lookup-put_other number item k.number t rows)))
      (cases_Bool (eqb (number item) k.number)) in
      let is = same_map (key_of number owner key rows) (key_of number owner key (put number item rows)) (λ e. at e (owner e)) es in record {
        rise = subst KeysRise is are.rise;
        exactly = λ k. subst (λ ks. has_key k ks ≡ is_key_of number keys rows k) is (are.exactly k) ∙ of k;
      }

-- ---- look-ups in tables

pub lookups_absent : {R : Type 0} (number : R → ℕ) (n : ℕ) (rows : List R) → lookup number n rows ≡ None → (m : ℕ) → lookup number m rows ≡ lookup number m (without number n rows)
lookups_absent number n rows none m =
    ⊎_elim
    (λ (t : eqb n m ≡ true).
    let e : n ≡ m = eqb-true n m t in
    subst (λ x. lookup number x rows ≡ lookup number x (without number n rows)) e (none ∙ sym (lookup-without_same number n rows)))
    (λ (t : eqb n m ≡ false). sym (lookup-without_other number n m t rows))
    (cases_Bool (eqb n m))

pub lookups_put : {R : Type 0} (number : R → ℕ) (item : R) (rows : List R) (m : ℕ)
    → lookup number m (without number (number item) (put number item rows)) ≡ lookup number m (without number (number item) rows)
lookups_put number item rows m =
    ⊎_elim
    (λ (t : eqb (number item) m ≡ true).
    let e : number item ≡ m = eqb-true (number item) m t in
    subst (λ x. lookup number x (without number (number item) (put number item rows)) ≡ lookup number x (without number (number item) rows)) e
    (lookup-without_same number (number item) (put number item rows) ∙ sym (lookup-without_same number (number item) rows)))
    (λ (t : eqb (number item) m ≡ false).
    lookup-without_other number (number item) m t (put number item rows)
    ∙ (lookup-put_other number item m t rows ∙ sym (lookup-without_other number (number item) m t rows)))
    (cases_Bool (eqb (number item) m))

-- the record that is found has the number
pub lookup_number : {R : Type 0} (number : R → ℕ) (n : ℕ) (rows : List R) (r : R) → lookup number n rows ≡ Some r → number r ≡ n
lookup_number number n [] r e = absurd (cc)
lookup_number number n (x ∷ xs) r e =
    ⊎_elim
    (λ (t : eqb (number x) n ≡ true).
    let is : Some x ≡ Some r = subst (λ b. cond b (Some x) (lookup number n xs) ≡ Some r) t e in
    let same : x ≡ r = cc in subst (λ z. number z ≡ n) same (eqb-true (number x) n t))
    (λ (t : eqb (number x) n ≡ false). lookup_number number n xs r (subst (λ b. cond b (Some x) (lookup number n xs) ≡ Some r) t e))
    (cases_Bool (eqb (number x) n))

-- ---- parts by group and text

-- the part of exact keys at which an order of keys to something is `Equal`
pub part_exact : {R : Type 0} (number : R → ℕ) (keys : R → List Key) (rows : List R) (c : Key → Ordering) (all part : List Key)
    → ((x k : Key) → is_eq (key_cmp x k) ≡ true → c x ≡ c k)
    → AreKeys any_key number keys rows all → part ≡ filter (λ k. is_eq (c k)) all → AreKeys (λ k. is_eq (c k)) number keys rows part
part_exact number keys rows c all part same are is = record {
  rise = subst KeysRise (sym is) (IsStrictlySortedBy-filter key_cmp (λ k. is_eq (c k)) all are.rise);
  exactly = λ k.
      ap (has_key k) is
      ∙ (has-filter key_cmp (λ x. is_eq (c x)) k (λ x e. ap is_eq (same x k e)) all ∙ ap (λ b. is_eq (c k) && b) (are.exactly k));
}

-- what decides where the groups are the same
abbrev after_group : Key → Key → Ordering
after_group x k = ordering_then (slice_cmp nat_cmp x.text k.text) (rest_cmp x k)

pub group_same : (group : Option ℕ) (x k : Key) → is_eq (key_cmp x k) ≡ true → option_cmp nat_cmp x.group group ≡ option_cmp nat_cmp k.group group
group_same group x k e =
    let r = option_cmp nat_cmp x.group k.group in
    (options_total nat_cmp_total).congr x.group k.group group (eq_Equal r (then_first r (after_group x k) e))

pub prefix_same : (group : Option ℕ) (text : List ℕ) (x k : Key) → is_eq (key_cmp x k) ≡ true → prefix_cmp group text x ≡ prefix_cmp group text k
prefix_same group text x k e =
    let r = slice_cmp nat_cmp x.text k.text in
    ap₂ ordering_then (group_same group x k e)
    (nat_list_cmp_total.congr x.text k.text text
    (eq_Equal r (then_first r (rest_cmp x k) (then_second (option_cmp nat_cmp x.group k.group) (after_group x k) e))))

then_le : (r s : Ordering) → ordering_then r s ≡ Less → (r ≡ Less) ⊎ (r ≡ Equal)
then_le Less s e = inl refl
then_le Equal s e = inr refl
then_le Greater s e = absurd (true≢false (sym (ap is_lt e)))

then_le_two : (r s t : Ordering) → ordering_then r (ordering_then s t) ≡ Less → (ordering_then r s ≡ Less) ⊎ (ordering_then r s ≡ Equal)
then_le_two Less s t e = inl refl
then_le_two Equal s t e = then_le s t e
then_le_two Greater s t e = absurd (true≢false (sym (ap is_lt e)))

not_gt : (r : Ordering) → not (is_gt r) ≡ true → (r ≡ Less) ⊎ (r ≡ Equal)
not_gt Less e = inl refl
not_gt Equal e = inr refl
not_gt Greater e = absurd (true≢false (sym e))

-- what is below goes over to what is not above
downs : {K : Type 0} {P : K → K → Ordering} → IsTotalOrder P → (g x y : K) → (P x y ≡ Less) ⊎ (P x y ≡ Equal)
    → (is_lt (P y g) ≡ true → is_lt (P x g) ≡ true) × (not (is_gt (P y g)) ≡ true → not (is_gt (P x g)) ≡ true)
downs {K} {P} o g x y le = (
  λ p. ⊎_elim (λ l. ap is_lt (o.trans x y g l (lt_Less (P y g) p))) (λ e. ap is_lt (o.congr x y g e) ∙ p) le,
  λ p. ⊎_elim
      (λ l. ⊎_elim (λ m. ap (λ r. not (is_gt r)) (o.trans x y g l m)) (λ m. ap (λ r. not (is_gt r)) (sym (alike_right o y g x m) ∙ l)) (not_gt (P y g) p))
      (λ e. ap (λ r. not (is_gt r)) (o.congr x y g e) ∙ p) le,
)
  where
    lt_Less : (r : Ordering) → is_lt r ≡ true → r ≡ Less
    lt_Less Less e = refl
    lt_Less Equal e = absurd (true≢false (sym e))
    lt_Less Greater e = absurd (true≢false (sym e))

pub group_downs : (group : Option ℕ) (x y : Key) → key_cmp x y ≡ Less
    → (is_lt (option_cmp nat_cmp y.group group) ≡ true → is_lt (option_cmp nat_cmp x.group group) ≡ true)
    × (not (is_gt (option_cmp nat_cmp y.group group)) ≡ true → not (is_gt (option_cmp nat_cmp x.group group)) ≡ true)
group_downs group x y less = downs (options_total nat_cmp_total) group x.group y.group (then_le (option_cmp nat_cmp x.group y.group) (after_group x y) less)

pub prefix_downs : (group : Option ℕ) (text : List ℕ) (x y : Key) → key_cmp x y ≡ Less
    → (is_lt (prefix_cmp group text y) ≡ true → is_lt (prefix_cmp group text x) ≡ true)
    × (not (is_gt (prefix_cmp group text y)) ≡ true → not (is_gt (prefix_cmp group text x)) ≡ true)
prefix_downs group text x y less =
    let probe : Key = record { group = group; text = text; received = x.received; number = 0; place = 0 } in
    downs {P = prefix_order} (then_total (on_total (λ (k : Key). k.group) (options_total nat_cmp_total)) (on_total (λ (k : Key). k.text) nat_list_cmp_total))
    probe x y (then_le_two (option_cmp nat_cmp x.group y.group) (slice_cmp nat_cmp x.text y.text) (rest_cmp x y) less)
  where
    prefix_order : Key → Key → Ordering
    prefix_order a b = ordering_then (option_cmp nat_cmp a.group b.group) (slice_cmp nat_cmp a.text b.text)

and_then : (r s : Ordering) → is_eq (ordering_then r s) ≡ (is_eq r && is_eq s)
and_then Less s = refl
and_then Equal s = refl
and_then Greater s = refl

-- a part by group and text, by two tests
pub prefix_test : {R : Type 0} (number : R → ℕ) (keys : R → List Key) (rows : List R) (group : Option ℕ) (text : List ℕ) (ks : List Key)
    → AreKeys (λ k. is_eq (prefix_cmp group text k)) number keys rows ks → AreKeys (λ k. is_in_group group k && has_text text k) number keys rows ks
prefix_test number keys rows group text ks are = record {
  rise = are.rise;
  exactly = λ k.
      are.exactly k ∙ ap (λ b. b && is_key_of number keys rows k) (and_then (option_cmp nat_cmp k.group group) (slice_cmp nat_cmp k.text text));
}
