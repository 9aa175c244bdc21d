-- Keys that rise are known by which keys are among them.
use Rattle.std.proofs.Common.{◌≡◌, ℕ, Bool, true, false, ◌||◌, List, [], ◌∷◌, Option, Some, None, refl, sym, ap, ap₂, ◌∙◌, ⊎_elim}
use Rattle.std.specs.List.{AllByRecursion}
use Rattle.std.specs.List.Sorted.{IsStrictlySortedBy}
use Rattle.std.specs.declared.cmp.Ordering.{Ordering}
use Rattle.std.specs.declared.cmp.Ordering.TheVariants.{Less, Equal, Greater}
use Rattle.std.specs.Ordering.{is_eq, ordering_reverse, ordering_then, nat_cmp, int_cmp}
use Rattle.std.specs.Option.{option_cmp}
use Rattle.std.specs.Cmp.{IsTotalOrder, tied_itself, signed_Decides}
use Rattle.std.specs.Cmp.Lexicographic.{slice_cmp}
use Rattle.std.proofs.lemmas.Bool.{cases_Bool, true≢false}
use Rattle.mail_records.specs.Orders.{AreKeys, Key, has_by, key_cmp}
use Rattle.mail_records.proofs.Rising.{all_map}
use Rattle.mail_records.proofs.KeyOrder.{key_total}
use Rattle.mail_records.proofs.KeyTables.{then_first, then_second, nat_equal}

eq_Equal : (r : Ordering) → is_eq r ≡ true → r ≡ Equal
eq_Equal Less e = absurd (true≢false (sym e))
eq_Equal Equal e = refl
eq_Equal Greater e = absurd (true≢false (sym e))

text_equal : (a b : List ℕ) → is_eq (slice_cmp nat_cmp a b) ≡ true → a ≡ b
text_equal [] [] e = refl
text_equal [] (y ∷ ys) e = absurd (true≢false (sym e))
text_equal (x ∷ xs) [] e = absurd (true≢false (sym e))
text_equal (x ∷ xs) (y ∷ ys) e =
    ap₂ (λ z zs. z ∷ zs) (nat_equal x y (then_first (nat_cmp x y) (slice_cmp nat_cmp xs ys) e))
    (text_equal xs ys (then_second (nat_cmp x y) (slice_cmp nat_cmp xs ys) e))

group_equal : (a b : Option ℕ) → is_eq (option_cmp nat_cmp a b) ≡ true → a ≡ b
group_equal None None e = refl
group_equal None (Some y) e = absurd (true≢false (sym e))
group_equal (Some x) None e = absurd (true≢false (sym e))
group_equal (Some x) (Some y) e = ap Some (nat_equal x y e)

-- equal keys are one
pub key_equal : (a b : Key) → is_eq (key_cmp a b) ≡ true → a ≡ b
key_equal a b e =
    let places = nat_cmp a.place b.place in
    let numbers = ordering_then (nat_cmp a.number b.number) places in
    let times = ordering_then (int_cmp a.received b.received) numbers in
    let texts = ordering_then (slice_cmp nat_cmp a.text b.text) times in
    let after_group = then_second (option_cmp nat_cmp a.group b.group) texts e in
    let after_text = then_second (slice_cmp nat_cmp a.text b.text) times after_group in
    let after_time = then_second (int_cmp a.received b.received) numbers after_text in
    let group = group_equal a.group b.group (then_first (option_cmp nat_cmp a.group b.group) texts e) in
    let text = text_equal a.text b.text (then_first (slice_cmp nat_cmp a.text b.text) times after_group) in
    let time = (signed_Decides a.received b.received).0 (then_first (int_cmp a.received b.received) numbers after_text) in
    let number = nat_equal a.number b.number (then_first (nat_cmp a.number b.number) places after_time) in
    let place = nat_equal a.place b.place (then_second (nat_cmp a.number b.number) places after_time) in
    λ i. record { group = group i; text = text i; received = time i; number = number i; place = place i }

module _ {K : Type 0} {R : K → K → Ordering} (o : IsTotalOrder R) (one : (a b : K) → is_eq (R a b) ≡ true → a ≡ b) where
  -- what is above an item isn't the item
  none_above : (x : K) (ys : List K) → AllByRecursion (λ y. R x y ≡ Less) ys → has_by R x ys ≡ false
  none_above x [] all = refl
  none_above x (y ∷ ys) all =
      let away : is_eq (R y x) ≡ false = ap is_eq (o.antisymm y x ∙ ap ordering_reverse all.0) in rw away (none_above x ys all.1)

  here : (x : K) (xs : List K) → has_by R x (x ∷ xs) ≡ true
  here x xs = rw (tied_itself o x) refl

  missing : (x y : K) (ys : List K) → R x y ≡ Less → AllByRecursion (λ z. R y z ≡ Less) ys → has_by R x (y ∷ ys) ≡ false
  missing x y ys less all = none_above x (y ∷ ys) (less, all_map (λ z. R y z ≡ Less) (λ z. R x z ≡ Less) (λ z l. o.trans x y z less l) ys all)

  same_tails : (x y : K) (xs ys : List K) → R x y ≡ Equal → AllByRecursion (λ z. R x z ≡ Less) xs → AllByRecursion (λ z. R y z ≡ Less) ys
      → ((k : K) → has_by R k (x ∷ xs) ≡ has_by R k (y ∷ ys)) → (k : K) → has_by R k xs ≡ has_by R k ys
  same_tails x y xs ys e above over same k =
      ⊎_elim
      (λ (t : is_eq (R x k) ≡ true).
      let at = eq_Equal (R x k) t in
      let other : R y k ≡ Equal = sym (o.congr x y k e) ∙ at in
      none_above k xs (all_map (λ z. R x z ≡ Less) (λ z. R k z ≡ Less) (λ z l. sym (o.congr x k z at) ∙ l) xs above)
      ∙ sym (none_above k ys (all_map (λ z. R y z ≡ Less) (λ z. R k z ≡ Less) (λ z l. sym (o.congr y k z other) ∙ l) ys over)))
      (λ (t : is_eq (R x k) ≡ false).
      let other : is_eq (R y k) ≡ false = ap is_eq (sym (o.congr x y k e)) ∙ t in
      sym (ap (λ b. b || has_by R k xs) t) ∙ (same k ∙ ap (λ b. b || has_by R k ys) other))
      (cases_Bool (is_eq (R x k)))

  -- two lists that rise and have the same items are the same
  pub rise_unique : (xs ys : List K) → IsStrictlySortedBy R xs → IsStrictlySortedBy R ys → ((k : K) → has_by R k xs ≡ has_by R k ys) → xs ≡ ys
  unfolding IsStrictlySortedBy
  rise_unique [] [] a b same = refl
  rise_unique [] (y ∷ ys) a b same = absurd (true≢false (sym (here y ys) ∙ sym (same y)))
  rise_unique (x ∷ xs) [] a b same = absurd (true≢false (sym (here x xs) ∙ same x))
  rise_unique (x ∷ xs) (y ∷ ys) a b same = step (R x y) refl (rise_unique xs ys a.1 b.1)
    where
      step : (r : Ordering) → R x y ≡ r → (((k : K) → has_by R k xs ≡ has_by R k ys) → xs ≡ ys) → x ∷ xs ≡ y ∷ ys
      step Less e rec = absurd (true≢false (sym (here x xs) ∙ (same x ∙ missing x y ys e b.0)))
      step Equal e rec = ap₂ (λ z zs. z ∷ zs) (one x y (ap is_eq e)) (rec (same_tails x y xs ys e a.0 b.0 same))
      step Greater e rec =
          let less : R y x ≡ Less = o.antisymm y x ∙ ap ordering_reverse e in
          absurd (true≢false (sym (here y ys) ∙ (sym (same y) ∙ missing y x xs less a.0)))

-- exact keys are one list
pub AreKeys-unique : {R : Type 0} (test : Key → Bool) (number : R → ℕ) (keys : R → List Key) (rows : List R) (xs ys : List Key)
    → AreKeys test number keys rows xs → AreKeys test number keys rows ys → xs ≡ ys
AreKeys-unique test number keys rows xs ys a b = rise_unique key_total key_equal xs ys a.rise b.rise (λ k. a.exactly k ∙ sym (b.exactly k))
