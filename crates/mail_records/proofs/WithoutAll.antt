-- Tables and orders without the records of some numbers, and what edits come to next to them.
use Rattle.std.proofs.Common.{◌≡◌, ℕ, ◌<◌, ◌≤◌, ◌+◌, Bool, true, false, not, ◌||◌, ◌&&◌, cond, eqb, ltb, List, [], ◌∷◌, ◌++◌, filter, map, get_or, Option, Some, None, refl, sym, ap, ap₂, ◌∙◌, subst, arith, ⊎_elim, eqb-true, eq-eqb}
use Rattle.std.specs.List.{AllByRecursion}
use Rattle.std.specs.Result.{OnOk}
use Rattle.std.specs.declared.result.Result.{Result}
use Rattle.std.specs.declared.result.Result.TheVariants.{Ok, Err}
use Rattle.std.specs.List.Sorted.{IsSorted, IsStrictlyIncreasing}
use Rattle.std.specs.Ordering.{is_lt, nat_cmp}
use Rattle.std.proofs.lemmas.Bool.{cases_Bool, eqb-false, ne_eqb, true≢false, ltb-true, ltb-false}
use Rattle.std.proofs.lemmas.List.{get_or_default}
use Rattle.std.proofs.lemmas.List.Kept.{IsStrictlySortedBy-filter}
use Rattle.jm_base.specs.Splices.{has}
use Rattle.mail_records.specs.Contents.{Content, AreTables, email_number, thread_number}
use Rattle.mail_records.specs.Edits.{after_edit, Fits, HasNext, KeepsThread}
use Rattle.mail_records.specs.Orders.{AreKeys, Key, KeysRise, any_key, has_in, has_key, is_key_of, key_cmp, keys_of}
use Rattle.mail_records.specs.Tables.{IsTable, lookup, put, without, without_all}
use Rattle.mail_records.specs.Waiting.{IsPast, without_records}
use Rattle.mail_records.specs.declared.edits.Edit.{Edit}
use Rattle.mail_records.specs.declared.edits.Edit.TheVariants.{PutMailbox, DropMailbox, PutEmail, DropEmail, PutThread, DropThread}
use Rattle.mail_records.proofs.KeyTables.{equal_number}
use Rattle.mail_records.proofs.Rising.{has-filter}
use Rattle.mail_records.proofs.Tables.{All-kept}

-- ---- numbers in a list

not_less : (a b : ℕ) → a < b → is_lt (nat_cmp b a) ≡ false
not_less a b lt = grind (arith, lt)

-- numbers that rise are sorted
pub sorted-increasing : (xs : List ℕ) → IsStrictlyIncreasing xs → IsSorted nat_cmp xs
sorted-increasing xs rise k d low lt =
    let less : get_or xs k 0 < get_or xs (k + 1) 0 = rise k lt in
    let here : get_or xs k d ≡ get_or xs k 0 = get_or_default xs k d 0 (omega (arith, lt)) in
    let next : get_or xs (k + 1) d ≡ get_or xs (k + 1) 0 = get_or_default xs (k + 1) d 0 lt in
    not_less (get_or xs k d) (get_or xs (k + 1) d) (omega (arith, less, here, next))

-- what is noted at the end is at most the new bound
pub bound-more : (bound next n : ℕ) (ns : List ℕ) → AllByRecursion (λ m. m ≤ bound) ns → bound ≤ next → n ≤ next → AllByRecursion (λ m. m ≤ next) (ns ++ n ∷ [])
bound-more bound next n [] all le at = (at, tt)
bound-more bound next n (m ∷ ms) all le at = ((let one = all.0 in omega arith), bound-more bound next n ms all.1 le at)

pub has-append : (n m : ℕ) (ns : List ℕ) → has (ns ++ n ∷ []) m ≡ (has ns m || eqb n m)
has-append n m [] = or_none (eqb n m)
  where
    or_none : (b : Bool) → (b || false) ≡ b
    or_none true = refl
    or_none false = refl
has-append n m (x ∷ xs) = ap (λ b. eqb x m || b) (has-append n m xs) ∙ grouped (eqb x m) (has xs m) (eqb n m)
  where
    grouped : (a b c : Bool) → (a || (b || c)) ≡ ((a || b) || c)
    grouped true b c = refl
    grouped false b c = refl

-- a number above all others is none of them
pub has-above : (bound n : ℕ) → bound < n → (ns : List ℕ) → AllByRecursion (λ m. m ≤ bound) ns → has ns n ≡ false
has-above bound n lt [] all = refl
has-above bound n lt (m ∷ ms) all =
    let le : m ≤ bound = all.0 in
    let other : eqb m n ≡ false = ne_eqb m n (λ e. let no : ⊥ = omega (arith, le, lt, e) in no) in
    rw other (has-above bound n lt ms all.1)

eqb_turned : (a b : ℕ) → eqb a b ≡ eqb b a
eqb_turned a b =
    ⊎_elim
    (λ (t : eqb a b ≡ true). t ∙ sym (eq-eqb b a (sym (eqb-true a b t))))
    (λ (t : eqb a b ≡ false). t ∙ sym (ne_eqb b a (λ e. eqb-false a b t (sym e))))
    (cases_Bool (eqb a b))

-- ---- tables

module _ {R : Type 0} (number : R → ℕ) where
  pub without_none : (xs : List R) → without_all number [] xs ≡ xs
  without_none [] = refl
  without_none (x ∷ xs) = ap (λ zs. x ∷ zs) (without_none xs)

  -- lists with the same numbers
  pub without_same : (ns ms : List ℕ) → ((n : ℕ) → has ns n ≡ has ms n) → (xs : List R) → without_all number ns xs ≡ without_all number ms xs
  without_same ns ms same [] = refl
  without_same ns ms same (x ∷ xs) =
      ap₂ (λ b zs. cond (not b) (x ∷ zs) zs) (same (number x)) (without_same ns ms same xs)

  -- one number more
  pub without_more : (ns : List ℕ) (n : ℕ) (xs : List R) → without_all number (ns ++ n ∷ []) xs ≡ without number n (without_all number ns xs)
  without_more ns n [] = refl
  without_more ns n (x ∷ xs) =
      let more : has (ns ++ n ∷ []) (number x) ≡ (has ns (number x) || eqb (number x) n) = has-append n (number x) ns ∙ ap (λ b. has ns (number x) || b) (eqb_turned n (number x)) in
      rw more
      (⊎_elim
      (λ (t : has ns (number x) ≡ true). rw t (without_more ns n xs))
      (λ (t : has ns (number x) ≡ false).
      rw t
      (⊎_elim
      (λ (s : eqb (number x) n ≡ true). rw s (without_more ns n xs))
      (λ (s : eqb (number x) n ≡ false). rw s (ap (λ zs. x ∷ zs) (without_more ns n xs)))
      (cases_Bool (eqb (number x) n))))
      (cases_Bool (has ns (number x))))

  -- a removal and the others in either order
  pub without_turned : (ns : List ℕ) (n : ℕ) (xs : List R) → without number n (without_all number ns xs) ≡ without_all number ns (without number n xs)
  without_turned ns n [] = refl
  without_turned ns n (x ∷ xs) =
      ⊎_elim
      (λ (t : has ns (number x) ≡ true).
      rw t
      (⊎_elim
      (λ (s : eqb (number x) n ≡ true). rw s (without_turned ns n xs))
      (λ (s : eqb (number x) n ≡ false). rw s (rw t (without_turned ns n xs)))
      (cases_Bool (eqb (number x) n))))
      (λ (t : has ns (number x) ≡ false).
      rw t
      (⊎_elim
      (λ (s : eqb (number x) n ≡ true). rw s (without_turned ns n xs))
      (λ (s : eqb (number x) n ≡ false). rw s (rw t (ap (λ zs. x ∷ zs) (without_turned ns n xs))))
      (cases_Bool (eqb (number x) n))))
      (cases_Bool (has ns (number x)))

  -- the record of a number that isn't among these
  pub lookup-without_all : (ns : List ℕ) (n : ℕ) → has ns n ≡ false → (xs : List R) → lookup number n (without_all number ns xs) ≡ lookup number n xs
  lookup-without_all ns n away [] = refl
  lookup-without_all ns n away (x ∷ xs) =
      ⊎_elim
      (λ (t : has ns (number x) ≡ true).
      let other : eqb (number x) n ≡ false = ne_eqb (number x) n (λ e. true≢false (sym t ∙ (ap (has ns) e ∙ away))) in
      rw t (rw other (lookup-without_all ns n away xs)))
      (λ (t : has ns (number x) ≡ false). rw t (ap (λ o. cond (eqb (number x) n) (Some x) o) (lookup-without_all ns n away xs)))
      (cases_Bool (has ns (number x)))

  -- and of one that is
  pub lookup-without_these : (ns : List ℕ) (n : ℕ) → has ns n ≡ true → (xs : List R) → lookup number n (without_all number ns xs) ≡ None
  lookup-without_these ns n there [] = refl
  lookup-without_these ns n there (x ∷ xs) =
      ⊎_elim
      (λ (t : has ns (number x) ≡ true). rw t (lookup-without_these ns n there xs))
      (λ (t : has ns (number x) ≡ false).
      let other : eqb (number x) n ≡ false = ne_eqb (number x) n (λ e. true≢false (sym there ∙ (ap (has ns) (sym e) ∙ t))) in
      rw t (rw other (lookup-without_these ns n there xs)))
      (cases_Bool (has ns (number x)))

  put_first : (r : R) (ys : List R) → AllByRecursion (λ y. number r < number y) ys → put number r ys ≡ r ∷ ys
  put_first r [] all = refl
  put_first r (y ∷ ys) all =
      let lt : number r < number y = all.0 in
      let less : ltb (number r) (number y) ≡ true = ⊎_elim (λ (t : ltb (number r) (number y) ≡ true). t) (λ (t : ltb (number r) (number y) ≡ false). absurd (let ge = ltb-false (number r) (number y) t in omega (arith, lt, ge))) (cases_Bool (ltb (number r) (number y))) in
      rw less refl

  all_above : (m n : ℕ) → m ≤ n → (xs : List R) → AllByRecursion (λ x. n < number x) xs → AllByRecursion (λ x. m < number x) xs
  all_above m n le [] all = tt
  all_above m n le (x ∷ xs) all = ((let lt = all.0 in omega arith), all_above m n le xs all.1)

  -- a put of a number that isn't among these
  pub put-without_all : (ns : List ℕ) (r : R) → has ns (number r) ≡ false → (xs : List R) → IsTable number xs → put number r (without_all number ns xs) ≡ without_all number ns (put number r xs)
  put-without_all ns r away [] table = rw away refl
  put-without_all ns r away (x ∷ xs) table =
      ⊎_elim
      (λ (t : has ns (number x) ≡ true).
      rw t
      (⊎_elim
      (λ (lt : ltb (number r) (number x) ≡ true).
      rw lt
      (rw away
      (rw t
      (put_first r (without_all number ns xs)
      (All-kept (λ y. number r < number y) (λ y. not (has ns (number y))) xs
      (all_above (number r) (number x) (let less = ltb-true (number r) (number x) lt in omega arith) xs table.0))))))
      (λ (lt : ltb (number r) (number x) ≡ false).
      rw lt
      (⊎_elim
      (λ (s : eqb (number r) (number x) ≡ true). absurd (true≢false (sym t ∙ (ap (has ns) (sym (eqb-true (number r) (number x) s)) ∙ away))))
      (λ (s : eqb (number r) (number x) ≡ false). rw s (rw t (put-without_all ns r away xs table.1)))
      (cases_Bool (eqb (number r) (number x)))))
      (cases_Bool (ltb (number r) (number x)))))
      (λ (t : has ns (number x) ≡ false).
      rw t
      (⊎_elim
      (λ (lt : ltb (number r) (number x) ≡ true). rw lt (rw away (rw t refl)))
      (λ (lt : ltb (number r) (number x) ≡ false).
      rw lt
      (⊎_elim
      (λ (s : eqb (number r) (number x) ≡ true). rw s (rw away refl))
      (λ (s : eqb (number r) (number x) ≡ false). rw s (rw t (ap (λ zs. x ∷ zs) (put-without_all ns r away xs table.1))))
      (cases_Bool (eqb (number r) (number x)))))
      (cases_Bool (ltb (number r) (number x)))))
      (cases_Bool (has ns (number x)))

  pub IsTable-without_all : (ns : List ℕ) (xs : List R) → IsTable number xs → IsTable number (without_all number ns xs)
  IsTable-without_all ns [] table = tt
  IsTable-without_all ns (x ∷ xs) table =
      ⊎_elim
      (λ (t : has ns (number x) ≡ true). rw t (IsTable-without_all ns xs table.1))
      (λ (t : has ns (number x) ≡ false). rw t (All-kept (λ y. number x < number y) (λ y. not (has ns (number y))) xs table.0, IsTable-without_all ns xs table.1))
      (cases_Bool (has ns (number x)))

  pub map_without_all : {S : Type 0} (key : S → ℕ) (f : R → S) → ((x : R) → key (f x) ≡ number x) → (ns : List ℕ) (xs : List R)
      → map f (without_all number ns xs) ≡ without_all key ns (map f xs)
  map_without_all key f same ns [] = refl
  map_without_all key f same ns (x ∷ xs) =
      rw (same x)
      (⊎_elim
      (λ (t : has ns (number x) ≡ true). rw t (map_without_all key f same ns xs))
      (λ (t : has ns (number x) ≡ false). rw t (ap (λ zs. f x ∷ zs) (map_without_all key f same ns xs)))
      (cases_Bool (has ns (number x))))

-- ---- orders

module _ {R E : Type 0} (number : R → ℕ) (owner : E → ℕ) (key : Option R → E → Key) (keys : R → List Key)
    (key_number : (o : Option R) (e : E) → (key o e).number ≡ owner e) (ns : List ℕ) (rows : List R) where
  -- the entries of other records have the same keys as before, and these are the keys of other numbers
  same_keys : (es : List E) → keys_of number owner key (without_all number ns rows) (filter (λ e. not (has ns (owner e))) es)
      ≡ filter (λ k. not (has ns k.number)) (keys_of number owner key rows es)
  same_keys [] = refl
  same_keys (e ∷ es) = step e es (key (lookup number (owner e) rows) e) (key_number (lookup number (owner e) rows) e) refl (same_keys es)
    where
      step : (e : E) (es : List E) (k : Key) → k.number ≡ owner e → key (lookup number (owner e) rows) e ≡ k
          → keys_of number owner key (without_all number ns rows) (filter (λ e. not (has ns (owner e))) es) ≡ filter (λ k. not (has ns k.number)) (keys_of number owner key rows es)
          → keys_of number owner key (without_all number ns rows) (filter (λ e. not (has ns (owner e))) (e ∷ es))
          ≡ filter (λ k. not (has ns k.number)) (k ∷ keys_of number owner key rows es)
      step e es k at is rest =
          ⊎_elim
          (λ (t : has ns (owner e) ≡ true).
          let u : has ns k.number ≡ true = ap (has ns) at ∙ t in rw t (rw u rest))
          (λ (t : has ns (owner e) ≡ false).
          let u : has ns k.number ≡ false = ap (has ns) at ∙ t in
          rw t (rw u (ap₂ (λ k ks. k ∷ ks) (ap (λ o. key o e) (lookup-without_all number ns (owner e) t rows) ∙ is) rest)))
          (cases_Bool (has ns (owner e)))

  -- the entries of the records of these numbers were taken out
  pub left_all : (es fewer : List E) → AreKeys any_key number keys rows (keys_of number owner key rows es) → fewer ≡ filter (λ e. not (has ns (owner e))) es
      → AreKeys any_key number keys (without_all number ns rows) (keys_of number owner key (without_all number ns rows) fewer)
  left_all es fewer are is =
      let all = keys_of number owner key rows es in
      let test : Key → Bool = λ k. not (has ns k.number) in
      let made : keys_of number owner key (without_all number ns rows) fewer ≡ filter test all =
      ap (keys_of number owner key (without_all number ns rows)) is ∙ same_keys es in
      let of : (k : Key) → (test k && is_key_of number keys rows k) ≡ is_key_of number keys (without_all number ns rows) k =
      λ k.
      ⊎_elim
      (λ (t : has ns k.number ≡ true). rw t (sym (ap (has_in keys k) (lookup-without_these number ns k.number t rows))))
      (λ (t : has ns k.number ≡ false). rw t (sym (ap (has_in keys k) (lookup-without_all number ns k.number t rows))))
      (cases_Bool (has ns k.number)) in
      record {
        rise = subst KeysRise (sym made) (IsStrictlySortedBy-filter key_cmp test all are.rise);
        exactly = λ k.
            ap (has_key k) made
            ∙ (has-filter key_cmp test k (λ x e. ap (λ n. not (has ns n)) (equal_number x k e)) all ∙ (ap (λ b. test k && b) (are.exactly k) ∙ of k));
      }

-- ---- contents

-- an edit of a record of another number
pub after-waiting : (c : Content) (es ts : List ℕ) (e : Edit) → AreTables c → IsPast e es ts → after_edit (without_records c es ts) e ≡ without_records (after_edit c e) es ts
after-waiting c es ts (PutMailbox item was counts) tables past = refl
after-waiting c es ts (DropMailbox number) tables past = refl
after-waiting c es ts (PutEmail item was) tables past =
    ap (λ rs. record (without_records (after_edit c (PutEmail item was)) es ts) { emails = rs }) (put-without_all email_number es item past c.emails tables.emails)
after-waiting c es ts (DropEmail number thread) tables past =
    ap (λ rs. record (without_records c es ts) { emails = rs }) (without_turned email_number es number c.emails)
after-waiting c es ts (PutThread item was) tables past =
    ap (λ rs. record (without_records (after_edit c (PutThread item was)) es ts) { threads = rs }) (put-without_all thread_number ts item past c.threads tables.threads)
after-waiting c es ts (DropThread number) tables past =
    ap (λ rs. record (without_records c es ts) { threads = rs }) (without_turned thread_number ts number c.threads)

-- a removal that waits
pub email-waits : (c : Content) (es ts : List ℕ) (n thread : ℕ) → without_records c (es ++ n ∷ []) ts ≡ after_edit (without_records c es ts) (DropEmail n thread)
email-waits c es ts n thread = ap (λ rs. record (without_records c es ts) { emails = rs }) (without_more email_number es n c.emails)

pub thread-waits : (c : Content) (es ts : List ℕ) (n : ℕ) → without_records c es (ts ++ n ∷ []) ≡ after_edit (without_records c es ts) (DropThread n)
thread-waits c es ts n = ap (λ rs. record (without_records c es ts) { threads = rs }) (without_more thread_number ts n c.threads)

-- whether an edit of another number fits
pub Fits-waiting : (c : Content) (es ts : List ℕ) (e : Edit) → IsPast e es ts → Fits (without_records c es ts) e ≡ Fits c e
Fits-waiting c es ts (PutMailbox item was counts) past = refl
Fits-waiting c es ts (DropMailbox number) past = refl
Fits-waiting c es ts (PutEmail item was) past = rw (lookup-without_all email_number es item.number past c.emails) refl
Fits-waiting c es ts (DropEmail number thread) past = rw (lookup-without_all email_number es number past c.emails) refl
Fits-waiting c es ts (PutThread item was) past = rw (lookup-without_all thread_number ts item.number past c.threads) refl
Fits-waiting c es ts (DropThread number) past = rw (lookup-without_all thread_number ts number past c.threads) refl

-- and whether it keeps its email's thread
pub KeepsThread-waiting : (c : Content) (es ts : List ℕ) (e : Edit) → IsPast e es ts → KeepsThread (without_records c es ts) e ≡ KeepsThread c e
KeepsThread-waiting c es ts (PutMailbox item was counts) past = refl
KeepsThread-waiting c es ts (DropMailbox number) past = refl
KeepsThread-waiting c es ts (PutEmail item was) past = rw (lookup-without_all email_number es item.number past c.emails) refl
KeepsThread-waiting c es ts (DropEmail number thread) past = refl
KeepsThread-waiting c es ts (PutThread item was) past = refl
KeepsThread-waiting c es ts (DropThread number) past = refl

-- the next numbers are as before
pub HasNext-waiting : (c : Content) (es ts : List ℕ) (e : Edit) → HasNext (without_records c es ts) e ≡ HasNext c e
HasNext-waiting c es ts (PutMailbox item was counts) = refl
HasNext-waiting c es ts (DropMailbox number) = refl
HasNext-waiting c es ts (PutEmail item was) = refl
HasNext-waiting c es ts (DropEmail number thread) = refl
HasNext-waiting c es ts (PutThread item was) = refl
HasNext-waiting c es ts (DropThread number) = refl

-- the emails that waited, or the threads, were dropped
pub emails-dropped : (c d : Content) (es ns ts : List ℕ) (gone : List ℕ) → gone ≡ es → ns ≡ [] → d ≡ record c { emails = without_all email_number gone c.emails }
    → without_records d ns ts ≡ without_records c es ts
emails-dropped c d es ns ts gone same none is =
    ap₂ (λ x zs. without_records x zs ts) is none
    ∙ ap (λ rs. record (without_records c es ts) { emails = rs }) (without_none email_number (without_all email_number gone c.emails) ∙ ap (λ zs. without_all email_number zs c.emails) same)

pub threads-dropped : (c d : Content) (es ns ts : List ℕ) (gone : List ℕ) → gone ≡ ts → ns ≡ [] → d ≡ record c { threads = without_all thread_number gone c.threads }
    → without_records d es ns ≡ without_records c es ts
threads-dropped c d es ns ts gone same none is =
    ap₂ (λ x zs. without_records x es zs) is none
    ∙ ap (λ rs. record (without_records c es ts) { threads = rs }) (without_none thread_number (without_all thread_number gone c.threads) ∙ ap (λ zs. without_all thread_number zs c.threads) same)

-- nothing waits
pub nothing-waits : (c : Content) → without_records c [] [] ≡ c
nothing-waits c = ap₂ (λ xs ys. record c { emails = xs; threads = ys }) (without_none email_number c.emails) (without_none thread_number c.threads)

-- what holds of every success carries what follows from it
pub on_ok : {A E P Q : Type 0} (r : Result A E) → (P → Q) → OnOk r P → OnOk r Q
on_ok (Ok a) f p = f p
on_ok (Err e) f p = tt
