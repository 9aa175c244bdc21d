-- The mailboxes of a content that a set has changed, found through those that it changed and those
-- that were there.
use Rattle.std.proofs.Common.{◌≡◌, ℕ, ◌<◌, Bool, true, false, ◌&&◌, ◌||◌, cond, eqb, List, [], ◌∷◌, ◌++◌, not, Option, Some, None, is_some, refl, sym, ap, ◌∙◌, subst, arith, ⊎_elim, eq-eqb, ne_eqb}
use Rattle.std.specs.List.{AllByRecursion, list_any}
use Rattle.std.proofs.lemmas.Bool.{cases_Bool, eqb-true, true≢false, or_cases}
use Rattle.std.proofs.lemmas.Option.{none-some, same_Some}
use Rattle.mail_records.specs.Contents.{mailbox_number}
use Rattle.mail_records.specs.Tables.{IsTable, lookup, put, without}
use Rattle.mail_records.specs.declared.records.Mailbox.{Mailbox}
use Rattle.mail_records.proofs.Tables.{lookup-put_other, lookup-put_same, lookup-without_other, lookup-without_same}
use Rattle.mail_counts.specs.Touched.{is_one_of}
use Rattle.mailbox_updates.specs.PresentMailboxes.{is_untouched, present_at}

-- ---- booleans

pub either : (a b : Bool) → (a ≡ true → b ≡ true) → (b ≡ true → a ≡ true) → a ≡ b
either true b f g = sym (f refl)
either false true f g = absurd (true≢false (sym (g refl)))
either false false f g = refl

pub and_left : (a b : Bool) → (a && b) ≡ true → a ≡ true
and_left true b e = refl
and_left false b e = e

pub and_right : (a b : Bool) → (a && b) ≡ true → b ≡ true
and_right true b e = e
and_right false b e = absurd (true≢false (sym e))

pub both : (a b : Bool) → a ≡ true → b ≡ true → (a && b) ≡ true
both a b e f = rw (e, f) refl

pub or_left : (a b : Bool) → a ≡ true → (a || b) ≡ true
or_left a b e = rw e refl

pub or_right : (a b : Bool) → b ≡ true → (a || b) ≡ true
or_right true b e = refl
or_right false b e = e

pub not_true : (a : Bool) → not a ≡ true → a ≡ false
not_true true e = absurd (true≢false (sym e))
not_true false e = refl

-- ---- some record of a table passes

pub row_passes : {R : Type 0} (number : R → ℕ) (test : R → Bool) (n : ℕ) (rows : List R) (m : R) → lookup number n rows ≡ Some m → test m ≡ true → list_any test rows ≡ true
row_passes number test n [] m e t = absurd (none-some m e)
row_passes number test n (r ∷ rs) m e t =
    ⊎_elim
    (λ (same : eqb (number r) n ≡ true).
    let is : Some r ≡ Some m = subst (λ b. cond b (Some r) (lookup number n rs) ≡ Some m) same e in
    or_left (test r) (list_any test rs) (ap test (same_Some r m is) ∙ t))
    (λ (other : eqb (number r) n ≡ false).
    or_right (test r) (list_any test rs) (row_passes number test n rs m (subst (λ b. cond b (Some r) (lookup number n rs) ≡ Some m) other e) t))
    (cases_Bool (eqb (number r) n))

pub above : {R : Type 0} (number : R → ℕ) (m n : ℕ) (rows : List R) (x : R) → AllByRecursion (λ r. m < number r) rows → lookup number n rows ≡ Some x → m < number x
above number m n [] x all e = absurd (none-some x e)
above number m n (r ∷ rs) x all e =
    ⊎_elim
    (λ (same : eqb (number r) n ≡ true).
    let is : Some r ≡ Some x = subst (λ b. cond b (Some r) (lookup number n rs) ≡ Some x) same e in
    subst (λ z. m < number z) (same_Some r x is) all.0)
    (λ (other : eqb (number r) n ≡ false). above number m n rs x all.1 (subst (λ b. cond b (Some r) (lookup number n rs) ≡ Some x) other e))
    (cases_Bool (eqb (number r) n))

-- some record passes: there is one, which is found by its number
pub some_row : {R : Type 0} (number : R → ℕ) (test : R → Bool) (rows : List R) → IsTable number rows → list_any test rows ≡ true → (m : R) × (test m ≡ true) × (lookup number (number m) rows ≡ Some m)
some_row number test [] table e = absurd (true≢false (sym e))
some_row number test (r ∷ rs) table e =
    ⊎_elim
    (λ (t : test r ≡ true). (r, t, ap (λ b. cond b (Some r) (lookup number (number r) rs)) (eq-eqb (number r) (number r) refl)))
    (λ (t : list_any test rs ≡ true).
    let rest = some_row number test rs table.1 t in
    let m = rest.0 in
    let less : number r < number m = above number (number r) (number m) rs m table.0 rest.2 in
    let other : eqb (number r) (number m) ≡ false = ne_eqb (number r) (number m) (λ (same : number r ≡ number m). omega (arith, same, less)) in
    (m, rest.1, ap (λ b. cond b (Some r) (lookup number (number m) rs)) other ∙ rest.2))
    (or_cases (test r) (list_any test rs) e)

-- ---- the mailboxes at present

or_false : (b : Bool) → (b || false) ≡ b
or_false true = refl
or_false false = refl

or_assoc : (a b c : Bool) → (a || (b || c)) ≡ ((a || b) || c)
or_assoc true b c = refl
or_assoc false b c = refl

pub one_pushed : (xs : List ℕ) (k n : ℕ) → is_one_of (xs ++ k ∷ []) n ≡ (is_one_of xs n || eqb k n)
one_pushed [] k n = or_false (eqb k n)
one_pushed (x ∷ xs) k n = ap (λ b. eqb x n || b) (one_pushed xs k n) ∙ or_assoc (eqb x n) (is_one_of xs n) (eqb k n)

module _ (rows changed base : List Mailbox) (gone : List ℕ) (found : (n : ℕ) → lookup mailbox_number n rows ≡ present_at changed gone base n) where
  by_changed : (n : ℕ) (m : Mailbox) → lookup mailbox_number n changed ≡ Some m → lookup mailbox_number n rows ≡ Some m
  by_changed n m at =
      let some : is_some (lookup mailbox_number n changed) ≡ true = ap is_some at in
      found n ∙ (ap (λ b. cond b (lookup mailbox_number n changed) (cond (is_one_of gone n) None (lookup mailbox_number n base))) some ∙ at)

  by_base : (n : ℕ) → is_untouched changed gone n ≡ true → lookup mailbox_number n rows ≡ lookup mailbox_number n base
  by_base n left =
      let new : is_some (lookup mailbox_number n changed) ≡ false = not_true (is_some (lookup mailbox_number n changed)) (and_left (not (is_some (lookup mailbox_number n changed))) (not (is_one_of gone n)) left) in
      let out : is_one_of gone n ≡ false = not_true (is_one_of gone n) (and_right (not (is_some (lookup mailbox_number n changed))) (not (is_one_of gone n)) left) in
      found n
      ∙ (ap (λ b. cond b (lookup mailbox_number n changed) (cond (is_one_of gone n) None (lookup mailbox_number n base))) new
      ∙ ap (λ b. cond b None (lookup mailbox_number n base)) out)

  -- a mailbox that is there was changed, or was there and is left
  from_there : (test : Mailbox → Bool) (m : Mailbox) → test m ≡ true → lookup mailbox_number m.number rows ≡ Some m
      → (list_any test changed || list_any (λ (x : Mailbox). is_untouched changed gone x.number && test x) base) ≡ true
  from_there test m t at =
      let n = m.number in
      let old = λ (x : Mailbox). is_untouched changed gone x.number && test x in
      ⊎_elim
      (λ (new : is_some (lookup mailbox_number n changed) ≡ true).
      let is : lookup mailbox_number n changed ≡ Some m = sym (ap (λ b. cond b (lookup mailbox_number n changed) (cond (is_one_of gone n) None (lookup mailbox_number n base))) new) ∙ (sym (found n) ∙ at) in
      or_left (list_any test changed) (list_any old base) (row_passes mailbox_number test n changed m is t))
      (λ (kept : is_some (lookup mailbox_number n changed) ≡ false).
      let rest : cond (is_one_of gone n) None (lookup mailbox_number n base) ≡ Some m = sym (ap (λ b. cond b (lookup mailbox_number n changed) (cond (is_one_of gone n) None (lookup mailbox_number n base))) kept) ∙ (sym (found n) ∙ at) in
      ⊎_elim
      (λ (out : is_one_of gone n ≡ true). absurd (none-some m (sym (ap (λ b. cond b None (lookup mailbox_number n base)) out) ∙ rest)))
      (λ (left : is_one_of gone n ≡ false).
      let is : lookup mailbox_number n base ≡ Some m = sym (ap (λ b. cond b None (lookup mailbox_number n base)) left) ∙ rest in
      let free : is_untouched changed gone n ≡ true = rw (kept, left) refl in
      or_right (list_any test changed) (list_any old base) (row_passes mailbox_number old n base m is (both (is_untouched changed gone n) (test m) free t)))
      (cases_Bool (is_one_of gone n)))
      (cases_Bool (is_some (lookup mailbox_number n changed)))

  -- some mailbox passes at present: one that was changed, or one of those that were not
  pub any_present : (test : Mailbox → Bool) → IsTable mailbox_number rows → IsTable mailbox_number changed → IsTable mailbox_number base
      → list_any test rows ≡ (list_any test changed || list_any (λ (x : Mailbox). is_untouched changed gone x.number && test x) base)
  any_present test table new was =
      let old = λ (x : Mailbox). is_untouched changed gone x.number && test x in
      either (list_any test rows) (list_any test changed || list_any old base)
      (λ e. let one = some_row mailbox_number test rows table e in from_there test one.0 one.1 one.2)
      (λ e.
      ⊎_elim
      (λ (h : list_any test changed ≡ true).
      let one = some_row mailbox_number test changed new h in
      row_passes mailbox_number test one.0.number rows one.0 (by_changed one.0.number one.0 one.2) one.1)
      (λ (h : list_any old base ≡ true).
      let one = some_row mailbox_number old base was h in
      let m = one.0 in
      let free = and_left (is_untouched changed gone m.number) (test m) one.1 in
      row_passes mailbox_number test m.number rows m (by_base m.number free ∙ one.2) (and_right (is_untouched changed gone m.number) (test m) one.1))
      (or_cases (list_any test changed) (list_any old base) e))

  -- ---- one mailbox more, and one less

  pub present_put : (m : Mailbox) (n : ℕ) → lookup mailbox_number n (put mailbox_number m rows) ≡ present_at (put mailbox_number m changed) gone base n
  present_put m n =
      ⊎_elim
      (λ (same : eqb m.number n ≡ true).
      let is = eqb-true m.number n same in
      let new = lookup-put_same mailbox_number m n is changed in
      let some : is_some (lookup mailbox_number n (put mailbox_number m changed)) ≡ true = ap is_some new in
      lookup-put_same mailbox_number m n is rows ∙ sym (ap (λ b. cond b (lookup mailbox_number n (put mailbox_number m changed)) (cond (is_one_of gone n) None (lookup mailbox_number n base))) some ∙ new))
      (λ (other : eqb m.number n ≡ false).
      lookup-put_other mailbox_number m n other rows
      ∙ (found n ∙ sym (ap (λ (o : Option Mailbox). cond (is_some o) o (cond (is_one_of gone n) None (lookup mailbox_number n base))) (lookup-put_other mailbox_number m n other changed))))
      (cases_Bool (eqb m.number n))

  pub present_without : (k n : ℕ) → lookup mailbox_number n (without mailbox_number k rows) ≡ present_at (without mailbox_number k changed) (gone ++ k ∷ []) base n
  present_without k n =
      ⊎_elim
      (λ (same : eqb k n ≡ true).
      let is : k ≡ n = eqb-true k n same in
      let none : lookup mailbox_number n (without mailbox_number k changed) ≡ None = ap (λ (x : ℕ). lookup mailbox_number x (without mailbox_number k changed)) (sym is) ∙ lookup-without_same mailbox_number k changed in
      ap (λ (x : ℕ). lookup mailbox_number x (without mailbox_number k rows)) (sym is)
      ∙ (lookup-without_same mailbox_number k rows
      ∙ sym (ap (λ (o : Option Mailbox). cond (is_some o) o (cond (is_one_of (gone ++ k ∷ []) n) None (lookup mailbox_number n base))) none
      ∙ ap (λ b. cond b None (lookup mailbox_number n base)) (one_pushed gone k n ∙ or_right (is_one_of gone n) (eqb k n) same))))
      (λ (other : eqb k n ≡ false).
      lookup-without_other mailbox_number k n other rows
      ∙ (found n
      ∙ sym (ap (λ (o : Option Mailbox). cond (is_some o) o (cond (is_one_of (gone ++ k ∷ []) n) None (lookup mailbox_number n base))) (lookup-without_other mailbox_number k n other changed)
      ∙ ap (λ b. cond (is_some (lookup mailbox_number n changed)) (lookup mailbox_number n changed) (cond b None (lookup mailbox_number n base))) (one_pushed gone k n ∙ (ap (λ b. is_one_of gone n || b) other ∙ or_false (is_one_of gone n))))))
      (cases_Bool (eqb k n))

-- ---- how many there are

pub lookup_below : (n : ℕ) (rows : List Mailbox) → AllByRecursion (λ (y : Mailbox). n < y.number) rows → lookup mailbox_number n rows ≡ None
lookup_below n [] all = refl
lookup_below n (x ∷ rows) all =
    let less : n < x.number = all.0 in
    let other : eqb x.number n ≡ false = ne_eqb x.number n (λ (e : x.number ≡ n). omega (arith, e, less)) in
    rw other (lookup_below n rows all.1)
