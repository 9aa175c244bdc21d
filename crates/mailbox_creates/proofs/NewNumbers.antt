-- The mailboxes whose numbers a set has given, and all others, as a new mailbox is put among them.
use Rattle.std.proofs.Common.{◌≡◌, ◌==◌, ℕ, ◌+◌, ◌<◌, ◌≤◌, Bool, true, false, ◌&&◌, ◌||◌, not, eqb, ltb, leb, List, [], ◌∷◌, refl, sym, ap, ap₂, ◌∙◌, subst, arith, ⊎_elim, ne_eqb, eq-eqb, le-leb, le-ltb, lt-ltb}
use Rattle.std.specs.List.{AllByRecursion, list_any}
use Rattle.std.proofs.lemmas.Bool.{cases_Bool, eqb-true, eqb-false, ltb-true, ltb-false, leb-true}
use Rattle.mail_records.specs.Contents.{mailbox_number}
use Rattle.mail_records.specs.Tables.{IsTable, put}
use Rattle.mail_records.specs.declared.records.Mailbox.{Mailbox}
use Rattle.mailbox_creates.specs.Views.{is_created, is_new, is_other}
use Rattle.set_parts.proofs.Texts.{any_same}

-- below the next number but one: below the next one, or that one
pub tested_more : (n next : ℕ) → (n ≡ next → ⊥) → ltb n (next + 1) ≡ ltb n next
tested_more n next apart =
    ⊎_elim
    (λ (lt : ltb n next ≡ true). let less = ltb-true n next lt in lt-ltb n (next + 1) (omega arith) ∙ sym lt)
    (λ (ge : ltb n next ≡ false). let most = ltb-false n next ge in le-ltb n (next + 1) (above apart most) ∙ sym ge)
    (cases_Bool (ltb n next))
  where
    above : (n ≡ next → ⊥) → next ≤ n → next + 1 ≤ n
    above ne le = omega arith

and_false : (b : Bool) → (b && false) ≡ false
and_false true = refl
and_false false = refl

or_swap : (a b c : Bool) → (a || (b || c)) ≡ (b || (a || c))
or_swap true true c = refl
or_swap true false c = refl
or_swap false b c = refl

not_leb : (a b : ℕ) → b < a → leb a b ≡ false
not_leb a b lt = ⊎_elim (λ (le : leb a b ≡ true). absurd (omega (arith, leb-true a b le, lt))) (λ (f : leb a b ≡ false). f) (cases_Bool (leb a b))

-- ---- a put

-- of records above a number, none has it
any_other : {R : Type 0} (number : R → ℕ) (n : ℕ) (test : R → Bool) (xs : List R) → AllByRecursion (λ x. n < number x) xs → list_any (λ x. not (number x == n) && test x) xs ≡ list_any test xs
any_other number n test [] all = refl
any_other number n test (x ∷ xs) all =
    let low : n < number x = all.0 in
    let other : eqb (number x) n ≡ false = ne_eqb (number x) n (λ e. omega (arith, e)) in
    rw other (ap (λ b. test x || b) (any_other number n test xs all.1))

all_above : {R : Type 0} (number : R → ℕ) (m n : ℕ) (xs : List R) → m < n → AllByRecursion (λ x. n < number x) xs → AllByRecursion (λ x. m < number x) xs
all_above number m n [] lt all = tt
all_above number m n (x ∷ xs) lt all = (let low : n < number x = all.0 in omega arith, all_above number m n xs lt all.1)

-- some record passes after a put: the one that was put, or one of another number
any_put : {R : Type 0} (number : R → ℕ) (test : R → Bool) (r : R) (xs : List R) → IsTable number xs → list_any test (put number r xs) ≡ (test r || list_any (λ x. not (number x == number r) && test x) xs)
any_put number test r [] table = refl
any_put number test r (x ∷ xs) table =
    ⊎_elim
    (λ (low : ltb (number r) (number x) ≡ true).
    let less : number r < number x = ltb-true (number r) (number x) low in
    let other : eqb (number x) (number r) ≡ false = ne_eqb (number x) (number r) (λ e. omega (arith, e)) in
    rw (low, other) (ap (λ b. test r || (test x || b)) (sym (any_other number (number r) test xs (all_above number (number r) (number x) xs less table.0)))))
    (λ (high : ltb (number r) (number x) ≡ false).
    ⊎_elim
    (λ (same : eqb (number r) (number x) ≡ true).
    let is : number r ≡ number x = eqb-true (number r) (number x) same in
    let flipped : eqb (number x) (number r) ≡ true = eq-eqb (number x) (number r) (sym is) in
    rw (high, same, flipped) (ap (λ b. test r || b) (sym (any_other number (number r) test xs (subst (λ k. AllByRecursion (λ y. k < number y) xs) (sym is) table.0)))))
    (λ (differs : eqb (number r) (number x) ≡ false).
    let ne = eqb-false (number r) (number x) differs in
    let flipped : eqb (number x) (number r) ≡ false = ne_eqb (number x) (number r) (λ e. ne (sym e)) in
    rw (high, differs, flipped)
    (ap (λ b. test x || b) (any_put number test r xs table.1)
    ∙ or_swap (test x) (test r) (list_any (λ y. not (number y == number r) && test y) xs)))
    (cases_Bool (eqb (number r) (number x))))
    (cases_Bool (ltb (number r) (number x)))

-- ---- the numbers that a set has given, and one more

-- the next number is given too
pub new_next : (first next n : ℕ) → first ≤ next → is_new first (next + 1) n ≡ (eqb n next || is_new first next n)
new_next first next n le =
    ⊎_elim
    (λ (same : eqb n next ≡ true).
    let is : n ≡ next = eqb-true n next same in
    let low : leb first n ≡ true = le-leb first n (omega (arith, is)) in
    let high : ltb n (next + 1) ≡ true = lt-ltb n (next + 1) (omega (arith, is)) in
    rw (same, low, high) refl)
    (λ (other : eqb n next ≡ false). rw (other, tested_more n next (eqb-false n next other)) refl)
    (cases_Bool (eqb n next))

-- the next number was not given before
next_not_new : (first next n : ℕ) → eqb n next ≡ true → is_new first next n ≡ false
next_not_new first next n same =
    let high : ltb n next ≡ false = le-ltb n next (omega (arith, eqb-true n next same)) in
    rw high (and_false (leb first n))

-- no number is given before the first create
pub none_new : (first next n : ℕ) → next ≡ first → is_new first next n ≡ false
none_new first next n e =
    ⊎_elim
    (λ (low : leb first n ≡ true).
    let at_most = leb-true first n low in
    let high : ltb n next ≡ false = le-ltb n next (omega (arith, e)) in
    rw (low, high) refl)
    (λ (below : leb first n ≡ false). rw below refl)
    (cases_Bool (leb first n))

created_bits : (e w b : Bool) → (e ≡ true → w ≡ false) → (not e && ((e || w) && b)) ≡ (w && b)
created_bits true w b h = rw (h refl) refl
created_bits false w b h = refl

other_bits : (e w b : Bool) → (not e && (not (e || w) && b)) ≡ (not w && (not e && b))
other_bits true true b = refl
other_bits true false b = refl
other_bits false w b = refl

twice_bits : (e w b : Bool) → (not w && (not e && b)) ≡ (not (e || w) && b)
twice_bits true true b = refl
twice_bits true false b = refl
twice_bits false true b = refl
twice_bits false false b = refl

new_at_next : (first next n : ℕ) → first ≤ next → n ≡ next → is_new first (next + 1) n ≡ true
new_at_next first next n le is = let same : eqb n next ≡ true = eq-eqb n next is in new_next first next n le ∙ ap (λ b. b || is_new first next n) same

-- ---- the mailboxes after a put

created_step : (first next n : ℕ) (b : Bool) → first ≤ next → (not (n == next) && (is_new first (next + 1) n && b)) ≡ (is_new first next n && b)
created_step first next n b le =
    ap (λ w. not (n == next) && (w && b)) (new_next first next n le)
    ∙ created_bits (eqb n next) (is_new first next n) b (next_not_new first next n)

-- those that the set created pass with the new one as they passed, or it passes
pub created_with_new : (first next : ℕ) (test : Mailbox → Bool) (m : Mailbox) (xs : List Mailbox) → first ≤ next → IsTable mailbox_number xs → m.number ≡ next
    → list_any (is_created first (next + 1) test) (put mailbox_number m xs) ≡ (test m || list_any (is_created first next test) xs)
created_with_new first next test m xs le table is =
    any_put mailbox_number (is_created first (next + 1) test) m xs table
    ∙ ap₂ (λ (a b : Bool). a || b) (ap (λ w. w && test m) (new_at_next first next m.number le is))
    (any_same _ _ (λ (y : Mailbox). ap (λ n. not (y.number == n) && is_created first (next + 1) test y) is ∙ created_step first next y.number (test y) le) xs)

other_step : (first next n : ℕ) (b : Bool) → first ≤ next → (not (n == next) && (not (is_new first (next + 1) n) && b)) ≡ (not (is_new first next n) && (not (n == next) && b))
other_step first next n b le =
    ap (λ w. not (n == next) && (not w && b)) (new_next first next n le) ∙ other_bits (eqb n next) (is_new first next n) b

-- the others are those that were others, without the one of the new number
pub other_with_new : (first next : ℕ) (test : Mailbox → Bool) (m : Mailbox) (xs : List Mailbox) → first ≤ next → IsTable mailbox_number xs → m.number ≡ next
    → list_any (is_other first (next + 1) test) (put mailbox_number m xs) ≡ list_any (is_other first next (λ y. not (y.number == next) && test y)) xs
other_with_new first next test m xs le table is =
    any_put mailbox_number (is_other first (next + 1) test) m xs table
    ∙ ap₂ (λ (a b : Bool). a || b) (ap (λ w. not w && test m) (new_at_next first next m.number le is))
    (any_same _ _ (λ (y : Mailbox). ap (λ n. not (y.number == n) && is_other first (next + 1) test y) is ∙ other_step first next y.number (test y) le) xs)

pub other_twice : (first next : ℕ) (test : Mailbox → Bool) (y : Mailbox) → first ≤ next → is_other first next (λ x. not (x.number == next) && test x) y ≡ is_other first (next + 1) test y
other_twice first next test y le =
    twice_bits (eqb y.number next) (is_new first next y.number) (test y) ∙ ap (λ w. not w && test y) (sym (new_next first next y.number le))

-- ---- all mailboxes are those that the set created and the others

part_bits : (w b x y : Bool) → (b || (x || y)) ≡ ((w && b || x) || (not w && b || y))
part_bits true true x y = refl
part_bits true false x y = refl
part_bits false b x y = or_swap b x y

pub any_parts : (first next : ℕ) (test : Mailbox → Bool) (xs : List Mailbox) → list_any test xs ≡ (list_any (is_created first next test) xs || list_any (is_other first next test) xs)
any_parts first next test [] = refl
any_parts first next test (x ∷ xs) =
    ap (λ b. test x || b) (any_parts first next test xs)
    ∙ part_bits (is_new first next x.number) (test x) (list_any (is_created first next test) xs) (list_any (is_other first next test) xs)

-- before the first create the set has created none
pub none_created : (first next : ℕ) (test : Mailbox → Bool) (xs : List Mailbox) → next ≡ first → list_any (is_created first next test) xs ≡ false
none_created first next test [] e = refl
none_created first next test (x ∷ xs) e = rw (none_new first next x.number e) (none_created first next test xs e)
