-- What the tables tell once a row was put after the others.
use Rattle.std.proofs.Common.{◌≡◌, ℕ, zero, suc, ◌+◌, ◌<◌, pos, negsuc, Bool, true, false, cond, List, [], ◌∷◌, ◌++◌, length, find, Option, Some, None, option_map, option_and_then, Ordering, Less, Equal, Greater, refl, sym, ap, subst, ◌∙◌, arith, true≢false}
use Rattle.std.specs.Ordering.{is_eq, match_ordering}
use Rattle.std.proofs.lemmas.Bool.{or_parts, both_ways, false_from_ne_true, eqb-true, eq-eqb, ne_eqb}
use Rattle.std.proofs.lemmas.Cmp.{tied_itself}
use Rattle.sqlite_value.specs.declared.value.Value.{Value}
use Rattle.sqlite_value.specs.declared.value.Value.TheVariants.{Null, Int, Real, Text, Blob}
use Rattle.sqlite_value.specs.Order.{Row, column, value_cmp}
use Rattle.sqlite_value.proofs.OrderLemmas.{value_cmp_total}
use Rattle.sqlite_trees.specs.Tree.{Trees, rowid, put_row}
use Rattle.sqlite_rules.specs.Edit.{is_taken}
use Rattle.keep_port.specs.Keeping.{with_row}
use Rattle.keep_port.specs.declared.kept.Kept.{Kept}
use Rattle.keep_sqlite.specs.Format.{is_number, bytes_in, bytes_at, bytes_from, names_format, kept_rows, told}

abbrev Put : Ordering → Row → Row → List Row → List Row
Put o new r rows = match_ordering o (r ∷ put_row new rows) (new ∷ rows) (new ∷ r ∷ rows)

pub find_put_other : (test : Row → Bool) (new : Row) (rows : List Row) → test new ≡ false → is_taken rows new ≡ false → find test (put_row new rows) ≡ find test rows
find_put_other test new [] other free = rw other
find_put_other test new (r ∷ rows) other free = go (value_cmp (rowid r) (rowid new)) (or_parts _ _ free).0 (find_put_other test new rows other (or_parts _ _ free).1)
  where
    go : (o : Ordering) → is_eq o ≡ false → find test (put_row new rows) ≡ find test rows → find test (Put o new r rows) ≡ find test (r ∷ rows)
    go Less e later = ap (λ f. cond (test r) (Some r) f) later
    go Equal e later = absurd (true≢false e)
    go Greater e later = rw other

pub find_put_new : (test : Row → Bool) (new : Row) (rows : List Row) → test new ≡ true → ((r : Row) → test r ≡ true → is_eq (value_cmp (rowid r) (rowid new)) ≡ true)
    → is_taken rows new ≡ false → find test (put_row new rows) ≡ Some new
find_put_new test new [] is same free = rw is
find_put_new test new (r ∷ rows) is same free =
    go (value_cmp (rowid r) (rowid new)) parts.0 (false_from_ne_true (test r) (λ t. both_ways _ parts.0 (same r t))) (find_put_new test new rows is same parts.1)
  where
    parts : (is_eq (value_cmp (rowid r) (rowid new)) ≡ false) × (is_taken rows new ≡ false)
    parts = or_parts _ _ free

    go : (o : Ordering) → is_eq o ≡ false → test r ≡ false → find test (put_row new rows) ≡ Some new → find test (Put o new r rows) ≡ Some new
    go Less e other later = rw (other, later)
    go Equal e other later = absurd (true≢false e)
    go Greater e other later = rw is

pub length_put : (new : Row) (rows : List Row) → is_taken rows new ≡ false → length (put_row new rows) ≡ suc (length rows)
length_put new [] free = refl
length_put new (r ∷ rows) free = go (value_cmp (rowid r) (rowid new)) (or_parts _ _ free).0 (length_put new rows (or_parts _ _ free).1)
  where
    go : (o : Ordering) → is_eq o ≡ false → length (put_row new rows) ≡ suc (length rows) → length (Put o new r rows) ≡ suc (length (r ∷ rows))
    go Less e later = omega (arith, later)
    go Equal e later = absurd (true≢false e)
    go Greater e later = refl

pub number_is : (n : ℕ) (v : Value) → is_number n v ≡ true → v ≡ Int (pos n)
number_is n Null h = absurd (true≢false (sym h))
number_is n (Int (pos m)) h = ap (λ k. Int (pos k)) (eqb-true m n h)
number_is n (Int (negsuc m)) h = absurd (true≢false (sym h))
number_is n (Real x) h = absurd (true≢false (sym h))
number_is n (Text t) h = absurd (true≢false (sym h))
number_is n (Blob b) h = absurd (true≢false (sym h))

-- the row of a commit with this number, as it is stored
abbrev pub stored : ℕ → List ℕ → Row
stored n bytes = Int (pos n) ∷ Null ∷ Blob bytes ∷ []

module _ (n : ℕ) (bytes : List ℕ) (rows : List Row) (free : is_taken rows (stored n bytes) ≡ false) where
  other_place : (i : ℕ) → (n ≡ i → ⊥) → bytes_at (put_row (stored n bytes) rows) i ≡ bytes_at rows i
  other_place i apart = ap (option_and_then (λ row. bytes_in (column row 2))) (find_put_other (λ row. is_number i (rowid row)) (stored n bytes) rows (ne_eqb n i apart) free)

  new_place : bytes_at (put_row (stored n bytes) rows) n ≡ Some bytes
  new_place = ap (option_and_then (λ row. bytes_in (column row 2))) (find_put_new (λ row. is_number n (rowid row)) (stored n bytes) rows (eq-eqb n n refl)
      (λ r is. ap (λ v. is_eq (value_cmp v (Int (pos n)))) (number_is n (rowid r) is) ∙ ap is_eq (tied_itself value_cmp_total (Int (pos n)))) free)

pub split : {X : Type 0} (first : Option X) (rest : Option (List X)) (all : List X) → option_and_then (λ x. option_map (λ more. x ∷ more) rest) first ≡ Some all
    → (x : X) × (more : List X) × (first ≡ Some x) × (rest ≡ Some more) × (all ≡ x ∷ more)
split None rest all h = absurd cc
split (Some x) None all h = absurd cc
split (Some x) (Some more) all h = (x, more, refl, refl, cc)

pub bytes_from_push : (old new : List Row) (count place : ℕ) (bytes : List ℕ) (all : List (List ℕ)) → ((i : ℕ) → i < place + count → bytes_at new i ≡ bytes_at old i)
    → bytes_at new (place + count) ≡ Some bytes → bytes_from old count place ≡ Some all → bytes_from new (suc count) place ≡ Some (all ++ bytes ∷ [])
bytes_from_push old new zero place bytes all same last h =
    let first : bytes_at new place ≡ Some bytes = subst (λ i. bytes_at new i ≡ Some bytes) (omega arith) last in
    let none : all ≡ [] = cc in rw (first, none)
bytes_from_push old new (suc count) place bytes all same last h =
    let parts = split (bytes_at old place) (bytes_from old count (suc place)) all h in
    let first : bytes_at new place ≡ Some parts.0 = same place (omega arith) ∙ parts.2 in
    let later = bytes_from_push old new count (suc place) bytes parts.1 (λ i low. same i (omega (arith, low))) (subst (λ i. bytes_at new i ≡ Some bytes) (omega arith) last) parts.3 in
    rw (first, later) (ap (λ xs. Some (xs ++ bytes ∷ [])) (sym parts.4))

pub count_is : (rows : List Row) (count place : ℕ) (all : List (List ℕ)) → bytes_from rows count place ≡ Some all → length all ≡ count
count_is rows zero place all h = let none : all ≡ [] = cc in ap length none
count_is rows (suc count) place all h =
    let parts = split (bytes_at rows place) (bytes_from rows count (suc place)) all h in
    omega (arith, ap length parts.4, count_is rows count (suc place) parts.1 parts.3)

-- what the tables tell, in parts
pub told_parts : (db : Trees) (k : Kept) → told db ≡ Some k → (names_format (db 0) ≡ true) × (bytes_from (db 1) (length (db 1)) 1 ≡ Some k.rows) × (k ≡ kept_rows k.rows)
told_parts db k h = go (names_format (db 0)) (bytes_from (db 1) (length (db 1)) 1) h
  where
    go : (named : Bool) (all : Option (List (List ℕ))) → cond named (option_map kept_rows all) None ≡ Some k → (named ≡ true) × (all ≡ Some k.rows) × (k ≡ kept_rows k.rows)
    go false all h = absurd cc
    go true None h = absurd cc
    go true (Some all) h = let is : kept_rows all ≡ k = cc in (refl, ap (λ (x : Kept). Some x.rows) is, sym is ∙ ap (λ (x : Kept). kept_rows x.rows) is)

pub told_from : (db : Trees) (rows : List (List ℕ)) → names_format (db 0) ≡ true → bytes_from (db 1) (length (db 1)) 1 ≡ Some rows → told db ≡ Some (kept_rows rows)
told_from db rows named all = rw (named, all)

pub told_push : (db next : Trees) (k : Kept) (n : ℕ) (bytes : List ℕ) → told db ≡ Some k → n ≡ suc (length k.rows) → next 0 ≡ db 0 → next 1 ≡ put_row (stored n bytes) (db 1)
    → is_taken (db 1) (stored n bytes) ≡ false → told next ≡ Some (with_row bytes k)
told_push db next k n bytes tells number same put free =
    let parts = told_parts db k tells in
    let count : length (db 1) ≡ length k.rows = sym (count_is (db 1) (length (db 1)) 1 k.rows parts.1) in
    let place : 1 + length (db 1) ≡ n = omega (arith, number, count) in
    let grown = bytes_from_push (db 1) (next 1) (length (db 1)) 1 bytes k.rows
    (λ i low. ap (λ rows. bytes_at rows i) put ∙ other_place n bytes (db 1) free i (λ is. omega (arith, is, place, low)))
    (subst (λ i. bytes_at (next 1) i ≡ Some bytes) (sym place) (ap (λ rows. bytes_at rows n) put ∙ new_place n bytes (db 1) free)) parts.1 in
    let size : length (next 1) ≡ suc (length (db 1)) = ap length put ∙ length_put (stored n bytes) (db 1) free in
    told_from next (k.rows ++ bytes ∷ []) (ap names_format same ∙ parts.0) (subst (λ c. bytes_from (next 1) c 1 ≡ Some (k.rows ++ bytes ∷ [])) (sym size) grown)
    ∙ ap (λ (x : Kept). Some (with_row bytes x)) (sym parts.2)
