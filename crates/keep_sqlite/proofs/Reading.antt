-- What the tables tell, from the rows that the queries show.
use Rattle.std.proofs.Common.{◌≡◌, ℕ, zero, suc, ◌+◌, ◌<◌, pos, Bool, true, false, cond, ◌||◌, List, [], ◌∷◌, length, map, flat_map, find, slice_get, Some, option_and_then, IsPermutation, refl, sym, ap, subst, ◌∙◌, arith, true≢false}
use Rattle.std.specs.List.{AllByRecursion, list_any}
use Rattle.std.proofs.lemmas.Bool.{eqb-true, eq-eqb}
use Rattle.std.proofs.lemmas.List.Elements.{All-from_recursion, recursion_from_All}
use Rattle.std.proofs.lemmas.List.Sorted.{IsPermutation-sym, IsPermutation-map, All-permutation, length_permutation, list_any-IsPermutation}
use Rattle.sqlite_value.specs.declared.value.Value.TheVariants.{Null, Int}
use Rattle.sqlite_value.specs.Order.{Row, column}
use Rattle.sqlite_trees.specs.Tree.{Trees, rowid}
use Rattle.sqlite.proofs.Callers.{one_permutation}
use Rattle.sqlite.specs.Program.{overlay}
use Rattle.sqlite.specs.Query.{IsAnswer, output, Output}
use Rattle.sqlite.specs.Effect.{Database, Answers}
use Rattle.keep_sqlite.specs.Format.{is_number, bytes_in, bytes_at, bytes_from, names_format, kept_rows, told, shown, AreNumbered, ShowsFormat}
use Rattle.keep_sqlite.proofs.Places.{told_from}
use Rattle.keep_sqlite.proofs.Texts.{columns_of}

-- ---- what the two columns of a table show

outputs_are : (tree : ℕ) (rows : List Row) → map (λ (o : Output). o.1) (map (output (columns_of tree)) (flat_map (λ r. ([] ∷ r ∷ []) ∷ []) rows)) ≡ map shown rows
outputs_are tree [] = refl
outputs_are tree (r ∷ rows) = ap (λ more. shown r ∷ more) (outputs_are tree rows)

answer_shows : (tree : ℕ) (db : Trees) (found : List Row) (a : IsAnswer (columns_of tree) db [] found) → IsPermutation (map shown (db tree)) found
answer_shows tree db found a =
    let kept : a.kept ≡ map (output (columns_of tree)) (flat_map (λ r. ([] ∷ r ∷ []) ∷ []) (db tree)) = a.distinct ∙ ap (map (output (columns_of tree))) a.grouped in
    let same : IsPermutation (map (λ (o : Output). o.1) a.kept) (map (λ (o : Output). o.1) a.ordered) = IsPermutation-map (λ (o : Output). o.1) a.kept a.ordered a.same in
    subst (IsPermutation (map shown (db tree))) (sym a.shown) (subst (λ xs. IsPermutation xs (map (λ (o : Output). o.1) a.ordered)) (ap (map (λ (o : Output). o.1)) kept ∙ outputs_are tree (db tree)) same)

pub about_shows : (db : Database) (found : List Row) → Answers db (record { lets = []; body = columns_of 0 }) [] found → IsPermutation (map shown (db.trees 0)) found
about_shows db found h = answer_shows 0 (overlay db.trees []) found (h.answer Null)

pub commits_show : (db : Database) (found : List Row) → Answers db (record { lets = []; body = columns_of 1 }) [] found → IsPermutation (map shown (db.trees 1)) found
commits_show db found h = answer_shows 1 (overlay db.trees []) found (h.answer Null)

-- ---- what the rows of `commits` are

test_at : ℕ → Row → Bool
test_at place row = is_number place (column row 0)

-- a row with a number of the rows has the bytes at its place
abbrev HasBytes : ℕ → List (List ℕ) → Row → Type 0
HasBytes place all row = (n : ℕ) → is_number n (column row 0) ≡ true → (i : ℕ) × (n ≡ place + i) × (bytes_in (column row 1) ≡ slice_get all i)

later_bytes : (place : ℕ) (bytes : List ℕ) (all : List (List ℕ)) (row : Row) → HasBytes (suc place) all row → HasBytes place (bytes ∷ all) row
later_bytes place bytes all row has n is = let it = has n is in (suc it.0, omega (arith, it.1), it.2)

each_later : (place : ℕ) (bytes : List ℕ) (all : List (List ℕ)) (rows : List Row) → AllByRecursion (HasBytes (suc place) all) rows → AllByRecursion (HasBytes place (bytes ∷ all)) rows
each_later place bytes all [] h = tt
each_later place bytes all (row ∷ rows) h = (later_bytes place bytes all row h.0, each_later place bytes all rows h.1)

each_has : (place : ℕ) (rows : List Row) (all : List (List ℕ)) → AreNumbered place rows all → AllByRecursion (HasBytes place all) rows
each_has place [] [] h = tt
each_has place [] (bytes ∷ all) h = absurd h
each_has place (row ∷ rows) [] h = absurd h
each_has place (row ∷ rows) (bytes ∷ all) h = (
  λ n is. (0, same n (subst (λ v. is_number n v ≡ true) h.0 is), ap bytes_in h.1),
  each_later place bytes all rows (each_has (suc place) rows all h.2),
)
  where
    same : (n : ℕ) → is_number n (Int (pos place)) ≡ true → n ≡ place + 0
    same n is = omega (arith, eqb-true place n is)

count_numbered : (place : ℕ) (rows : List Row) (all : List (List ℕ)) → AreNumbered place rows all → length rows ≡ length all
count_numbered place [] [] h = refl
count_numbered place [] (bytes ∷ all) h = absurd h
count_numbered place (row ∷ rows) [] h = absurd h
count_numbered place (row ∷ rows) (bytes ∷ all) h = omega (arith, count_numbered (suc place) rows all h.2)

each_is_there : (place : ℕ) (rows : List Row) (all : List (List ℕ)) (i : ℕ) → AreNumbered place rows all → i < length all → list_any (λ row. is_number (place + i) (column row 0)) rows ≡ true
each_is_there place [] [] i h low = absurd (omega (arith, low))
each_is_there place [] (bytes ∷ all) i h low = absurd h
each_is_there place (row ∷ rows) [] i h low = absurd h
each_is_there place (row ∷ rows) (bytes ∷ all) zero h low =
    let here : is_number (place + 0) (column row 0) ≡ true = ap (is_number (place + 0)) h.0 ∙ eq-eqb place (place + 0) (omega arith) in rw here refl
each_is_there place (row ∷ rows) (bytes ∷ all) (suc i) h low =
    let later = each_is_there (suc place) rows all i h.2 (omega (arith, low)) in
    let there : list_any (λ row. is_number (place + suc i) (column row 0)) rows ≡ true = subst (λ n. list_any (λ row. is_number n (column row 0)) rows ≡ true) (omega arith) later in
    right (is_number (place + suc i) (column row 0)) _ there
  where
    right : (b c : Bool) → c ≡ true → (b || c) ≡ true
    right true c h = refl
    right false c h = h

-- a row that some test finds among what is shown is found among the rows
find_shown : (test : Row → Bool) (Q : Row → Type 0) (rows : List Row) → list_any test (map shown rows) ≡ true → AllByRecursion Q (map shown rows)
    → (r : Row) × (find (λ row. test (shown row)) rows ≡ Some r) × (test (shown r) ≡ true) × Q (shown r)
find_shown test Q [] any all = absurd (true≢false (sym any))
find_shown test Q (r ∷ rows) any all = go (test (shown r)) refl any (find_shown test Q rows)
  where
    go : (b : Bool) → test (shown r) ≡ b → (b || list_any test (map shown rows)) ≡ true
        → (list_any test (map shown rows) ≡ true → AllByRecursion Q (map shown rows) → (x : Row) × (find (λ row. test (shown row)) rows ≡ Some x) × (test (shown x) ≡ true) × Q (shown x))
        → (x : Row) × (cond b (Some r) (find (λ row. test (shown row)) rows) ≡ Some x) × (test (shown x) ≡ true) × Q (shown x)
    go true is any later = (r, refl, is, all.0)
    go false is any later = later any all.1

length_shown : (rows : List Row) → length (map shown rows) ≡ length rows
length_shown [] = refl
length_shown (r ∷ rows) = omega (arith, length_shown rows)

bytes_from_all : (rows : List Row) (all : List (List ℕ)) (place : ℕ) → ((i : ℕ) → i < length all → bytes_at rows (place + i) ≡ slice_get all i) → bytes_from rows (length all) place ≡ Some all
bytes_from_all rows [] place at = refl
bytes_from_all rows (bytes ∷ all) place at =
    let first : bytes_at rows place ≡ Some bytes = subst (λ n. bytes_at rows n ≡ Some bytes) (omega arith) (at 0 (omega arith)) in
    let later = bytes_from_all rows all (suc place) (λ i low. subst (λ n. bytes_at rows n ≡ slice_get all i) (omega arith) (at (suc i) (omega (arith, low)))) in
    rw (first, later) refl

pub rows_told : (rows found : List Row) (all : List (List ℕ)) → IsPermutation (map shown rows) found → AreNumbered 1 found all → bytes_from rows (length rows) 1 ≡ Some all
rows_told rows found all same numbered =
    let there = IsPermutation-sym (map shown rows) found same in
    let each : AllByRecursion (HasBytes 1 all) (map shown rows) = recursion_from_All (HasBytes 1 all) (map shown rows) (All-permutation (HasBytes 1 all) found (map shown rows) there (All-from_recursion (HasBytes 1 all) found (each_has 1 found all numbered))) in
    let count : length all ≡ length rows = omega (arith, count_numbered 1 found all numbered, length_permutation (map shown rows) found same, length_shown rows) in
    subst (λ n. bytes_from rows n 1 ≡ Some all) count (bytes_from_all rows all 1 (λ i low.
    let test : Row → Bool = λ row. is_number (1 + i) (column row 0) in
    let any : list_any test (map shown rows) ≡ true = list_any-IsPermutation test (map shown rows) found same ∙ each_is_there 1 found all i numbered low in
    let it = find_shown test (HasBytes 1 all) rows any each in
    let place = it.3 (1 + i) it.2 in
    let same_place : place.0 ≡ i = omega (arith, place.1) in
    ap (option_and_then (λ row. bytes_in (column row 2))) it.1 ∙ place.2 ∙ ap (slice_get all) same_place))

-- ---- what the row of `about` is

alone : (rows : List Row) (row : Row) → map shown rows ≡ row ∷ [] → (r : Row) × (rows ≡ r ∷ []) × (shown r ≡ row)
alone [] row h = absurd cc
alone (r ∷ []) row h = (r, refl, cc)
alone (r ∷ x ∷ rows) row h = absurd (omega (arith, ap length h))

pub format_named : (rows found : List Row) → IsPermutation (map shown rows) found → ShowsFormat found → names_format rows ≡ true
format_named rows found same h =
    let whole : map shown rows ≡ h.row ∷ [] = one_permutation h.row (map shown rows) (IsPermutation-sym (map shown rows) (h.row ∷ []) (subst (IsPermutation (map shown rows)) h.is same)) in
    let it = alone rows h.row whole in
    let item : rowid it.0 ≡ Int (pos 1) = ap (λ r. column r 0) it.2 ∙ h.item in
    let value : column it.0 2 ≡ Int (pos 1) = ap (λ r. column r 1) it.2 ∙ h.value in
    ap names_format it.1 ∙ rw (item, value) refl

-- the tables of which these rows are shown tell these bytes
pub found_told : (db : Trees) (about commits : List Row) (all : List (List ℕ)) → IsPermutation (map shown (db 0)) about → IsPermutation (map shown (db 1)) commits → ShowsFormat about
    → AreNumbered 1 commits all → told db ≡ Some (kept_rows all)
found_told db about commits all first second format numbered =
    told_from db all (format_named (db 0) about first format) (rows_told (db 1) commits all second numbered)
