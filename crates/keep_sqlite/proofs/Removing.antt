-- What the deletion of all rows makes of the tables.
use Rattle.std.proofs.Common.{◌≡◌, ◌⊎◌, inl, inr, ℕ, zero, suc, ◌+◌, ◌≤◌, ◌<◌, ℤ, pos, Bool, true, false, not, cond, ◌||◌, List, [], ◌∷◌, length, map, flat_map, filter, find, option_and_then, Some, None, Ok, IsPermutation, refl, sym, ap, subst, ◌∙◌, arith, true≢false}
use Rattle.std.specs.List.{AllByRecursion, list_any}
use Rattle.std.specs.Ordering.{is_eq}
use Rattle.std.proofs.lemmas.Bool.{and_parts, both_ways, eq-eqb, eqb-true, not-true}
use Rattle.std.proofs.lemmas.Cmp.{tied_itself}
use Rattle.std.proofs.lemmas.List.Elements.{All-from_recursion, recursion_from_All}
use Rattle.std.proofs.lemmas.List.Sorted.{IsPermutation-sym, IsPermutation-map, All-permutation}
use Rattle.sqlite_value.specs.declared.value.Value.{Value}
use Rattle.sqlite_value.specs.declared.value.Value.TheVariants.{Null, Int}
use Rattle.sqlite_value.specs.Order.{Row, column, value_cmp}
use Rattle.sqlite_value.proofs.OrderLemmas.{value_cmp_total}
use Rattle.sqlite_trees.specs.Tree.{Trees, rowid, has_rowid, without_rowid}
use Rattle.sqlite_rules.specs.Lists.{Has}
use Rattle.sqlite_rules.specs.Edit.{Edit, id_in, edit_of, without_all}
use Rattle.sqlite_rules.specs.Calls.{ids_of}
use Rattle.sqlite_rules.proofs.ListLemmas.{has_filtered}
use Rattle.sqlite_rules.proofs.TableLemmas.{without_all_has}
use Rattle.sqlite.specs.Rowids.TheVariants.{Given}
use Rattle.sqlite.specs.Command.TheVariants.{Delete}
use Rattle.sqlite.specs.Program.{overlay}
use Rattle.sqlite.specs.Query.{IsAnswer, output, Output}
use Rattle.sqlite.specs.Does.{Tally, Does}
use Rattle.sqlite.specs.Rows.{Written}
use Rattle.sqlite.specs.Listing.{understood}
use Rattle.sqlite.specs.Effect.{Database}
use Rattle.sqlite.specs.State.{State, mode_of, ExecutesInside}
use Rattle.sqlite.proofs.Callers.{statement_of, runs_as, one_step}
use Rattle.keep_port.specs.declared.kept.Kept.{Kept}
use Rattle.keep_sqlite.specs.Format.{our_schema, commits_table, is_number, bytes_in, bytes_at, bytes_from, names_format, kept_rows, told}
use Rattle.keep_sqlite.specs.Telling.{Shows, Changes}
use Rattle.keep_sqlite.proofs.Places.{number_is, split, told_parts, told_from}
use Rattle.keep_sqlite.proofs.Inserting.{went, same_value}
use Rattle.keep_sqlite.proofs.Texts.{rowids_of, delete_text, delete_is, delete_plain}

-- ---- which rows the statement finds

abbrev key_of : Row → Row
key_of row = rowid row ∷ []

outputs_are : (tree : ℕ) (rows : List Row) → map (λ (o : Output). o.1) (map (output (rowids_of tree)) (flat_map (λ r. ([] ∷ r ∷ []) ∷ []) rows)) ≡ map key_of rows
outputs_are tree [] = refl
outputs_are tree (r ∷ rows) = ap (λ more. key_of r ∷ more) (outputs_are tree rows)

answer_finds : (tree : ℕ) (db : Trees) (found : List Row) (a : IsAnswer (rowids_of tree) db [] found) → IsPermutation (map key_of (db tree)) found
answer_finds tree db found a =
    let kept : a.kept ≡ map (output (rowids_of tree)) (flat_map (λ r. ([] ∷ r ∷ []) ∷ []) (db tree)) = a.distinct ∙ ap (map (output (rowids_of tree))) a.grouped in
    let same : IsPermutation (map (λ (o : Output). o.1) a.kept) (map (λ (o : Output). o.1) a.ordered) = IsPermutation-map (λ (o : Output). o.1) a.kept a.ordered a.same in
    subst (IsPermutation (map key_of (db tree))) (sym a.shown) (subst (λ xs. IsPermutation xs (map (λ (o : Output). o.1) a.ordered)) (ap (map (λ (o : Output). o.1)) kept ∙ outputs_are tree (db tree)) same)

each_id : (rows : List Row) (ids : List ℤ) → ((row : Row) → Has rows row → Has ids (id_in (rowid row))) → AllByRecursion (λ row. Has ids (id_in (rowid row))) rows
each_id [] ids h = tt
each_id (r ∷ rows) ids h = (h r (inl refl), each_id rows ids (λ row there. h row (inr there)))

id_of : (rows : List Row) (row : Row) → Has rows row → Has (ids_of rows) (id_in (rowid row))
id_of [] row h = absurd h
id_of (r ∷ rows) row (inl same) = inl (ap (λ x. id_in (rowid x)) same)
id_of (r ∷ rows) row (inr there) = inr (id_of rows row there)

of_keys : (ids : List ℤ) (rows : List Row) (row : Row) → AllByRecursion (λ r. Has ids (id_in (rowid r))) (map key_of rows) → Has rows row → Has ids (id_in (rowid row))
of_keys ids [] row all h = absurd h
of_keys ids (r ∷ rows) row all (inl same) = subst (λ x. Has ids (id_in (rowid x))) (sym same) all.0
of_keys ids (r ∷ rows) row all (inr there) = of_keys ids rows row all.1 there

all_found : (rows found : List Row) → IsPermutation (map key_of rows) found → (row : Row) → Has rows row → Has (ids_of found) (id_in (rowid row))
all_found rows found same row h =
    let Q : Row → Type 0 = λ r. Has (ids_of found) (id_in (rowid r)) in
    let there = IsPermutation-sym (map key_of rows) found same in
    of_keys (ids_of found) rows row (recursion_from_All Q (map key_of rows) (All-permutation Q found (map key_of rows) there (All-from_recursion Q found (each_id found (ids_of found) (id_of found))))) h

-- ---- the rowid of each row is a place

-- the row has no place
abbrev IsApart : Row → Type 0
IsApart row = (i : ℕ) → is_number i (rowid row) ≡ false

abbrev is_at : ℕ → Row → Bool
is_at place row = is_number place (rowid row)

abbrev others_than : ℕ → List Row → List Row
others_than place = filter (λ row. not (is_at place row))

fewer : (p : Row → Bool) (rows : List Row) → length (filter p rows) ≤ length rows
fewer p [] = omega arith
fewer p (r ∷ rows) = go (p r) (fewer p rows)
  where
    go : (b : Bool) → length (filter p rows) ≤ length rows → length (cond b (r ∷ filter p rows) (filter p rows)) ≤ suc (length rows)
    go true low = omega (arith, low)
    go false low = omega (arith, low)

some_go : (place : ℕ) (rows : List Row) → list_any (is_at place) rows ≡ true → length (others_than place rows) < length rows
some_go place [] h = absurd (true≢false (sym h))
some_go place (r ∷ rows) h = go (is_at place r) h (some_go place rows)
  where
    go : (b : Bool) → (b || list_any (is_at place) rows) ≡ true → (list_any (is_at place) rows ≡ true → length (others_than place rows) < length rows)
        → length (cond (not b) (r ∷ others_than place rows) (others_than place rows)) < suc (length rows)
    go true any later = omega (arith, fewer (λ row. not (is_at place row)) rows)
    go false any later = omega (arith, later any)

not_both : (n i : ℕ) (v : Value) → is_number n v ≡ true → is_number i v ≡ true → n ≡ i
not_both n i v a b = let same : Int (pos n) ≡ Int (pos i) = sym (number_is n v a) ∙ number_is i v b in cc

still_any : (place i : ℕ) (rows : List Row) → (place ≡ i → ⊥) → list_any (is_at i) rows ≡ true → list_any (is_at i) (others_than place rows) ≡ true
still_any place i [] apart h = h
still_any place i (r ∷ rows) apart h = go (is_at place r) refl h (still_any place i rows apart)
  where
    go : (b : Bool) → is_at place r ≡ b → (is_at i r || list_any (is_at i) rows) ≡ true → (list_any (is_at i) rows ≡ true → list_any (is_at i) (others_than place rows) ≡ true)
        → list_any (is_at i) (cond (not b) (r ∷ others_than place rows) (others_than place rows)) ≡ true
    go true here any later = later (rest (is_at i r) refl any)
      where
        rest : (c : Bool) → is_at i r ≡ c → (c || list_any (is_at i) rows) ≡ true → list_any (is_at i) rows ≡ true
        rest true there any = absurd (apart (not_both place i (rowid r) here there))
        rest false there any = any
    go false here any later = keep (is_at i r) any
      where
        keep : (c : Bool) → (c || list_any (is_at i) rows) ≡ true → (c || list_any (is_at i) (others_than place rows)) ≡ true
        keep true any = refl
        keep false any = later any

still_has : (place : ℕ) (rows : List Row) (row : Row) → IsApart row → Has rows row → Has (others_than place rows) row
still_has place [] row apart h = absurd h
still_has place (r ∷ rows) row apart (inl same) = subst (λ b. Has (cond (not b) (r ∷ others_than place rows) (others_than place rows)) row) (sym (ap (is_at place) (sym same) ∙ apart place)) (inl same)
still_has place (r ∷ rows) row apart (inr there) = go (is_at place r) (still_has place rows row apart there)
  where
    go : (b : Bool) → Has (others_than place rows) row → Has (cond (not b) (r ∷ others_than place rows) (others_than place rows)) row
    go true later = later
    go false later = inr later

-- a row without a place is one more than the places
one_more : (count place : ℕ) (rows : List Row) (row : Row) → ((i : ℕ) → place ≤ i → i < place + count → list_any (is_at i) rows ≡ true) → IsApart row → Has rows row → count < length rows
one_more zero place [] row at apart h = absurd h
one_more zero place (r ∷ rows) row at apart h = omega arith
one_more (suc count) place rows row at apart h =
    let later = one_more count (suc place) (others_than place rows) row (λ i low high. still_any place i rows (λ same. omega (arith, same, low)) (at i (omega (arith, low)) (omega (arith, high)))) apart (still_has place rows row apart h) in
    omega (arith, later, some_go place rows (at place (omega arith) (omega arith)))

found_any : (test : Row → Bool) (rows : List Row) (bytes : List ℕ) → option_and_then (λ row. bytes_in (column row 2)) (find test rows) ≡ Some bytes → list_any test rows ≡ true
found_any test [] bytes h = absurd cc
found_any test (r ∷ rows) bytes h = go (test r) h (found_any test rows bytes)
  where
    go : (b : Bool) → option_and_then (λ row. bytes_in (column row 2)) (cond b (Some r) (find test rows)) ≡ Some bytes
        → (option_and_then (λ row. bytes_in (column row 2)) (find test rows) ≡ Some bytes → list_any test rows ≡ true) → (b || list_any test rows) ≡ true
    go true h later = refl
    go false h later = later h

each_place : (rows : List Row) (count place : ℕ) (all : List (List ℕ)) → bytes_from rows count place ≡ Some all → (i : ℕ) → place ≤ i → i < place + count → list_any (is_at i) rows ≡ true
each_place rows zero place all h i low high = absurd (omega (arith, low, high))
each_place rows (suc count) place all h i low high =
    let parts = split (bytes_at rows place) (bytes_from rows count (suc place)) all h in
    go (Rattle.std.proofs.lemmas.Bool.cases_lt place i) parts.2 (each_place rows count (suc place) parts.1 parts.3 i)
  where
    go : (place < i) ⊎ (i ≤ place) → bytes_at rows place ≡ Some (split (bytes_at rows place) (bytes_from rows count (suc place)) all h).0 → (suc place ≤ i → i < suc place + count → list_any (is_at i) rows ≡ true) → list_any (is_at i) rows ≡ true
    go (inl above) here later = later (omega (arith, above)) (omega (arith, high))
    go (inr below) here later = let same : i ≡ place = omega (arith, low, below) in subst (λ n. list_any (is_at n) rows ≡ true) (sym same) (found_any (is_at place) rows _ here)

-- ---- what is left

lacks : (ids : List ℤ) (rows : List Row) (row : Row) (id : ℤ) → Has ids id → Has (without_all rows ids) row → has_rowid id row ≡ false
lacks [] rows row id h left = absurd h
lacks (one ∷ ids) rows row id (inl same) left =
    let here = has_filtered (λ r. not (has_rowid one r)) rows row (without_all_has ids (without_rowid one rows) row left) in
    ap (λ n. has_rowid n row) same ∙ not-true _ here.1
lacks (one ∷ ids) rows row id (inr later) left = lacks ids (without_rowid one rows) row id later left

-- a row whose id is among those that go is no row of a place
gone_is_apart : (ids : List ℤ) (rows : List Row) (row : Row) → Has ids (id_in (rowid row)) → Has (without_all rows ids) row → IsApart row
gone_is_apart ids rows row found left i = go (is_at i row) refl
  where
    go : (b : Bool) → is_at i row ≡ b → b ≡ false
    go false is = refl
    go true is =
        let place : rowid row ≡ Int (pos i) = number_is i (rowid row) is in
        let here : Has ids (pos i) = subst (λ v. Has ids (id_in v)) place found in
        let taken : has_rowid (pos i) row ≡ true = ap (λ v. is_eq (value_cmp v (Int (pos i)))) place ∙ ap is_eq (tied_itself value_cmp_total (Int (pos i))) in
        sym taken ∙ lacks ids rows row (pos i) here left

none_left : (rows found : List Row) (all : List (List ℕ)) → bytes_from rows (length rows) 1 ≡ Some all → IsPermutation (map key_of rows) found → without_all rows (ids_of found) ≡ []
none_left rows found all told same = go (without_all rows (ids_of found)) refl
  where
    go : (left : List Row) → without_all rows (ids_of found) ≡ left → left ≡ []
    go [] is = refl
    go (row ∷ more) is =
        let left : Has (without_all rows (ids_of found)) row = subst (λ xs. Has xs row) (sym is) (inl refl) in
        let there = without_all_has (ids_of found) rows row left in
        let apart = gone_is_apart (ids_of found) rows row (all_found rows found same row there) left in
        absurd (omega (arith, one_more (length rows) 1 rows row (λ i low high. each_place rows (length rows) 1 all told i low high) apart there))

-- ---- the statement

-- the edit of a deletion of the rows that were found
abbrev edit_for : Trees → List Row → Edit
edit_for db rows = edit_of db (commits_table 1) (ids_of rows) Given 0 []

pub deletes : (old new : State) (k : Kept) (count : ℕ) → Shows old k → ExecutesInside 0 delete_text [] old new (Ok count) → Changes old new (kept_rows [])
deletes old new k count is h =
    let db = old.now.trees in
    let command = Delete 1 (record { lets = []; body = rowids_of 1 }) in
    let w = runs_as delete_text [] old new our_schema is.now.ours command delete_is delete_plain count h.0 in
    let text = statement_of delete_text (understood our_schema delete_text) in
    let done = went (subst (λ s. Does old.step_limit (mode_of old) [] (record old.now { schema = s }) text None command (Ok (w.tally, new.now))) is.now.ours w.changed) in
    let now = ap (λ (p : Tally × Database). p.1) (same_value (went (went done.2).2).2) in
    let queried = went done.1 in
    let written = went queried.2 in
    let trees : done.0.trees ≡ written.0 = ap (λ (it : Written). it.trees) (same_value written.2) in
    let applied = one_step our_schema _ db written.0 (edit_for db queried.0) refl written.1 in
    let after : new.now.trees ≡ written.0 = ap (λ (d : Database). d.trees) now ∙ trees in
    let parts = told_parts db k is.now.tells in
    let found : IsPermutation (map key_of (db 1)) queried.0 = answer_finds 1 (overlay db []) queried.0 (queried.1.answer Null) in
    let about : written.0 0 ≡ db 0 = applied.tables.0 (λ same. absurd cc) in
    let commits : written.0 1 ≡ [] = applied.rows ∙ none_left (db 1) queried.0 k.rows parts.1 found in
    record {
      shows = record {
        is_open = h.1.is_open;
        now = record {
          ours = ap (λ (d : Database). d.schema) now;
          sound = w.sound;
          tells = ap told after ∙ told_from written.0 [] (ap names_format about ∙ parts.0) (ap (λ rows. bytes_from rows (length rows) 1) commits);
        };
      };
      committed = h.1.committed_is;
      inside = h.1.mode;
    }
