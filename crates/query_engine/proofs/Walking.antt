-- A step of a walk over rows.
use Rattle.std.proofs.Common.{◌≡◌, ℕ, ◌+◌, ◌<◌, ◌≤◌, length, arith, true, false, if◌then◌else◌, List, [], ◌∷◌, ◌++◌, map, filter, take, drop, refl, sym, ap, subst, ◌∙◌, append_assoc, ⊎_elim}
use Rattle.std.proofs.lemmas.Bool.{cases_Bool}
use Rattle.std.proofs.lemmas.List.{drop-append-le, drop-map, length-append, length-map, length-take-le, map-append, take-append-le, take-map}
use Rattle.std.proofs.lemmas.List.Elements.{filter-append}
use Rattle.mail_records.specs.Contents.{Content}
use Rattle.filter_terms.specs.Texts.{MessageTexts}
use Rattle.query_engine.specs.Views.{QueryTree}
use Rattle.query_engine.specs.Walks.{Follows, IsRunStart, Row, RowsAscend, descending, goes_on, is_full, is_match, matching, numbers_in, ascending_cmp, row_number}
use Rattle.query_engine.specs.declared.page.Page.{Page}
use Rattle.query_engine.proofs.Pages.{stays}
use Rattle.query_engine.proofs.RowLists.{front_rises, run_first, start_rises}

module _ (q : QueryTree) (c : Content) (texts : ℕ → MessageTexts) where
  -- the number of a row, if its email matches
  abbrev pub one_match : ℕ → List ℕ
  one_match n = if is_match q c texts n then n ∷ [] else []

  first_matches : (r : Row) (rs : List Row) → matching q c texts (r ∷ rs) ≡ one_match r.number ++ matching q c texts rs
  first_matches r rs =
      ⊎_elim
      (λ (k : is_match q c texts r.number ≡ true). rw k refl)
      (λ (k : is_match q c texts r.number ≡ false). rw k refl)
      (cases_Bool (is_match q c texts r.number))

  matching-append : (xs ys : List Row) → matching q c texts (xs ++ ys) ≡ matching q c texts xs ++ matching q c texts ys
  matching-append xs ys =
      ap (filter (is_match q c texts)) (map-append row_number xs ys) ∙ filter-append (is_match q c texts) (numbers_in xs) (numbers_in ys)

  -- the row before the others is visited
  pub rising_on : (first p next : Page) (whole : List ℕ) (r : Row) (rs : List Row)
      → ((rest : List ℕ) → goes_on c p (matching q c texts (r ∷ rs) ++ rest) ≡ goes_on c first (whole ++ rest))
      → Follows c p next (one_match r.number)
      → (rest : List ℕ) → goes_on c next (matching q c texts rs ++ rest) ≡ goes_on c first (whole ++ rest)
  rising_on first p next whole r rs so follows rest =
      follows (matching q c texts rs ++ rest)
      ∙ (ap (goes_on c p) (sym (append_assoc (one_match r.number) (matching q c texts rs) rest) ∙ ap (λ ns. ns ++ rest) (sym (first_matches r rs))) ∙ so rest)

  -- the rows of the last time are visited
  pub falling_on : (first p next : Page) (whole : List ℕ) (others : List Row) (last : Row) (start : ℕ) → IsRunStart others start last.received → RowsAscend (others ++ last ∷ [])
      → ((rest : List ℕ) → goes_on c p (matching q c texts (descending (others ++ last ∷ [])) ++ rest) ≡ goes_on c first (whole ++ rest))
      → Follows c p next (matching q c texts (drop start others ++ last ∷ []))
      → (rest : List ℕ) → goes_on c next (matching q c texts (descending (take start others)) ++ rest) ≡ goes_on c first (whole ++ rest)
  falling_on first p next whole others last start is rise so follows rest =
      let run = drop start others ++ last ∷ [] in
      let left = descending (take start others) in
      let order : matching q c texts run ++ (matching q c texts left ++ rest) ≡ matching q c texts (descending (others ++ last ∷ [])) ++ rest =
      sym (append_assoc (matching q c texts run) (matching q c texts left) rest)
      ∙ ap (λ ns. ns ++ rest) (sym (ap (matching q c texts) (run_first others last start is rise) ∙ matching-append run left)) in
      follows (matching q c texts left ++ rest) ∙ (ap (goes_on c p) order ∙ so rest)

-- a full page is the page of the whole list
pub full_on : (c : Content) (first p : Page) (whole left : List ℕ) → is_full p ≡ true
    → ((rest : List ℕ) → goes_on c p (left ++ rest) ≡ goes_on c first (whole ++ rest)) → Follows c first p whole
full_on c first p whole left full so rest = stays p full c left rest ∙ so rest

-- ---- entries with a row each

module _ {E : Type 0} (f : E → Row) (left others : List E) (last : E) (is : left ≡ others ++ last ∷ []) (rise : RowsAscend (map f left)) where
  rows_are : map f left ≡ map f others ++ f last ∷ []
  rows_are = ap (map f) is ∙ map-append f others (last ∷ [])

  pub others_rise : RowsAscend (map f others)
  others_rise = front_rises ascending_cmp (map f others) (f last ∷ []) (subst RowsAscend rows_are rise)

  module _ (start : ℕ) (begins : IsRunStart (map f others) start (f last).received) where
    within : start ≤ length others
    within = subst (λ n. start ≤ n) (length-map others f) begins.within

    longer : length left ≡ length others + 1
    longer = ap length is ∙ length-append others (last ∷ [])

    pub start_fits : start ≤ length left
    start_fits = omega (arith, within, longer)

    pub shorter : (before : List E) → before ≡ take start left → length before < length left
    shorter before first = omega (arith, within, longer, ap length first ∙ length-take-le start left start_fits)

    before_rows : (before : List E) → before ≡ take start left → map f before ≡ take start (map f others)
    before_rows before first = ap (map f) (first ∙ (ap (take start) is ∙ take-append-le start others (last ∷ []) within)) ∙ sym (take-map f start others)

    run_rows : (run : List E) → run ≡ drop start left → map f run ≡ drop start (map f others) ++ f last ∷ []
    run_rows run second =
        ap (map f) (second ∙ (ap (drop start) is ∙ drop-append-le start others (last ∷ []) within))
        ∙ (map-append f (drop start others) (last ∷ []) ∙ ap (λ xs. xs ++ f last ∷ []) (sym (drop-map f start others)))

    pub before_rise : (before : List E) → before ≡ take start left → RowsAscend (map f before)
    before_rise before first = subst RowsAscend (sym (before_rows before first)) (start_rises (map f others) (f last) start (subst RowsAscend rows_are rise))

    -- the entries of the last time are visited
    pub before_on : (q : QueryTree) (c : Content) (texts : ℕ → MessageTexts) (first p next : Page) (whole : List ℕ) (before run : List E) → before ≡ take start left → run ≡ drop start left
        → ((rest : List ℕ) → goes_on c p (matching q c texts (descending (map f left)) ++ rest) ≡ goes_on c first (whole ++ rest))
        → Follows c p next (matching q c texts (map f run))
        → (rest : List ℕ) → goes_on c next (matching q c texts (descending (map f before)) ++ rest) ≡ goes_on c first (whole ++ rest)
    before_on q c texts first p next whole before run one two so follows =
        subst (λ (rows : List Row). (rest : List ℕ) → goes_on c next (matching q c texts (descending rows) ++ rest) ≡ goes_on c first (whole ++ rest)) (sym (before_rows before one))
        (falling_on q c texts first p next whole (map f others) (f last) start begins (subst RowsAscend rows_are rise)
        (subst (λ (rows : List Row). (rest : List ℕ) → goes_on c p (matching q c texts (descending rows) ++ rest) ≡ goes_on c first (whole ++ rest)) rows_are so)
        (subst (λ (rows : List Row). Follows c p next (matching q c texts rows)) (run_rows run two) follows))
