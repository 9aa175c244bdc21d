-- The records that match, in number order, are the list of matches of a query without a sort.
use Rattle.std.proofs.Common.{◌≡◌, ℕ, ◌+◌, ◌<◌, zero, suc, Bool, true, false, if◌then◌else◌, List, [], ◌∷◌, ◌++◌, get_or, inl, inr, length, map, filter, Some, refl, sym, ap, ◌∙◌, subst, arith, append_assoc, ⊎_elim}
use Rattle.std.proofs.lemmas.Bool.{cases_Bool}
use Rattle.std.proofs.lemmas.List.Sorted.{IsPermutation-refl}
use Rattle.mail_records.specs.Contents.{Content, email_number, mailbox_number}
use Rattle.mail_records.specs.Tables.{IsTable, lookup}
use Rattle.filter_terms.specs.Texts.{MessageTexts}
use Rattle.filter_terms.proofs.Lists.{In, in_found}
use Rattle.sort_terms.specs.Orders.{is_by_number}
use Rattle.query_engine.specs.Queries.{numbers_of}
use Rattle.query_engine.specs.Views.{QueryTree}
use Rattle.query_engine.specs.Walks.{Follows, goes_on, is_match, matches_list}
use Rattle.query_engine.specs.declared.page.Page.{Page}
use Rattle.query_engine.proofs.Sorting.{by_number_sorted, sorted_matches}

pub by_number_list : (q : QueryTree) (c : Content) (texts : ℕ → MessageTexts) → IsTable mailbox_number c.mailboxes → IsTable email_number c.emails → is_by_number q.kind q.order ≡ true
    → filter (is_match q c texts) (numbers_of q.kind c) ≡ matches_list q c texts
by_number_list q c texts m e none =
    let ns = filter (is_match q c texts) (numbers_of q.kind c) in
    sorted_matches q c texts ns ns m e refl (IsPermutation-refl ns) (by_number_sorted q.kind q.order c (is_match q c texts) m e none)

-- ---- a step over records

module _ {X : Type 0} (number : X → ℕ) (keep : X → Bool) where
  abbrev pub kept : List X → List ℕ
  kept xs = map number (filter keep xs)

  abbrev pub one_kept : X → List ℕ
  one_kept x = if keep x then number x ∷ [] else []

  first_kept : (x : X) (xs : List X) → kept (x ∷ xs) ≡ one_kept x ++ kept xs
  first_kept x xs =
      ⊎_elim
      (λ (k : keep x ≡ true). rw k refl)
      (λ (k : keep x ≡ false). rw k refl)
      (cases_Bool (keep x))

  -- the record before the others is visited
  pub kept_on : (c : Content) (first p next : Page) (whole : List ℕ) (x : X) (xs : List X)
      → ((rest : List ℕ) → goes_on c p (kept (x ∷ xs) ++ rest) ≡ goes_on c first (whole ++ rest))
      → Follows c p next (one_kept x)
      → (rest : List ℕ) → goes_on c next (kept xs ++ rest) ≡ goes_on c first (whole ++ rest)
  kept_on c first p next whole x xs so follows rest =
      follows (kept xs ++ rest)
      ∙ (ap (goes_on c p) (sym (append_assoc (one_kept x) (kept xs) rest) ∙ ap (λ ns. ns ++ rest) (sym (first_kept x xs))) ∙ so rest)

in_at : {X : Type 0} (xs : List X) (i : ℕ) (x : X) → i < length xs → In (get_or xs i x) xs
in_at [] i x lt = absurd (omega (arith, lt))
in_at (y ∷ ys) zero x lt = inl refl
in_at (y ∷ ys) (suc i) x lt = inr (in_at ys i x (omega arith))

-- the record at an index is the record of its number
pub found_at : {X : Type 0} (number : X → ℕ) (xs : List X) (i : ℕ) (x : X) → IsTable number xs → i < length xs → x ≡ get_or xs i x → lookup number (number x) xs ≡ Some x
found_at number xs i x table lt is = in_found number xs x table (subst (λ y. In y xs) (sym is) (in_at xs i x lt))
