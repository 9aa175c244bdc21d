-- The emails in a mailbox that match, sorted, are the list of matches.
use Rattle.std.proofs.Common.{◌≡◌, ℕ, Bool, true, false, eqb, List, [], ◌∷◌, map, filter, refl, sym, ap, ◌∙◌, subst, codes, Ordering, Equal, is_lt, IsPermutation}
use Rattle.std.specs.Cmp.{IsTotalOrder}
use Rattle.std.specs.Ordering.{is_eq}
use Rattle.std.specs.List.{AllByRecursion, IsDistinct}
use Rattle.std.specs.List.Sorted.{IsSortedBy, IsStrictlySortedBy}
use Rattle.std.proofs.lemmas.List.Sorted.{list_any-IsPermutation}
use Rattle.std.proofs.lemmas.Map.Keys.{IsDistinct-from_sorted, IsDistinct-IsPermutation}
use Rattle.jm_base.specs.Splices.{has}
use Rattle.jm_base.specs.declared.identifiers.Kind.TheVariants.{Email as OfEmails}
use Rattle.jm_json.specs.Tree.{Tree, text, list, object, trees_of, fields_of}
use Rattle.mail_records.specs.Contents.{Content}
use Rattle.mail_records.specs.Orders.{AreInMailbox}
use Rattle.mail_records.specs.declared.entries.Placed.{Placed}
use Rattle.filter_terms.specs.Texts.{MessageTexts}
use Rattle.query_engine.specs.Queries.{order_of}
use Rattle.query_engine.specs.Views.{QueryTree}
use Rattle.query_engine.specs.Walks.{IsInMailbox, IsSortedByReceived, is_match, matches_list, matching, placed_row}
use Rattle.query_engine.proofs.Results.{apart, is_matches_list, is_one, matches_have, matches_rise, total}
use Rattle.query_engine.proofs.Sorting.{eqb_turns, strictly}
use Rattle.query_engine.proofs.Walked.{placed_walked}

-- the sort by the time received, earliest first
abbrev sort_by_time : Tree
sort_by_time = list (trees_of (object (fields_of ((codes "property", text (codes "receivedAt")) ∷ [])) ∷ []))

is_by_time : IsSortedByReceived sort_by_time true
is_by_time = record { keyword = []; order = refl }

apart_all : (p q : ℕ → Bool) → ((n : ℕ) → p n ≡ q n) → (ns : List ℕ) → AllByRecursion (λ n. p n ≡ false) ns → AllByRecursion (λ n. q n ≡ false) ns
apart_all p q same [] all = tt
apart_all p q same (n ∷ ns) all = (sym (same n) ∙ all.0, apart_all p q same ns all.1)

distinct_all : (e f : ℕ → ℕ → Bool) → ((x y : ℕ) → e x y ≡ f x y) → (ns : List ℕ) → IsDistinct e ns → IsDistinct f ns
unfolding IsDistinct
distinct_all e f same [] distinct = tt
distinct_all e f same (n ∷ ns) distinct = (apart_all (e n) (f n) (same n) ns distinct.0, distinct_all e f same ns distinct.1)

module _ (R : ℕ → ℕ → Ordering) (o : IsTotalOrder R) (one : (a b : ℕ) → R a b ≡ Equal → a ≡ b) where
  pub distinct_sorted : (ns : List ℕ) → IsStrictlySortedBy R ns → IsDistinct eqb ns
  distinct_sorted ns rise = distinct_all (λ x y. is_eq (R x y)) eqb (λ x y. is_one o one y x) ns (IsDistinct-from_sorted R ns rise)

module _ (q : QueryTree) (c : Content) (k : q.kind ≡ OfEmails) (mailbox : ℕ) (within : IsInMailbox q.filter mailbox) (ps : List Placed) (are : AreInMailbox c mailbox ps) (texts : ℕ → MessageTexts) where
  abbrev timed : QueryTree
  timed = record q { order = sort_by_time }

  entries_match : matching q c texts (map placed_row ps) ≡ matches_list timed c texts
  entries_match = placed_walked timed c k true is_by_time mailbox within ps are texts

  entries_distinct : IsDistinct eqb (matching q c texts (map placed_row ps))
  entries_distinct =
      subst (IsDistinct eqb) (sym entries_match)
      (distinct_sorted (order_of timed c) (total timed c) (apart timed c) (matches_list timed c texts) (matches_rise timed c texts))

  pub placed_sorted : (shown sorted : List ℕ) → shown ≡ matching q c texts (map placed_row ps) → IsPermutation shown sorted → IsSortedBy (λ a b. is_lt (order_of q c a b)) sorted
      → sorted ≡ matches_list q c texts
  placed_sorted shown sorted is moved ordered =
      let two : IsDistinct eqb sorted = IsDistinct-IsPermutation eqb eqb_turns shown sorted moved (subst (λ ns. IsDistinct eqb ns) (sym is) entries_distinct) in
      is_matches_list q c texts sorted (strictly (total q c) (apart q c) sorted ordered two)
      (λ n. sym (list_any-IsPermutation (λ x. eqb x n) shown sorted moved) ∙ (ap (λ ns. has ns n) (is ∙ entries_match) ∙ matches_have timed c texts n))
