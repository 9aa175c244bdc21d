-- The answer to a client's query of a list is read as the part of the list that it is.
use Rattle.std.proofs.Common.{◌≡◌, ℕ, ◌≤◌, ◌<◌, min, List, [], ◌∷◌, map, take, drop, length, Bool, true, false, ◌&&◌, Option, Some, None, is_none, Less, Equal, Greater, Ordering, codes, refl, sym, ap, ◌∙◌, arith, true≢false}
use Rattle.std.specs.List.{AllByRecursion}
use Rattle.std.specs.Ordering.{match_ordering}
use Rattle.std.proofs.lemmas.List.{length-take}
use Rattle.jm_base.specs.Ids.{IsId}
use Rattle.jm_base.specs.declared.identifiers.Kind.{Kind}
use Rattle.jm_base.specs.declared.identifiers.Kind.TheVariants.{Email as OfEmail}
use Rattle.jm_base.specs.declared.identifiers.TheConstants.{NUMBER_LIMIT}
use Rattle.jm_base.specs.declared.limits.TheConstants.{MAX_JSON_INTEGER}
use Rattle.jm_json.specs.Tree.{Tree, boolean, text, object, fields_of}
use Rattle.mail_counts.specs.Views.{count_tree}
use Rattle.mail_records.specs.Contents.{email_number}
use Rattle.mail_records.specs.Histories.{History, content_of, edits_of}
use Rattle.mail_records.specs.OrderSteps.{put_all_in, put_in}
use Rattle.mail_records.specs.States.{state_of}
use Rattle.mail_records.proofs.Growth.{AreNumbered-after_edits, NextAtMost-founded}
use Rattle.method_args.specs.Outcomes.{Outcome, replied}
use Rattle.method_args.specs.WrittenIds.{AreIds}
use Rattle.mail_records.proofs.Reached.{Reaches-state_of}
use Rattle.filter_terms.specs.Forms as Filters
use Rattle.filter_terms.specs.Texts.{MessageTexts}
use Rattle.sort_terms.specs.Forms as Orders
use Rattle.query_engine.specs.Queries.{order_of, result_list, shows}
use Rattle.query_engine.specs.Responses.{outcome_of_query, read_by, response_members, with_trees}
use Rattle.query_engine.specs.Windows.{part_from as shown_from}
use Rattle.reply_readers.specs.ReadBack.{CanBeResults}
use Rattle.reply_readers.proofs.ReadBacks.{results_read_back}
use Rattle.client_cache.specs.Caches.{ListView}
use Rattle.client_cache.specs.declared.limits.TheConstants.{MAX_RESULTS}
use Rattle.client_follow.specs.Laws.{ListsAreRead}
use Rattle.client_follow.specs.Lists.{query_of_list}
use Rattle.client_follow.proofs.Pages.{all_after, all_kept, all_taken}

-- ---- the numbers of a list are those of ids

all_put_in : (P : ℕ → Type 0) (R : ℕ → ℕ → Ordering) (k : ℕ) (xs : List ℕ) → P k → AllByRecursion P xs → AllByRecursion P (put_in R k xs)
all_put_in P R k [] is all = (is, tt)
all_put_in P R k (x ∷ xs) is all = by (R x k) (all_put_in P R k xs is all.1)
  where
    by : (o : Ordering) → AllByRecursion P (put_in R k xs) → AllByRecursion P (match_ordering o (x ∷ put_in R k xs) (x ∷ xs) (k ∷ x ∷ xs))
    by Less rest = (all.0, rest)
    by Equal rest = all
    by Greater rest = (is, all)

pub all_sorted : (P : ℕ → Type 0) (R : ℕ → ℕ → Ordering) (ks xs : List ℕ) → AllByRecursion P ks → AllByRecursion P xs → AllByRecursion P (put_all_in R ks xs)
all_sorted P R [] xs each all = all
all_sorted P R (k ∷ ks) xs each all = all_sorted P R ks (put_in R k xs) each.1 (all_put_in P R k xs each.0 all)

pub rows_are_ids : {A : Type 0} (kind : Kind) (number : A → ℕ) (next : ℕ) (rows : List A) → next ≤ NUMBER_LIMIT → AllByRecursion (λ r. 1 ≤ number r) rows → AllByRecursion (λ r. number r < next) rows
    → AreIds kind (map number rows)
rows_are_ids kind number next [] most from below = tt
rows_are_ids kind number next (r ∷ rs) most from below =
    (record { from_one = from.0; below = omega (arith, below.0, most) }, rows_are_ids kind number next rs most from.1 below.1)

-- ---- the answer

pub none_is : {A : Type 0} (o : Option A) → is_none o ≡ true → o ≡ None
none_is None e = refl
none_is (Some a) e = absurd (true≢false (sym e))

pub and_parts : (a b : Bool) → (a && b) ≡ true → (a ≡ true) × (b ≡ true)
and_parts true b e = (refl, e)
and_parts false b e = absurd (true≢false (sym e))

pub read_same : (f : Option (List ℕ) → Option (List ℕ) → Option (List ℕ) → Option (List ℕ) → Outcome) (a b c d : Option (List ℕ)) → a ≡ None → b ≡ None → c ≡ None → d ≡ None → f a b c d ≡ f None None None None
read_same f a b c d ea eb ec ed = rw (ea, eb, ec, ed) refl

pub few_taken : (n : ℕ) (xs : List ℕ) → length (take n xs) ≤ n
few_taken n xs = let most = length-take n xs in omega (arith, most)

pub least : (n : ℕ) → n ≤ MAX_JSON_INTEGER → min n MAX_JSON_INTEGER ≡ n
least n most = omega (arith, most)

abbrev list_members : List ℕ → ListView → ℕ → List (List ℕ × Tree)
list_members account l position =
    (codes "accountId", text account) ∷ (codes "collapseThreads", boolean l.collapse) ∷ (codes "filter", l.filter)
    ∷ (codes "limit", count_tree MAX_RESULTS) ∷ (codes "position", count_tree position) ∷ (codes "sort", l.sort) ∷ []

-- the answer, by what is at fault in filter and sort, and by the position as it is read
abbrev answer_by : History → (ℕ → MessageTexts) → List ℕ → ListView → ℕ → Option (List ℕ) → Option (List ℕ) → Option (List ℕ) → Option (List ℕ) → Outcome
answer_by h texts account l position a b c d =
    outcome_of_query OfEmail (state_of h OfEmail) (content_of h) texts (list_members account l position) (with_trees false false (read_by a b c d (query_of_list l)))

abbrev tree_at : History → List ℕ → List ℕ → ℕ → Tree
tree_at h account list start =
    object (fields_of (response_members OfEmail account (state_of h OfEmail) (shown_from list (Some MAX_RESULTS) start) false (length list)))

pub lists_are_read : ListsAreRead
lists_are_read h texts account pointer l position founded sound few known sorted small =
    let q = query_of_list l in
    let list = result_list q (content_of h) texts in
    let filters = and_parts (is_none (Filters.invalid OfEmail l.filter)) (is_none (Filters.unsupported OfEmail l.filter)) known in
    let sorts = and_parts (is_none (Orders.invalid OfEmail l.sort)) (is_none (Orders.unsupported OfEmail l.sort)) sorted in
    let numbered = (AreNumbered-after_edits (edits_of h) h.base sound.fits founded.numbered).emails in
    let next = (NextAtMost-founded h founded sound.fits).email in
    let most : (content_of h).next_email ≤ NUMBER_LIMIT = omega (arith, next, few) in
    let P : ℕ → Type 0 = λ n. IsId (record { kind = OfEmail; number = n }) in
    let rows = rows_are_ids OfEmail email_number (content_of h).next_email (content_of h).emails most numbered.from_one numbered.below_next in
    let ids : AreIds OfEmail list = all_sorted P (order_of q (content_of h)) _ [] (all_kept P (shows q (content_of h) texts) _ rows) tt in
    let fits = (Reaches-state_of h OfEmail founded.floors).1 in
    let can : CanBeResults OfEmail (state_of h OfEmail) MAX_RESULTS (shown_from list (Some MAX_RESULTS) position) = record {
      ids = all_taken P MAX_RESULTS (drop position list) (all_after P position list ids);
      few = few_taken MAX_RESULTS (drop position list);
      position = small;
      query_state = omega (arith, fits, few);
    } in
    let back = results_read_back OfEmail account pointer (state_of h OfEmail) MAX_RESULTS (shown_from list (Some MAX_RESULTS) position) false (length list) can in
    record {
      tree = tree_at h account list position;
      answer =
          read_same (answer_by h texts account l position) (Filters.invalid OfEmail l.filter) (Orders.invalid OfEmail l.sort) (Filters.unsupported OfEmail l.filter) (Orders.unsupported OfEmail l.sort)
          (none_is _ filters.0) (none_is _ sorts.0) (none_is _ filters.1) (none_is _ sorts.1)
          ∙ ap (λ n. replied (tree_at h account list n)) (least position small);
      form = back.0;
      read = back.1;
    }
