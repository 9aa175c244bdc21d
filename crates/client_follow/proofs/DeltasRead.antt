-- The answer to a client's call for the changes of a list's query is read as these.
use Rattle.std.proofs.Common.{◌≡◌, ℕ, ◌+◌, ◌-◌, ◌≤◌, ◌<◌, List, [], ◌∷◌, ◌++◌, map, filter, drop, length, zero, suc, Bool, true, false, Option, Some, None, is_none, Less, Equal, Greater, Ordering, option_and_then, codes, refl, sym, ap, ◌∙◌, arith, ⊎_elim}
use Rattle.std.specs.List.{AllByRecursion}
use Rattle.std.specs.Ordering.{match_ordering, nat_cmp}
use Rattle.std.proofs.lemmas.Bool.{cases_Bool}
use Rattle.std.proofs.lemmas.List.{length-map}
use Rattle.std.proofs.lemmas.Option.{same_Some}
use Rattle.jm_base.specs.Ids.{IsId, state_text}
use Rattle.jm_base.specs.Splices.{with_index}
use Rattle.jm_base.specs.declared.identifiers.AddedItem.{AddedItem}
use Rattle.jm_base.specs.declared.identifiers.Id.{Id}
use Rattle.jm_base.specs.declared.identifiers.Kind.{Kind}
use Rattle.jm_base.specs.declared.identifiers.Kind.TheVariants.{Email as OfEmail}
use Rattle.jm_base.specs.declared.identifiers.TheConstants.{NUMBER_LIMIT}
use Rattle.jm_json.specs.Tree.{Tree, boolean, text}
use Rattle.mail_records.specs.Contents.{email_number}
use Rattle.mail_records.specs.Edits.{id_of}
use Rattle.mail_records.specs.Histories.{History, IsFounded, IsNamedBelow, IsSound, content_of, edits_after, edits_of, end_of}
use Rattle.mail_records.specs.OrderSteps.{put_all_in, put_in}
use Rattle.mail_records.specs.States.{Reaches, is_kind, is_kind_of, state_of}
use Rattle.mail_records.specs.Tables.{IsTable}
use Rattle.mail_records.proofs.Growth.{AreNumbered-after_edits, AreTables-after_edits, NextAtMost-founded, all_map}
use Rattle.mail_records.proofs.NumbersNamed.{named_below_next}
use Rattle.mail_records.proofs.Reached.{Reaches-state_of}
use Rattle.method_args.specs.Outcomes.{Outcome, replied}
use Rattle.method_args.specs.WrittenIds.{AreIds}
use Rattle.state_log.specs.Logs.{numbers_named}
use Rattle.change_calls.proofs.Exact.{reached_state-read}
use Rattle.filter_terms.specs.Forms as Filters
use Rattle.filter_terms.specs.Texts.{MessageTexts}
use Rattle.sort_terms.specs.Forms as Orders
use Rattle.query_engine.specs.Queries.{numbers_of, order_of, result_list, shows}
use Rattle.query_engine.specs.Responses.{read_by}
use Rattle.query_changes.specs.Deltas.{answer_since, delta_of}
use Rattle.query_changes.specs.Responses.{delta_tree, outcome_by, outcome_of_query}
use Rattle.query_changes.specs.Touched.{is_touched, touches}
use Rattle.reply_readers.specs.Deltas.{delta_in}
use Rattle.reply_readers.specs.ReadBack.{CanBeDelta, CanBeItem}
use Rattle.reply_readers.proofs.ReadBacks.{deltas_read_back}
use Rattle.client_cache.specs.Caches.{ListView}
use Rattle.client_cache.specs.Progress.{by_delta}
use Rattle.client_cache.specs.Requests.{list_at}
use Rattle.client_follow.specs.Laws.{DeltasAreRead, ListsAreBrought}
use Rattle.client_follow.specs.Deltas.{IsDeltaRead}
use Rattle.client_follow.specs.Lists.{query_of_list}
use Rattle.client_follow.proofs.Deltas.{deltas_arrive}
use Rattle.client_follow.proofs.Pages.{all_kept, each_id}
use Rattle.client_follow.proofs.Results.{all_sorted, and_parts, none_is, read_same, rows_are_ids}

-- ---- a list is shorter than the next number

few_put_in : (R : ℕ → ℕ → Ordering) (k : ℕ) (xs : List ℕ) → length (put_in R k xs) ≤ length xs + 1
few_put_in R k [] = omega arith
few_put_in R k (x ∷ xs) = by (R x k) (few_put_in R k xs)
  where
    by : (o : Ordering) → length (put_in R k xs) ≤ length xs + 1 → length (match_ordering o (x ∷ put_in R k xs) (x ∷ xs) (k ∷ x ∷ xs)) ≤ length (x ∷ xs) + 1
    by Less rest = omega (arith, rest)
    by Equal rest = omega arith
    by Greater rest = omega arith

few_sorted : (R : ℕ → ℕ → Ordering) (ks xs : List ℕ) → length (put_all_in R ks xs) ≤ length ks + length xs
few_sorted R [] xs = omega arith
few_sorted R (k ∷ ks) xs = let rest = few_sorted R ks (put_in R k xs) in let one = few_put_in R k xs in omega (arith, rest, one)

few_kept : {A : Type 0} (p : A → Bool) (xs : List A) → length (filter p xs) ≤ length xs
few_kept p [] = omega arith
few_kept p (x ∷ xs) =
    let rest = few_kept p xs in
    ⊎_elim
    (λ (t : p x ≡ true). rw t (omega (arith, rest)))
    (λ (f : p x ≡ false). rw f (omega (arith, rest)))
    (cases_Bool (p x))

few_rows : {A : Type 0} (number : A → ℕ) (low next : ℕ) (rows : List A) → low ≤ next → IsTable number rows → AllByRecursion (λ r. low ≤ number r) rows
    → AllByRecursion (λ r. number r < next) rows → length rows + low ≤ next
few_rows number low next [] most table from below = omega (arith, most)
few_rows number low next (r ∷ rs) most table from below =
    let rest =
    few_rows number (number r + 1) next rs (let b = below.0 in omega (arith, b)) table.1
    (all_map (λ x. number r < number x) (λ x. number r + 1 ≤ number x) rs (λ x lt. omega (arith, lt)) table.0) below.1 in
    let first = from.0 in
    omega (arith, rest, first)

-- ---- the numbers of the changes are those of ids

all_both : {A : Type 0} (P : A → Type 0) (xs ys : List A) → AllByRecursion P xs → AllByRecursion P ys → AllByRecursion P (xs ++ ys)
all_both P [] ys all each = each
all_both P (x ∷ xs) ys all each = (all.0, all_both P xs ys all.1 each)

map_after : {A B : Type 0} (P : B → Type 0) (f : A → B) (n : ℕ) (xs : List A) → AllByRecursion P (map f xs) → AllByRecursion P (map f (drop n xs))
map_after P f zero xs all = all
map_after P f (suc n) [] all = tt
map_after P f (suc n) (x ∷ xs) all = map_after P f n xs all.1

named_are_ids : (kind : Kind) (is : List Id) → AllByRecursion (λ i. is_kind_of kind i ≡ true → IsId (record { kind = kind; number = i.number })) is → AreIds kind (numbers_named kind is)
named_are_ids kind [] all = tt
named_are_ids kind (i ∷ is) all =
    let rest = named_are_ids kind is all.1 in
    ⊎_elim
    (λ (t : is_kind kind i.kind ≡ true). rw t (all.0 t, rest))
    (λ (f : is_kind kind i.kind ≡ false). rw f rest)
    (cases_Bool (is_kind kind i.kind))

added_can : (test : ℕ → Bool) (start : ℕ) (ns : List ℕ) → AreIds OfEmail ns → start + length ns ≤ NUMBER_LIMIT → AllByRecursion (CanBeItem OfEmail) (with_index test start ns)
added_can test start [] ids small = tt
added_can test start (n ∷ ns) ids small =
    let rest = added_can test (start + 1) ns ids.1 (omega (arith, small)) in
    let item : AddedItem = record { number = n; index = start } in
    let here : CanBeItem OfEmail item = record { number = ids.0; index = omega (arith, small) } in
    ⊎_elim
    (λ (t : test n ≡ true). rw t (here, rest))
    (λ (f : test n ≡ false). rw f rest)
    (cases_Bool (test n))

can_be_delta : (h : History) (texts : ℕ → MessageTexts) (l : ListView) (since : ℕ) → IsFounded h → IsSound h → end_of h < NUMBER_LIMIT → Reaches h OfEmail since
    → CanBeDelta OfEmail since (delta_of h (query_of_list l) texts since)
can_be_delta h texts l since founded sound few reached =
    let q = query_of_list l in
    let now = content_of h in
    let numbered = (AreNumbered-after_edits (edits_of h) h.base sound.fits founded.numbered).emails in
    let table = (AreTables-after_edits (edits_of h) h.base founded.tables).emails in
    let next = NextAtMost-founded h founded sound.fits in
    let email = next.email in
    let most : now.next_email ≤ NUMBER_LIMIT = omega (arith, email, few) in
    let P : ℕ → Type 0 = λ n. IsId (record { kind = OfEmail; number = n }) in
    let rows = rows_are_ids OfEmail email_number now.next_email now.emails most numbered.from_one numbered.below_next in
    let shown = filter (shows q now texts) (numbers_of OfEmail now) in
    let ids : AreIds OfEmail (result_list q now texts) = all_sorted P (order_of q now) shown [] (all_kept P (shows q now texts) _ rows) tt in
    let one = numbered.next_from_one in
    let all_rows = few_rows email_number 1 now.next_email now.emails one table numbered.from_one numbered.below_next in
    let as_rows = length-map now.emails email_number in
    let kept = few_kept (shows q now texts) (numbers_of OfEmail now) in
    let sorted = few_sorted (order_of q now) shown [] in
    let named = map_after (IsNamedBelow now) id_of (since - h.floor) (edits_of h) (named_below_next h founded sound.fits) in
    let named_ids = named_are_ids OfEmail (map id_of (edits_after h since)) (each_id now (end_of h) OfEmail next few (map id_of (edits_after h since)) named) in
    let fits = (Reaches-state_of h OfEmail founded.floors).1 in
    let within = reached.1 in
    record {
      added = added_can (is_touched h q since) 0 (result_list q now texts) ids (omega (arith, all_rows, as_rows, kept, sorted, most));
      removed = all_sorted P nat_cmp _ [] (all_kept P (touches q (edits_after h since) now) _ (all_both P (numbers_named OfEmail (map id_of (edits_after h since))) (numbers_of OfEmail now) named_ids rows)) tt;
      old_state = omega (arith, within, few);
      new_state = omega (arith, fits, few);
    }

-- ---- the answer

abbrev list_members : List ℕ → ListView → ℕ → List (List ℕ × Tree)
list_members account l since =
    (codes "accountId", text account) ∷ (codes "collapseThreads", boolean l.collapse) ∷ (codes "filter", l.filter)
    ∷ (codes "sinceQueryState", text (state_text since)) ∷ (codes "sort", l.sort) ∷ []

-- the answer, by what is at fault in filter and sort
abbrev answer_by : History → (ℕ → MessageTexts) → List ℕ → ListView → ℕ → Option (List ℕ) → Option (List ℕ) → Option (List ℕ) → Option (List ℕ) → Outcome
answer_by h texts account l since a b c d = outcome_of_query h texts OfEmail (list_members account l since) (read_by a b c d (query_of_list l))

pub deltas_are_read : DeltasAreRead
deltas_are_read h texts account pointer l since founded sound few known sorted reached =
    let q = query_of_list l in
    let filters = and_parts (is_none (Filters.invalid OfEmail l.filter)) (is_none (Filters.unsupported OfEmail l.filter)) known in
    let sorts = and_parts (is_none (Orders.invalid OfEmail l.sort)) (is_none (Orders.unsupported OfEmail l.sort)) sorted in
    let within = reached.1 in
    let below : since < NUMBER_LIMIT = omega (arith, within, few) in
    let back = deltas_read_back OfEmail account pointer since false (delta_of h q texts since) (can_be_delta h texts l since founded sound few reached) in
    record {
      tree = delta_tree OfEmail account (state_text since) false (delta_of h q texts since);
      answer =
          read_same (answer_by h texts account l since) (Filters.invalid OfEmail l.filter) (Orders.invalid OfEmail l.sort) (Filters.unsupported OfEmail l.filter) (Orders.unsupported OfEmail l.sort)
          (none_is _ filters.0) (none_is _ sorts.0) (none_is _ filters.1) (none_is _ sorts.1)
          ∙ ap (λ o. outcome_by OfEmail (list_members account l since) (answer_since h q texts None o)) (reached_state-read h OfEmail (state_text since) since reached below refl);
      form = back.0;
      read = back.1;
    }

-- ---- from the answer to the list

abbrev pub replied_tree : Outcome → Option Tree
replied_tree (replied t) = Some t
replied_tree other = None

pub lists_are_brought : ListsAreBrought
lists_are_brought h texts account since index c r t founded sound few known sorted reached had answered =
    let l = list_at index c in
    let read : IsDeltaRead h texts account [] l since = deltas_are_read h texts account [] l since founded sound few known sorted reached in
    let same : t ≡ read.tree = same_Some t read.tree (ap replied_tree (sym answered ∙ read.answer)) in
    ap (λ t. option_and_then (by_delta c r index) (delta_in OfEmail t)) same
    ∙ ap (option_and_then (by_delta c r index)) read.read
    ∙ deltas_arrive h (query_of_list l) texts since (state_of h OfEmail) index c r sound reached had
