-- The numbers that match, sorted, are the list of matches.
use Rattle.std.proofs.Common.{◌≡◌, ℕ, ◌+◌, ◌<◌, Bool, true, false, ◌&&◌, eqb, eq-eqb, ltb, lt-ltb, List, [], ◌∷◌, get_or, length, map, filter, Option, Some, None, is_some, option_map, refl, sym, ap, ◌∙◌, subst, arith, Ordering, Less, Equal, Greater, is_lt, ne_eqb, nat_cmp, IsPermutation, ⊎_elim}
use Rattle.std.specs.Prelude.{◌==◌}
use Rattle.std.specs.Cmp.{IsTotalOrder}
use Rattle.std.specs.Option.{option_cmp}
use Rattle.std.specs.Ordering.{ordering_reverse, ordering_then}
use Rattle.std.specs.List.{AllByRecursion, IsDistinct}
use Rattle.std.specs.List.Sorted.{IsSortedBy, IsStrictlySortedBy, IsStrictlyIncreasing}
use Rattle.std.proofs.lemmas.Bool.{and_parts, cases_Bool, false≢true, eqb-false}
use Rattle.std.proofs.lemmas.Bool.Decides.{nat_tests}
use Rattle.std.proofs.lemmas.List.Folds.{list_any_at}
use Rattle.std.proofs.lemmas.List.Kept.{AllPairs-from_increasing, IsStrictlyIncreasing-filter}
use Rattle.std.proofs.lemmas.List.Sorted.{list_any-IsPermutation}
use Rattle.std.proofs.lemmas.Map.Keys.{IsStrictlyIncreasing-from_sorted, sorted_from_all_adjacent, apart_from_distinct, IsDistinct-from_apart, IsDistinct-IsPermutation}
use Rattle.jm_base.specs.Splices.{has}
use Rattle.jm_base.specs.declared.identifiers.Kind.{Kind}
use Rattle.jm_base.specs.declared.identifiers.Kind.TheVariants.{Mailbox as OfMailboxes, Email as OfEmails, Thread as OfThreads}
use Rattle.jm_base.proofs.Spliced.{has-filter}
use Rattle.jm_json.specs.Tree.{Tree}
use Rattle.mail_records.specs.Contents.{Content, email_at, email_number, mailbox_at, mailbox_number}
use Rattle.mail_records.specs.Tables.{IsTable}
use Rattle.method_args.specs.Arguments.{passes}
use Rattle.filter_terms.specs.Filters.{holds}
use Rattle.filter_terms.specs.Targets.{AMailbox, AnEmail, email_in_thread, email_in_thread_at}
use Rattle.filter_terms.specs.Texts.{MessageTexts}
use Rattle.filter_terms.proofs.Lists.{in_found}
use Rattle.sort_terms.specs.Comparators.{emails_cmp, mailboxes_cmp}
use Rattle.sort_terms.specs.Forms.{comparators_of}
use Rattle.sort_terms.specs.Orders.{is_by_number, numbers_cmp, records_cmp}
use Rattle.query_engine.specs.Queries.{numbers_of, order_of}
use Rattle.query_engine.specs.Views.{QueryTree}
use Rattle.query_engine.specs.Walks.{is_match, kept_emails, kept_mailboxes, matches_list}
use Rattle.query_engine.proofs.Results.{apart, has_numbers, sorted_is, total}
use Rattle.query_engine.proofs.Walked.{all_of_in}

less_from : (o p : Ordering) → p ≡ ordering_reverse o → is_lt p ≡ false → (o ≡ Equal → ⊥) → o ≡ Less
less_from Less p e f n = refl
less_from Equal p e f n = absurd (n refl)
less_from Greater p e f n = absurd (false≢true (sym f ∙ ap is_lt e))

pub strictly : {R : ℕ → ℕ → Ordering} → IsTotalOrder R → ((a b : ℕ) → R a b ≡ Equal → a ≡ b) → (ks : List ℕ) → IsSortedBy (λ a b. is_lt (R a b)) ks → IsDistinct eqb ks → IsStrictlySortedBy R ks
strictly {R} total apart ks up distinct =
    sorted_from_all_adjacent total ks 0 (λ k lt.
    let a = get_or ks k 0 in
    let b = get_or ks (k + 1) 0 in
    let ne : eqb a b ≡ false = apart_from_distinct eqb ks k (k + 1) 0 distinct (omega arith) lt in
    less_from (R a b) (R b a) (total.antisymm b a) (up k 0 (omega arith) lt) (λ e. eqb-false a b ne (apart a b e)))

distinct_increasing : (ks : List ℕ) → IsStrictlyIncreasing ks → IsDistinct eqb ks
distinct_increasing ks up =
    IsDistinct-from_apart eqb ks (λ i j d lt in'.
    let less = AllPairs-from_increasing ks up i j d lt in' in ne_eqb (get_or ks i d) (get_or ks j d) (λ e. omega arith))

pub eqb_turns : (x y : ℕ) → eqb x y ≡ eqb y x
eqb_turns x y = grind arith

less_all : {X : Type 0} (number : X → ℕ) (n : ℕ) (xs : List X) → AllByRecursion (λ x. n < number x) xs → AllByRecursion (λ m. nat_cmp n m ≡ Less) (map number xs)
less_all number n [] all = tt
less_all number n (x ∷ xs) all =
    ((let k : ltb n (number x) ≡ true = lt-ltb n (number x) all.0 in rw k refl), less_all number n xs all.1)

numbers_sorted : {X : Type 0} (number : X → ℕ) (xs : List X) → IsTable number xs → IsStrictlySortedBy nat_cmp (map number xs)
unfolding IsStrictlySortedBy
numbers_sorted number [] table = tt
numbers_sorted number (x ∷ xs) table = (less_all number (number x) xs table.0, numbers_sorted number xs table.1)

numbers_rise : (kind : Kind) (c : Content) → IsTable mailbox_number c.mailboxes → IsTable email_number c.emails → IsStrictlyIncreasing (numbers_of kind c)
unfolding IsStrictlySortedBy
numbers_rise OfMailboxes c m e = IsStrictlyIncreasing-from_sorted (map mailbox_number c.mailboxes) (numbers_sorted mailbox_number c.mailboxes m)
numbers_rise OfEmails c m e = IsStrictlyIncreasing-from_sorted (map email_number c.emails) (numbers_sorted email_number c.emails e)
numbers_rise OfThreads c m e = IsStrictlyIncreasing-from_sorted [] tt

-- what matches, sorted, is the list of matches
pub sorted_matches : (q : QueryTree) (c : Content) (texts : ℕ → MessageTexts) (shown sorted : List ℕ) → IsTable mailbox_number c.mailboxes → IsTable email_number c.emails
    → shown ≡ filter (is_match q c texts) (numbers_of q.kind c) → IsPermutation shown sorted → IsSortedBy (λ a b. is_lt (order_of q c a b)) sorted → sorted ≡ matches_list q c texts
sorted_matches q c texts shown sorted m e is moved ordered =
    let keep : ℕ → Bool = is_match q c texts in
    let one : IsDistinct eqb (filter keep (numbers_of q.kind c)) = distinct_increasing (filter keep (numbers_of q.kind c)) (IsStrictlyIncreasing-filter keep (numbers_of q.kind c) (numbers_rise q.kind c m e)) in
    let two : IsDistinct eqb sorted = IsDistinct-IsPermutation eqb eqb_turns shown sorted moved (subst (λ zs. IsDistinct eqb zs) (sym is) one) in
    sorted_is (total q c) (apart q c) sorted (filter keep (numbers_of q.kind c)) (strictly (total q c) (apart q c) sorted ordered two)
    (λ n. sym (list_any-IsPermutation (λ x. eqb x n) shown sorted moved) ∙ ap (λ zs. has zs n) is)

-- ---- the numbers of what matches

map_filter : {X : Type 0} (f : X → ℕ) (p : X → Bool) (m : ℕ → Bool) (xs : List X) → AllByRecursion (λ x. m (f x) ≡ p x) xs → map f (filter p xs) ≡ filter m (map f xs)
map_filter f p m [] all = refl
map_filter f p m (x ∷ xs) all =
    ⊎_elim
    (λ (k : p x ≡ true). rw (k, all.0 ∙ k) (ap (λ zs. f x ∷ zs) (map_filter f p m xs all.1)))
    (λ (k : p x ≡ false). rw (k, all.0 ∙ k) (map_filter f p m xs all.1))
    (cases_Bool (p x))

pub matched_emails : (q : QueryTree) (c : Content) (texts : ℕ → MessageTexts) → IsTable email_number c.emails → q.kind ≡ OfEmails
    → kept_emails q c texts c.emails ≡ filter (is_match q c texts) (numbers_of q.kind c)
matched_emails q c texts table k =
    subst (λ kind. kept_emails (record q { kind = kind }) c texts c.emails ≡ filter (is_match (record q { kind = kind }) c texts) (numbers_of kind c)) (sym k)
    (map_filter email_number (λ e. holds OfEmails (AnEmail texts (email_in_thread c.emails e)) q.filter) (is_match (record q { kind = OfEmails }) c texts) c.emails
    (all_of_in (λ e. is_match (record q { kind = OfEmails }) c texts e.number ≡ holds OfEmails (AnEmail texts (email_in_thread c.emails e)) q.filter) c.emails
    (λ e i. ap (λ o. passes (λ s. holds OfEmails (AnEmail texts s) q.filter) (option_map (email_in_thread c.emails) o)) (in_found email_number c.emails e table i))))

pub matched_mailboxes : (q : QueryTree) (c : Content) (texts : ℕ → MessageTexts) → IsTable mailbox_number c.mailboxes → q.kind ≡ OfMailboxes
    → kept_mailboxes q c.mailboxes ≡ filter (is_match q c texts) (numbers_of q.kind c)
matched_mailboxes q c texts table k =
    subst (λ kind. kept_mailboxes (record q { kind = kind }) c.mailboxes ≡ filter (is_match (record q { kind = kind }) c texts) (numbers_of kind c)) (sym k)
    (map_filter mailbox_number (λ m. holds OfMailboxes (AMailbox m) q.filter) (is_match (record q { kind = OfMailboxes }) c texts) c.mailboxes
    (all_of_in (λ m. is_match (record q { kind = OfMailboxes }) c texts m.number ≡ holds OfMailboxes (AMailbox m) q.filter) c.mailboxes
    (λ m i. ap (passes (λ x. holds OfMailboxes (AMailbox x) q.filter)) (in_found mailbox_number c.mailboxes m table i))))

pub matched_threads : (q : QueryTree) (c : Content) (texts : ℕ → MessageTexts) → q.kind ≡ OfThreads → [] ≡ filter (is_match q c texts) (numbers_of q.kind c)
matched_threads q c texts k = ap (λ kind. filter (is_match q c texts) (numbers_of kind c)) (sym k)

-- ---- orders without comparators

both_there : {X : Type 0} (R : X → X → Ordering) (o p : Option X) → ((x y : X) → R x y ≡ Equal) → is_some o ≡ true → is_some p ≡ true → option_cmp R o p ≡ Equal
both_there R None p equal i j = absurd (false≢true i)
both_there R (Some x) None equal i j = absurd (false≢true j)
both_there R (Some x) (Some y) equal i j = equal x y

still_there : {X Y : Type 0} (f : X → Y) (o : Option X) → is_some o ≡ true → is_some (option_map f o) ≡ true
still_there f None i = i
still_there f (Some x) i = i

no_items : {X : Type 0} (xs : List X) → (length xs == 0) ≡ true → xs ≡ []
no_items [] e = refl
no_items (x ∷ xs) e = absurd (false≢true (sym (ne_eqb (length (x ∷ xs)) 0 (λ (z : length (x ∷ xs) ≡ 0). omega (arith, z))) ∙ e))

records_tie : (kind : Kind) (c : Content) (a b : ℕ) → has (numbers_of kind c) a ≡ true → has (numbers_of kind c) b ≡ true → records_cmp kind [] c a b ≡ Equal
records_tie OfMailboxes c a b i j =
    both_there (mailboxes_cmp []) (mailbox_at c a) (mailbox_at c b) (λ x y. refl)
    (sym (has_numbers mailbox_number c.mailboxes a) ∙ i) (sym (has_numbers mailbox_number c.mailboxes b) ∙ j)
records_tie OfEmails c a b i j =
    both_there (emails_cmp []) (email_in_thread_at c.emails a) (email_in_thread_at c.emails b) (λ x y. refl)
    (still_there (email_in_thread c.emails) (email_at c a) (sym (has_numbers email_number c.emails a) ∙ i))
    (still_there (email_in_thread c.emails) (email_at c b) (sym (has_numbers email_number c.emails b) ∙ j))
records_tie OfThreads c a b i j = refl

not_below : (a b : ℕ) → a < b → is_lt (nat_cmp b a) ≡ false
not_below a b less = let k : ltb b a ≡ false = grind (arith, nat_tests, less) in let j : eqb b a ≡ false = ne_eqb b a (λ e. omega (arith, e, less)) in rw (k, j) refl

-- without a comparator the numbers of records are sorted as they are
pub by_number_sorted : (kind : Kind) (t : Tree) (c : Content) (keep : ℕ → Bool) → IsTable mailbox_number c.mailboxes → IsTable email_number c.emails → is_by_number kind t ≡ true
    → IsSortedBy (λ a b. is_lt (numbers_cmp kind t c a b)) (filter keep (numbers_of kind c))
by_number_sorted kind t c keep m e none i n le lt =
    let ns = filter keep (numbers_of kind c) in
    let a : ℕ = get_or ns i n in
    let b : ℕ = get_or ns (i + 1) n in
    let there : (k : ℕ) → k < length ns → has (numbers_of kind c) (get_or ns k n) ≡ true = λ k below.
    (and_parts (keep (get_or ns k n)) (has (numbers_of kind c) (get_or ns k n))
    (sym (has-filter keep (numbers_of kind c) (get_or ns k n)) ∙ list_any_at (λ x. eqb x (get_or ns k n)) ns k n below (eq-eqb (get_or ns k n) (get_or ns k n) refl))).1 in
    let less : a < b = AllPairs-from_increasing ns (IsStrictlyIncreasing-filter keep (numbers_of kind c) (numbers_rise kind c m e)) i (i + 1) n (omega arith) lt in
    ap (λ cs. is_lt (ordering_then (records_cmp kind cs c b a) (nat_cmp b a))) (no_items (comparators_of kind t) none)
    ∙ (ap (λ r. is_lt (ordering_then r (nat_cmp b a))) (records_tie kind c b a (there (i + 1) lt) (there i (omega arith))) ∙ not_below a b less)
