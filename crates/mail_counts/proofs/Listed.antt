-- The emails of a thread in order are all of them, and rise.
use Rattle.std.proofs.Common.{◌≡◌, ℕ, ◌+◌, ◌<◌, ◌≤◌, Bool, true, false, cond, eqb, List, [], ◌∷◌, ◌++◌, map, filter, length, Some, refl, sym, ap, ◌∙◌, subst, arith, ⊎_elim, IsPermutation}
use Rattle.std.specs.List.{AllByRecursion}
use Rattle.std.specs.List.Sorted.{IsStrictlySortedBy}
use Rattle.std.specs.declared.cmp.Ordering.{Ordering}
use Rattle.std.specs.declared.cmp.Ordering.TheVariants.{Less, Equal, Greater}
use Rattle.std.specs.Ordering.{is_eq, match_ordering, ordering_then, nat_cmp, int_cmp}
use Rattle.std.specs.Cmp.{IsTotalOrder, then_total, on_total, nat_cmp_total, int_cmp_total}
use Rattle.std.proofs.lemmas.Bool.{cases_Bool, true≢false}
use Rattle.std.proofs.lemmas.List.{length-map}
use Rattle.std.proofs.lemmas.List.Sorted.{IsPermutation-refl, IsPermutation-cons, IsPermutation-trans, IsPermutation-middle}
use Rattle.mail_records.specs.Contents.{email_number}
use Rattle.mail_records.specs.OrderSteps.{put_in}
use Rattle.mail_records.specs.Tables.{IsTable, lookup}
use Rattle.mail_records.specs.declared.records.Email.{Email}
use Rattle.mail_records.proofs.KeyTables.{nat_equal}
use Rattle.mail_counts.specs.Tidy.{by_received}
use Rattle.mail_counts.specs.Touched.{in_order, list_of_thread, sorted_once}
use Rattle.mail_counts.proofs.Groups.{received_then}
use Rattle.mail_counts.proofs.Sorted.{all_sorted, rise-sorted_once}

abbrev then_received : Email → Email → Ordering
then_received a b = ordering_then (int_cmp a.received.seconds b.received.seconds) (nat_cmp a.number b.number)

same_order : then_received ≡ by_received
same_order i a b = received_then (int_cmp a.received.seconds b.received.seconds) (nat_cmp a.number b.number) i

received_total : IsTotalOrder by_received
received_total =
    subst IsTotalOrder same_order
    (then_total (on_total (λ (e : Email). e.received.seconds) int_cmp_total) (on_total (λ (e : Email). e.number) nat_cmp_total))

pub in_order_rises : (es : List Email) → IsStrictlySortedBy by_received (in_order es)
in_order_rises es = rise-sorted_once received_total es

-- emails that tie are of one number
tied_number : (a b : Email) → by_received a b ≡ Equal → a.number ≡ b.number
tied_number a b e = by (int_cmp a.received.seconds b.received.seconds) e
  where
    by : (r : Ordering) → match_ordering r Less (nat_cmp a.number b.number) Greater ≡ Equal → a.number ≡ b.number
    by Less h = absurd (true≢false (sym (ap is_eq h)))
    by Equal h = nat_equal a.number b.number (ap is_eq h)
    by Greater h = absurd (true≢false (sym (ap is_eq h)))

put_moves : (e : Email) (xs : List Email) → AllByRecursion (λ (x : Email). e.number < x.number) xs → IsPermutation (e ∷ xs) (put_in by_received e xs)
put_moves e [] all = IsPermutation-refl (e ∷ [])
put_moves e (x ∷ xs) all = step (by_received x e) refl (put_moves e xs all.1)
  where
    step : (r : Ordering) → by_received x e ≡ r → IsPermutation (e ∷ xs) (put_in by_received e xs)
        → IsPermutation (e ∷ x ∷ xs) (match_ordering r (x ∷ put_in by_received e xs) (x ∷ xs) (e ∷ x ∷ xs))
    step Less h rec =
        IsPermutation-trans (e ∷ x ∷ xs) (x ∷ e ∷ xs) (x ∷ put_in by_received e xs) (IsPermutation-middle (e ∷ []) x xs)
        (IsPermutation-cons x (e ∷ xs) (put_in by_received e xs) rec)
    step Equal h rec = let same = tied_number x e h in let lt : e.number < x.number = all.0 in absurd (omega arith)
    step Greater h rec = IsPermutation-refl (e ∷ x ∷ xs)

pub in_order_moves : (es : List Email) → IsTable email_number es → IsPermutation es (in_order es)
in_order_moves [] table = IsPermutation-refl []
in_order_moves (e ∷ es) table =
    IsPermutation-trans (e ∷ es) (e ∷ in_order es) (put_in by_received e (in_order es))
    (IsPermutation-cons e es (in_order es) (in_order_moves es table.1))
    (put_moves e (in_order es) (all_sorted by_received (λ (x : Email). e.number < x.number) es table.0))

put_some : (e : Email) (xs : List Email) → 1 ≤ length (put_in by_received e xs)
put_some e [] = omega arith
put_some e (x ∷ xs) = step (by_received x e)
  where
    step : (r : Ordering) → 1 ≤ length (match_ordering r (x ∷ put_in by_received e xs) (x ∷ xs) (e ∷ x ∷ xs))
    step Less = omega arith
    step Equal = omega arith
    step Greater = omega arith

pub in_order_some : (es : List Email) → 1 ≤ length es → 1 ≤ length (in_order es)
in_order_some [] le = absurd (omega arith)
in_order_some (e ∷ es) le = put_some e (in_order es)

-- an email of the thread is listed
pub kept_some : (p : Email → Bool) (rows : List Email) (x : Email) → lookup email_number x.number rows ≡ Some x → p x ≡ true → 1 ≤ length (filter p rows)
kept_some p [] x there pass = absurd (cc)
kept_some p (r ∷ rs) x there pass =
    ⊎_elim
    (λ (t : p r ≡ true). rw t (omega arith))
    (λ (t : p r ≡ false).
    rw t
    (⊎_elim
    (λ (s : eqb r.number x.number ≡ true).
    let same : r ≡ x = some_same r x (subst (λ b. cond b (Some r) (lookup email_number x.number rs) ≡ Some x) s there) in
    absurd (true≢false (sym pass ∙ (ap p (sym same) ∙ t))))
    (λ (s : eqb r.number x.number ≡ false). kept_some p rs x (subst (λ b. cond b (Some r) (lookup email_number x.number rs) ≡ Some x) s there) pass)
    (cases_Bool (eqb r.number x.number))))
    (cases_Bool (p r))
  where
    some_same : (a b : Email) → Some a ≡ Some b → a ≡ b
    some_same a b e = cc

-- the list of a thread that has an email
pub list_some : (emails : List Email) (t : ℕ) (x : Email) → lookup email_number x.number emails ≡ Some x → eqb x.thread t ≡ true → 1 ≤ length (list_of_thread emails t)
list_some emails t x there of =
    let own : List Email = filter (λ (e : Email). eqb e.thread t) emails in
    let some = in_order_some own (kept_some (λ (e : Email). eqb e.thread t) emails x there of) in
    let same : length (list_of_thread emails t) ≡ length (in_order own) = length-map (in_order own) email_number in
    omega arith
