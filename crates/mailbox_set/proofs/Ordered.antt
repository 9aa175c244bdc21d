-- What the orders of a content find: the mailboxes with a parent, and the emails in a mailbox.
use Rattle.std.proofs.Common.{◌≡◌, ℕ, suc, ◌==◌, ◌<◌, Bool, true, false, ◌&&◌, ◌||◌, eqb, ltb, List, [], ◌∷◌, filter, map, length, not, Option, Some, None, refl, sym, ap, ap₂, ◌∙◌, subst, arith, ⊎_elim, eq-eqb, ne_eqb, le-ltb}
use Rattle.std.specs.List.{AllByRecursion, list_any}
use Rattle.std.specs.Ordering.{is_eq, nat_cmp}
use Rattle.std.specs.Option.{option_cmp}
use Rattle.std.specs.Cmp.{nat_cmp_total, tied_itself}
use Rattle.std.specs.Cmp.Lexicographic.{options_total}
use Rattle.std.proofs.lemmas.Bool.{cases_Bool, eqb-true, or_cases, true≢false}
use Rattle.std.proofs.lemmas.Option.{same_Some}
use Rattle.mail_records.specs.Contents.{Content, email_number, mailbox_number}
use Rattle.mail_records.specs.Laws.{named_number}
use Rattle.mail_records.specs.OrderSteps.{put_in}
use Rattle.mail_records.specs.Orders.{AreChildren, AreInMailbox, AreKeys, Key, has_in, has_key, is_in_group, key_cmp, keys_of, mailbox_keys, name_key, name_keys, named_key, named_owner, placed_key, placed_key_of, placed_owner}
use Rattle.mail_records.specs.Tables.{IsTable, lookup}
use Rattle.mail_records.specs.declared.entries.Named.{Named}
use Rattle.mail_records.specs.declared.entries.Placed.{Placed}
use Rattle.mail_records.specs.declared.records.Email.{Email}
use Rattle.mail_records.specs.declared.records.Mailbox.{Mailbox}
use Rattle.mail_records.proofs.KeyOrder.{key_total}
use Rattle.mail_records.proofs.KeyTables.{nat_equal}
use Rattle.mail_records.proofs.Unique.{key_equal}
use Rattle.mail_counts.specs.Counts.{is_in}
use Rattle.mail_counts.specs.Tidy.{same_parent}
use Rattle.mail_counts.specs.Touched.{is_one_of, rising}
use Rattle.mail_counts.proofs.Groups.{table_kept}
use Rattle.mail_counts.proofs.Sorted.{rising-same}
use Rattle.mailbox_updates.proofs.Present.{and_left, and_right, both, either, or_left, or_right, row_passes, some_row}

-- ---- keys

itself : (k : Key) → is_eq (key_cmp k k) ≡ true
itself k = ap is_eq (tied_itself key_total k)

some_key : (pass : ℕ → Bool) (ks : List Key) → list_any (λ (k : Key). pass k.number) ks ≡ true → (k : Key) × (pass k.number ≡ true) × (has_key k ks ≡ true)
some_key pass [] e = absurd (true≢false (sym e))
some_key pass (x ∷ ks) e =
    ⊎_elim
    (λ (t : pass x.number ≡ true). (x, t, or_left (is_eq (key_cmp x x)) (has_key x ks) (itself x)))
    (λ (t : list_any (λ (k : Key). pass k.number) ks ≡ true).
    let rest = some_key pass ks t in (rest.0, rest.1, or_right (is_eq (key_cmp x rest.0)) (has_key rest.0 ks) rest.2))
    (or_cases (pass x.number) (list_any (λ (k : Key). pass k.number) ks) e)

key_passes : (pass : ℕ → Bool) (k : Key) (ks : List Key) → has_key k ks ≡ true → pass k.number ≡ true → list_any (λ (k : Key). pass k.number) ks ≡ true
key_passes pass k [] e p = absurd (true≢false (sym e))
key_passes pass k (x ∷ ks) e p =
    ⊎_elim
    (λ (t : is_eq (key_cmp x k) ≡ true).
    or_left (pass x.number) (list_any (λ (k : Key). pass k.number) ks) (ap (λ (y : Key). pass y.number) (key_equal x k t) ∙ p))
    (λ (t : has_key k ks ≡ true). or_right (pass x.number) (list_any (λ (k : Key). pass k.number) ks) (key_passes pass k ks t p))
    (or_cases (is_eq (key_cmp x k)) (has_key k ks) e)

found_in : {R : Type 0} (keys : R → List Key) (k : Key) (o : Option R) → has_in keys k o ≡ true → (m : R) × (o ≡ Some m) × (has_key k (keys m) ≡ true)
found_in keys k None e = absurd (true≢false (sym e))
found_in keys k (Some m) e = (m, refl, e)

-- exact keys find the records that pass
looked_up : {R : Type 0} (number : R → ℕ) (pass : ℕ → Bool) (test : Key → Bool) (keys : R → List Key) (passes : R → Bool) (rows : List R) (ks : List Key)
    → AreKeys test number keys rows ks → IsTable number rows
    → ((m : R) (k : Key) → has_key k (keys m) ≡ true → k.number ≡ number m)
    → ((m : R) (k : Key) → test k ≡ true → has_key k (keys m) ≡ true → passes m ≡ true)
    → ((m : R) → passes m ≡ true → (k : Key) × (test k ≡ true) × (has_key k (keys m) ≡ true))
    → list_any (λ (k : Key). pass k.number) ks ≡ list_any (λ m. pass (number m) && passes m) rows
looked_up number pass test keys passes rows ks exact table of to from =
    either (list_any (λ (k : Key). pass k.number) ks) (list_any (λ m. pass (number m) && passes m) rows)
    (λ e.
    let one = some_key pass ks e in
    let k : Key = one.0 in
    let held : (test k && has_in keys k (lookup number k.number rows)) ≡ true = sym (exact.exactly k) ∙ one.2 in
    let found = found_in keys k (lookup number k.number rows) (and_right (test k) (has_in keys k (lookup number k.number rows)) held) in
    let m = found.0 in
    let same : k.number ≡ number m = of m k found.2 in
    row_passes number (λ m. pass (number m) && passes m) k.number rows m found.1
    (both (pass (number m)) (passes m) (ap pass (sym same) ∙ one.1) (to m k (and_left (test k) (has_in keys k (lookup number k.number rows)) held) found.2)))
    (λ e.
    let one = some_row number (λ m. pass (number m) && passes m) rows table e in
    let m = one.0 in
    let key = from m (and_right (pass (number m)) (passes m) one.1) in
    let k : Key = key.0 in
    let same : k.number ≡ number m = of m k key.2 in
    let held : has_in keys k (lookup number k.number rows) ≡ true = ap (has_in keys k) (ap (λ n. lookup number n rows) same ∙ one.2) ∙ key.2 in
    key_passes pass k ks (exact.exactly k ∙ both (test k) (has_in keys k (lookup number k.number rows)) key.1 held)
    (ap pass same ∙ and_left (pass (number m)) (passes m) one.1))

group_equal : (a b : Option ℕ) → is_eq (option_cmp nat_cmp a b) ≡ true → a ≡ b
group_equal None None e = refl
group_equal None (Some y) e = absurd (true≢false (sym e))
group_equal (Some x) None e = absurd (true≢false (sym e))
group_equal (Some x) (Some y) e = ap Some (nat_equal x y e)

same_group : (g h : Option ℕ) → g ≡ h → is_eq (option_cmp nat_cmp g h) ≡ true
same_group g h e = subst (λ x. is_eq (option_cmp nat_cmp g x) ≡ true) e (ap is_eq (tied_itself (options_total nat_cmp_total) g))

parents_same : (g h : Option ℕ) → same_parent g h ≡ true → g ≡ h
parents_same None None e = refl
parents_same None (Some y) e = absurd (true≢false (sym e))
parents_same (Some x) None e = absurd (true≢false (sym e))
parents_same (Some x) (Some y) e = ap Some (eqb-true x y e)

parents_tested : (g h : Option ℕ) → g ≡ h → same_parent g h ≡ true
parents_tested None h e = subst (λ x. same_parent None x ≡ true) e refl
parents_tested (Some x) h e = subst (λ z. same_parent (Some x) z ≡ true) e (eq-eqb x x refl)

one_key : (x k : Key) → has_key k (x ∷ []) ≡ true → x ≡ k
one_key x k e =
    ⊎_elim
    (λ (t : is_eq (key_cmp x k) ≡ true). key_equal x k t)
    (λ (t : has_key k [] ≡ true). absurd (true≢false (sym t)))
    (or_cases (is_eq (key_cmp x k)) (has_key k []) e)

-- ---- children

any_named : (pass : ℕ → Bool) (rows : List Mailbox) (ns : List Named) → list_any (λ (k : Key). pass k.number) (keys_of mailbox_number named_owner named_key rows ns) ≡ list_any (λ (n : Named). pass n.mailbox) ns
any_named pass rows [] = refl
any_named pass rows (n ∷ ns) =
    ap₂ (λ (a b : Bool). a || b) (ap pass (named_number (lookup mailbox_number n.mailbox rows) n)) (any_named pass rows ns)

child_to : (parent : Option ℕ) (m : Mailbox) (k : Key) → is_in_group parent k ≡ true → has_key k (name_keys m) ≡ true → same_parent m.parent parent ≡ true
child_to parent m k t e =
    let one : name_key m ≡ k = one_key (name_key m) k e in
    parents_tested m.parent parent (ap (λ (x : Key). x.group) one ∙ group_equal k.group parent t)

child_from : (parent : Option ℕ) (m : Mailbox) → same_parent m.parent parent ≡ true → (k : Key) × (is_in_group parent k ≡ true) × (has_key k (name_keys m) ≡ true)
child_from parent m e = (
  name_key m,
  same_group m.parent parent (parents_same m.parent parent e),
  or_left (is_eq (key_cmp (name_key m) (name_key m))) (has_key (name_key m) []) (itself (name_key m)),
)

-- some mailbox with this parent passes
pub children_found : (pass : ℕ → Bool) (c : Content) (parent : Option ℕ) (ns : List Named) → AreChildren c parent ns → IsTable mailbox_number c.mailboxes
    → list_any (λ (n : Named). pass n.mailbox) ns ≡ list_any (λ (m : Mailbox). pass m.number && same_parent m.parent parent) c.mailboxes
children_found pass c parent ns exact table =
    sym (any_named pass c.mailboxes ns)
    ∙ looked_up mailbox_number pass (is_in_group parent) name_keys (λ (m : Mailbox). same_parent m.parent parent) c.mailboxes (keys_of mailbox_number named_owner named_key c.mailboxes ns) exact table
    (λ m k e. ap (λ (x : Key). x.number) (sym (one_key (name_key m) k e))) (child_to parent) (child_from parent)

-- ---- the emails in a mailbox

any_placed : (pass : ℕ → Bool) (rows : List Email) (ps : List Placed) → list_any (λ (k : Key). pass k.number) (keys_of email_number placed_owner placed_key rows ps) ≡ list_any pass (map placed_owner ps)
any_placed pass rows [] = refl
any_placed pass rows (p ∷ ps) = ap (λ b. pass p.email || b) (any_placed pass rows ps)

placed_number : (e : Email) (ms : List ℕ) (k : Key) → has_key k (map (placed_key_of e) ms) ≡ true → k.number ≡ e.number
placed_number e [] k h = absurd (true≢false (sym h))
placed_number e (m ∷ ms) k h =
    ⊎_elim
    (λ (t : is_eq (key_cmp (placed_key_of e m) k) ≡ true). ap (λ (x : Key). x.number) (sym (key_equal (placed_key_of e m) k t)))
    (λ (t : has_key k (map (placed_key_of e) ms) ≡ true). placed_number e ms k t)
    (or_cases (is_eq (key_cmp (placed_key_of e m) k)) (has_key k (map (placed_key_of e) ms)) h)

placed_to : (n : ℕ) (e : Email) (ms : List ℕ) (k : Key) → is_in_group (Some n) k ≡ true → has_key k (map (placed_key_of e) ms) ≡ true → list_any (λ m. eqb m n) ms ≡ true
placed_to n e [] k t h = absurd (true≢false (sym h))
placed_to n e (m ∷ ms) k t h =
    ⊎_elim
    (λ (is : is_eq (key_cmp (placed_key_of e m) k) ≡ true).
    let group : Some m ≡ Some n = ap (λ (x : Key). x.group) (key_equal (placed_key_of e m) k is) ∙ group_equal k.group (Some n) t in
    or_left (eqb m n) (list_any (λ m. eqb m n) ms) (eq-eqb m n (same_Some m n group)))
    (λ (later : has_key k (map (placed_key_of e) ms) ≡ true). or_right (eqb m n) (list_any (λ m. eqb m n) ms) (placed_to n e ms k t later))
    (or_cases (is_eq (key_cmp (placed_key_of e m) k)) (has_key k (map (placed_key_of e) ms)) h)

placed_from : (n : ℕ) (e : Email) (ms : List ℕ) → list_any (λ m. eqb m n) ms ≡ true → has_key (placed_key_of e n) (map (placed_key_of e) ms) ≡ true
placed_from n e [] h = absurd (true≢false (sym h))
placed_from n e (m ∷ ms) h =
    let k = placed_key_of e n in
    ⊎_elim
    (λ (same : eqb m n ≡ true).
    or_left (is_eq (key_cmp (placed_key_of e m) k)) (has_key k (map (placed_key_of e) ms)) (subst (λ (x : ℕ). is_eq (key_cmp (placed_key_of e m) (placed_key_of e x)) ≡ true) (eqb-true m n same) (itself (placed_key_of e m))))
    (λ (later : list_any (λ m. eqb m n) ms ≡ true). or_right (is_eq (key_cmp (placed_key_of e m) k)) (has_key k (map (placed_key_of e) ms)) (placed_from n e ms later))
    (or_cases (eqb m n) (list_any (λ m. eqb m n) ms) h)

-- some email in the mailbox passes
placed_found : (pass : ℕ → Bool) (c : Content) (n : ℕ) (ps : List Placed) → AreInMailbox c n ps → IsTable email_number c.emails
    → list_any pass (map placed_owner ps) ≡ list_any (λ (e : Email). pass e.number && is_in n e) c.emails
placed_found pass c n ps exact table =
    sym (any_placed pass c.emails ps)
    ∙ looked_up email_number pass (is_in_group (Some n)) mailbox_keys (is_in n) c.emails (keys_of email_number placed_owner placed_key c.emails ps) exact table
    (λ e k h. placed_number e e.mailboxes k h)
    (λ e k t h. placed_to n e e.mailboxes k t h)
    (λ e h. (placed_key_of e n, same_group (Some n) (Some n) refl, placed_from n e e.mailboxes h))

always : (xs : List ℕ) → list_any (λ (x : ℕ). true) xs ≡ not (length xs == 0)
always [] = refl
always (x ∷ xs) = sym (ap not (ne_eqb (length (x ∷ xs)) 0 (λ e. omega (arith, e))))

length_owners : (ps : List Placed) → length (map placed_owner ps) ≡ length ps
length_owners [] = refl
length_owners (p ∷ ps) = ap suc (length_owners ps)

-- whether there is one
pub some_placed : (c : Content) (n : ℕ) (ps : List Placed) → AreInMailbox c n ps → IsTable email_number c.emails → not (length ps == 0) ≡ list_any (is_in n) c.emails
some_placed c n ps exact table =
    ap (λ k. not (k == 0)) (sym (length_owners ps))
    ∙ (sym (always (map placed_owner ps)) ∙ placed_found (λ (x : ℕ). true) c n ps exact table)

numbers_kept : (p : Email → Bool) (k : ℕ) (es : List Email) → is_one_of (map email_number (filter p es)) k ≡ list_any (λ (e : Email). eqb e.number k && p e) es
numbers_kept p k [] = refl
numbers_kept p k (e ∷ es) =
    ⊎_elim
    (λ (kept : p e ≡ true). rw kept (ap₂ (λ (a b : Bool). a || b) (sym (and_true (eqb e.number k))) (numbers_kept p k es)))
    (λ (gone : p e ≡ false). rw gone (numbers_kept p k es ∙ ap (λ b. b || list_any (λ (e : Email). eqb e.number k && p e) es) (sym (and_false (eqb e.number k)))))
    (cases_Bool (p e))
  where
    and_true : (b : Bool) → (b && true) ≡ b
    and_true true = refl
    and_true false = refl

    and_false : (b : Bool) → (b && false) ≡ false
    and_false true = refl
    and_false false = refl

-- the numbers of a table rise
rising_table : (es : List Email) → IsTable email_number es → rising (map email_number es) ≡ map email_number es
rising_table [] table = refl
rising_table (e ∷ es) table = ap (put_in nat_cmp e.number) (rising_table es table.1) ∙ first es table.0
  where
    first : (xs : List Email) → AllByRecursion (λ (x : Email). e.number < x.number) xs → put_in nat_cmp e.number (map email_number xs) ≡ e.number ∷ map email_number xs
    first [] all = refl
    first (x ∷ xs) all =
        let more : e.number < x.number = all.0 in
        let low : ltb x.number e.number ≡ false = le-ltb x.number e.number (omega (arith, more)) in
        let other : eqb x.number e.number ≡ false = ne_eqb x.number e.number (λ (same : x.number ≡ e.number). omega (arith, same, more)) in
        rw (low, other) refl

-- the numbers of the emails in a mailbox, sorted, are those of a pass over all emails
pub placed_numbers : (c : Content) (n : ℕ) (ps : List Placed) → AreInMailbox c n ps → IsTable email_number c.emails → rising (map placed_owner ps) ≡ map email_number (filter (is_in n) c.emails)
placed_numbers c n ps exact table =
    rising-same (map placed_owner ps) (map email_number (filter (is_in n) c.emails))
    (λ (k : ℕ). placed_found (λ (x : ℕ). eqb x k) c n ps exact table ∙ sym (numbers_kept (is_in n) k c.emails))
    ∙ rising_table (filter (is_in n) c.emails) (table_kept (is_in n) c.emails table)
