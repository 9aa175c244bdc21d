-- Members of groups, and how many of them a mailbox has: its counts.
use Rattle.std.proofs.Common.{◌≡◌, ℕ, pos, ◌+◌, ◌<◌, ◌≤◌, Bool, true, false, ◌||◌, ◌&&◌, not, cond, eqb, List, [], ◌∷◌, ◌++◌, map, filter, length, refl, sym, ap, ap₂, ◌∙◌, subst, arith, ⊎_elim, IsPermutation, eqb-true, ne_eqb}
use Rattle.std.specs.List.{AllByRecursion, list_any}
use Rattle.std.specs.List.Sorted.{IsStrictlySortedBy}
use Rattle.std.specs.declared.cmp.Ordering.{Ordering}
use Rattle.std.specs.declared.cmp.Ordering.TheVariants.{Less, Equal, Greater}
use Rattle.std.specs.Ordering.{is_eq, eq_by_cmp, int_eq, match_ordering, ordering_then, nat_cmp, int_cmp}
use Rattle.std.specs.Cmp.{IsTotalOrder, then_total, on_total, nat_cmp_total, int_cmp_total, tied_itself, signed_Decides, unsigned_tied}
use Rattle.std.proofs.lemmas.Bool.{cases_Bool, true≢false}
use Rattle.std.proofs.lemmas.List.{length-map}
use Rattle.std.proofs.lemmas.List.Sorted.{list_any-IsPermutation}
use Rattle.mail_records.specs.Contents.{email_number}
use Rattle.mail_records.specs.Tables.{IsTable}
use Rattle.mail_records.specs.declared.records.Email.{Email}
use Rattle.mail_records.proofs.KeyTables.{then_first, then_second, nat_equal}
use Rattle.mail_records.proofs.Tables.{All-kept}
use Rattle.mail_counts.specs.Counts.{each_once, email_thread, emails_in, is_in, is_unread, is_unread_thread, threads_in}
use Rattle.mail_counts.specs.DerivedEdits.{counts_over}
use Rattle.mail_counts.specs.Members.{Tallied, is_of_group, mailbox_member, mailbox_members, member_cmp, member_number, of_group, tallied_counts, thread_member, thread_members}
use Rattle.mail_counts.specs.Tidy.{by_received}
use Rattle.mail_counts.specs.Touched.{emails_of, in_order, is_one_of, list_of_thread, rising, sorted_once}
use Rattle.mail_counts.specs.declared.members.Member.{Member}
use Rattle.mail_counts.proofs.Sorted.{is_one_of-rising, length-rising, map-sorted_once, rising-same, sorted_once-filter, sorted_once-is}

-- ---- the order of members

pub member_total : IsTotalOrder member_cmp
member_total =
    then_total (on_total (λ (m : Member). m.group) nat_cmp_total)
    (then_total (on_total (λ (m : Member). m.received) int_cmp_total) (on_total (λ (m : Member). m.number) nat_cmp_total))

-- equal members are one
pub member_equal : (a b : Member) → is_eq (member_cmp a b) ≡ true → a ≡ b
member_equal a b e =
    let numbers = nat_cmp a.number b.number in
    let times = ordering_then (int_cmp a.received b.received) numbers in
    let after_group = then_second (nat_cmp a.group b.group) times e in
    let group = nat_equal a.group b.group (then_first (nat_cmp a.group b.group) times e) in
    let time = (signed_Decides a.received b.received).0 (then_first (int_cmp a.received b.received) numbers after_group) in
    let number = nat_equal a.number b.number (then_second (int_cmp a.received b.received) numbers after_group) in
    λ i. record { group = group i; received = time i; number = number i }

-- the fields are the same
abbrev pub member_eq : Member → Member → Bool
member_eq a b = eqb a.group b.group && (int_eq a.received b.received && eqb a.number b.number)

then_is_eq : (r s : Ordering) → is_eq (ordering_then r s) ≡ (is_eq r && is_eq s)
then_is_eq Less s = refl
then_is_eq Equal s = refl
then_is_eq Greater s = refl

pub member_ties : (a b : Member) → member_eq a b ≡ eq_by_cmp member_cmp a b
member_ties a b =
    let numbers = nat_cmp a.number b.number in
    let times = int_cmp a.received b.received in
    sym (then_is_eq (nat_cmp a.group b.group) (ordering_then times numbers)
    ∙ ap₂ (λ x y. x && y) (unsigned_tied a.group b.group) (then_is_eq times numbers ∙ ap (λ x. is_eq times && x) (unsigned_tied a.number b.number)))

-- ---- filters

pub filter-map : {A B : Type 0} (p : B → Bool) (f : A → B) (xs : List A) → filter p (map f xs) ≡ map f (filter (λ x. p (f x)) xs)
filter-map p f [] = refl
filter-map p f (x ∷ xs) =
    ⊎_elim
    (λ (t : p (f x) ≡ true). rw t (ap (λ zs. f x ∷ zs) (filter-map p f xs)))
    (λ (t : p (f x) ≡ false). rw t (filter-map p f xs))
    (cases_Bool (p (f x)))

pub filter_append : {A : Type 0} (p : A → Bool) (xs ys : List A) → filter p (xs ++ ys) ≡ filter p xs ++ filter p ys
filter_append p [] ys = refl
filter_append p (x ∷ xs) ys =
    ⊎_elim
    (λ (t : p x ≡ true). rw t (ap (λ zs. x ∷ zs) (filter_append p xs ys)))
    (λ (t : p x ≡ false). rw t (filter_append p xs ys))
    (cases_Bool (p x))

pub filter_swap : {A : Type 0} (p q : A → Bool) (xs : List A) → filter p (filter q xs) ≡ filter q (filter p xs)
filter_swap p q [] = refl
filter_swap p q (x ∷ xs) =
    ⊎_elim
    (λ (t : p x ≡ true).
    ⊎_elim
    (λ (s : q x ≡ true). rw s (rw t (rw s (ap (λ zs. x ∷ zs) (filter_swap p q xs)))))
    (λ (s : q x ≡ false). rw s (rw t (rw s (filter_swap p q xs))))
    (cases_Bool (q x)))
    (λ (t : p x ≡ false).
    ⊎_elim
    (λ (s : q x ≡ true). rw s (rw t (filter_swap p q xs)))
    (λ (s : q x ≡ false). rw s (rw t (filter_swap p q xs)))
    (cases_Bool (q x)))
    (cases_Bool (p x))

pub filter_alike : {A : Type 0} (p q : A → Bool) → ((x : A) → p x ≡ q x) → (xs : List A) → filter p xs ≡ filter q xs
filter_alike p q same [] = refl
filter_alike p q same (x ∷ xs) = ap₂ (λ b zs. cond b (x ∷ zs) zs) (same x) (filter_alike p q same xs)

-- what passes p passes q already
pub filter_within : {A : Type 0} (p q : A → Bool) → ((x : A) → p x ≡ true → q x ≡ true) → (xs : List A) → filter p (filter q xs) ≡ filter p xs
filter_within p q within [] = refl
filter_within p q within (x ∷ xs) =
    ⊎_elim
    (λ (t : p x ≡ true). let s = within x t in rw s (rw t (ap (λ zs. x ∷ zs) (filter_within p q within xs))))
    (λ (t : p x ≡ false).
    ⊎_elim
    (λ (s : q x ≡ true). rw s (rw t (filter_within p q within xs)))
    (λ (s : q x ≡ false). rw s (rw t (filter_within p q within xs)))
    (cases_Bool (q x)))
    (cases_Bool (p x))

pub map-map : {A B C : Type 0} (f : B → C) (g : A → B) (xs : List A) → map f (map g xs) ≡ map (λ x. f (g x)) xs
map-map f g [] = refl
map-map f g (x ∷ xs) = ap (λ zs. f (g x) ∷ zs) (map-map f g xs)

pub all_passed : {A : Type 0} (p : A → Bool) (xs : List A) → AllByRecursion (λ x. p x ≡ true) (filter p xs)
all_passed p [] = tt
all_passed p (x ∷ xs) =
    ⊎_elim
    (λ (t : p x ≡ true). rw t (t, all_passed p xs))
    (λ (t : p x ≡ false). rw t (all_passed p xs))
    (cases_Bool (p x))

-- ---- the emails of a thread

pub received_then : (r s : Ordering) → ordering_then r s ≡ match_ordering r Less s Greater
received_then Less s = refl
received_then Equal s = refl
received_then Greater s = refl

same_order : (t : ℕ) (a b : Email) → eqb a.thread t ≡ true → eqb b.thread t ≡ true → member_cmp (thread_member a) (thread_member b) ≡ by_received a b
same_order t a b one other =
    let same : a.thread ≡ b.thread = eqb-true a.thread t one ∙ sym (eqb-true b.thread t other) in
    let tied : nat_cmp a.thread b.thread ≡ Equal = subst (λ k. nat_cmp a.thread k ≡ Equal) same (tied_itself nat_cmp_total a.thread) in
    ap (λ r. ordering_then r (ordering_then (int_cmp a.received.seconds b.received.seconds) (nat_cmp a.number b.number))) tied
    ∙ received_then (int_cmp a.received.seconds b.received.seconds) (nat_cmp a.number b.number)

-- the group of a thread among the sorted members of its emails is what the thread lists
pub group-list : (t : ℕ) (emails inside : List Email) → filter (λ (e : Email). eqb e.thread t) inside ≡ filter (λ (e : Email). eqb e.thread t) emails
    → map member_number (of_group t (sorted_once member_cmp (thread_members inside))) ≡ list_of_thread emails t
group-list t emails inside same =
    let own : Email → Bool = λ e. eqb e.thread t in
    ap (map member_number)
    (sorted_once-filter member_total member_equal (is_of_group t) (thread_members inside)
    ∙ (ap (sorted_once member_cmp) (filter-map (is_of_group t) thread_member inside ∙ ap (map thread_member) same)
    ∙ sym (map-sorted_once by_received member_cmp thread_member (λ e. own e ≡ true) (λ a b p q. same_order t a b p q) (filter own emails) (all_passed own emails))))
    ∙ map-map member_number thread_member (in_order (filter own emails))

-- what passes no test passes each test's opposite
all_left : {A : Type 0} (p : A → Bool) (xs : List A) → list_any (λ x. not (p x)) xs ≡ false → AllByRecursion (λ x. p x ≡ true) xs
all_left p [] e = tt
all_left p (x ∷ xs) e = step (p x) refl (all_left p xs)
  where
    step : (b : Bool) → p x ≡ b → (list_any (λ y. not (p y)) xs ≡ false → AllByRecursion (λ y. p y ≡ true) xs) → AllByRecursion (λ y. p y ≡ true) (x ∷ xs)
    step true t rest = (t, rest (subst (λ b. (not b || list_any (λ y. not (p y)) xs) ≡ false) t e))
    step false t rest = absurd (true≢false (subst (λ b. (not b || list_any (λ y. not (p y)) xs) ≡ false) t e))

none_left : {A : Type 0} (p : A → Bool) (xs : List A) → AllByRecursion (λ x. p x ≡ true) xs → list_any (λ x. not (p x)) xs ≡ false
none_left p [] all = refl
none_left p (x ∷ xs) all = ap (λ b. not b || list_any (λ x. not (p x)) xs) all.0 ∙ none_left p xs all.1

any_mapped : {A B : Type 0} (p : B → Bool) (f : A → B) (xs : List A) → list_any p (map f xs) ≡ list_any (λ x. p (f x)) xs
any_mapped p f [] = refl
any_mapped p f (x ∷ xs) = ap (λ b. p (f x) || b) (any_mapped p f xs)

-- members of one thread rise as their emails do
members_rise : (t : ℕ) (es : List Email) → AllByRecursion (λ (e : Email). eqb e.thread t ≡ true) es → IsStrictlySortedBy by_received es → IsStrictlySortedBy member_cmp (map thread_member es)
unfolding IsStrictlySortedBy
members_rise t [] all rise = tt
members_rise t (e ∷ es) all rise = (above es all.1 rise.0, members_rise t es all.1 rise.1)
  where
    above : (xs : List Email) → AllByRecursion (λ (x : Email). eqb x.thread t ≡ true) xs → AllByRecursion (λ x. by_received e x ≡ Less) xs → AllByRecursion (λ m. member_cmp (thread_member e) m ≡ Less) (map thread_member xs)
    above [] own up = tt
    above (x ∷ xs) own up = (same_order t e x all.0 own.0 ∙ up.0, above xs own.1 up.1)

-- the emails of a thread have one order
pub list-unique : (t : ℕ) (emails listed : List Email) → IsPermutation (filter (λ (e : Email). eqb e.thread t) emails) listed → IsStrictlySortedBy by_received listed
    → map email_number listed ≡ list_of_thread emails t
list-unique t emails listed moved rise =
    let own : Email → Bool = λ e. eqb e.thread t in
    let inside : List Email = filter own emails in
    let all : AllByRecursion (λ e. own e ≡ true) listed =
    all_left own listed (sym (list_any-IsPermutation (λ e. not (own e)) inside listed moved) ∙ none_left own inside (all_passed own emails)) in
    let same : map thread_member listed ≡ map thread_member (in_order inside) =
    sorted_once-is member_total member_equal (map thread_member inside) (map thread_member listed) (members_rise t listed all rise)
    (λ k. any_mapped (λ x. is_eq (member_cmp x k)) thread_member listed
    ∙ (sym (list_any-IsPermutation (λ e. is_eq (member_cmp (thread_member e) k)) inside listed moved) ∙ sym (any_mapped (λ x. is_eq (member_cmp x k)) thread_member inside)))
    ∙ sym (map-sorted_once by_received member_cmp thread_member (λ e. own e ≡ true) (λ a b p q. same_order t a b p q) inside (all_passed own emails)) in
    sym (map-map member_number thread_member listed) ∙ (ap (map member_number) same ∙ map-map member_number thread_member (in_order inside))

-- ---- the members of a mailbox

any_append : (p : ℕ → Bool) (xs ys : List ℕ) → list_any p (xs ++ ys) ≡ (list_any p xs || list_any p ys)
any_append p [] ys = refl
any_append p (x ∷ xs) ys = ap (λ b. p x || b) (any_append p xs ys) ∙ grouped (p x) (list_any p xs) (list_any p ys)
  where
    grouped : (a b c : Bool) → (a || (b || c)) ≡ ((a || b) || c)
    grouped true b c = refl
    grouped false b c = refl

map-append : {A B : Type 0} (f : A → B) (xs ys : List A) → map f (xs ++ ys) ≡ map f xs ++ map f ys
map-append f [] ys = refl
map-append f (x ∷ xs) ys = ap (λ zs. f x ∷ zs) (map-append f xs ys)

abbrev in_group : ℕ → List Member → List ℕ
in_group m members = map member_number (of_group m members)

one_email : (m n k : ℕ) (mailboxes : List ℕ) → is_one_of (in_group m (map (mailbox_member k) mailboxes)) n ≡ (list_any (λ x. eqb x m) mailboxes && eqb k n)
one_email m n k [] = refl
one_email m n k (x ∷ xs) =
    ⊎_elim
    (λ (t : eqb x m ≡ true). rw t (ap (λ b. eqb k n || b) (one_email m n k xs) ∙ absorbed (eqb k n) (list_any (λ y. eqb y m) xs)))
    (λ (t : eqb x m ≡ false). rw t (one_email m n k xs))
    (cases_Bool (eqb x m))
  where
    absorbed : (a b : Bool) → (a || (b && a)) ≡ a
    absorbed true b = refl
    absorbed false true = refl
    absorbed false false = refl

-- the numbers in the group of a mailbox are those of the emails in it
group_numbers : (key : Email → ℕ) (m n : ℕ) (emails : List Email) → is_one_of (in_group m (mailbox_members key emails)) n ≡ is_one_of (map key (emails_in m emails)) n
group_numbers key m n [] = refl
group_numbers key m n (e ∷ es) =
    let own = map (mailbox_member (key e)) e.mailboxes in
    let rest = mailbox_members key es in
    ap (λ ms. is_one_of (map member_number ms) n) (filter_append (is_of_group m) own rest)
    ∙ (ap (λ ns. is_one_of ns n) (map-append member_number (of_group m own) (of_group m rest))
    ∙ (any_append (λ x. eqb x n) (in_group m own) (in_group m rest)
    ∙ (ap₂ (λ a b. a || b) (one_email m n (key e) e.mailboxes) (group_numbers key m n es) ∙ taken (is_in m e))))
  where
    taken : (b : Bool) → ((b && eqb (key e) n) || is_one_of (map key (emails_in m es)) n) ≡ is_one_of (map key (cond b (e ∷ emails_in m es) (emails_in m es))) n
    taken true = refl
    taken false = refl

all_timeless : (key : Email → ℕ) (emails : List Email) → AllByRecursion (λ (x : Member). x.received ≡ pos 0) (mailbox_members key emails)
all_timeless key [] = tt
all_timeless key (e ∷ es) = more (all_timeless key es) e.mailboxes
  where
    more : AllByRecursion (λ (x : Member). x.received ≡ pos 0) (mailbox_members key es) → (ms : List ℕ)
        → AllByRecursion (λ (x : Member). x.received ≡ pos 0) (map (mailbox_member (key e)) ms ++ mailbox_members key es)
    more rec [] = rec
    more rec (m ∷ ms) = (refl, more rec ms)

-- a member of the group of a mailbox, without a time
record IsPlain (m : ℕ) (x : Member) : Type 0 where
  group : eqb x.group m ≡ true
  received : x.received ≡ pos 0

all_plain : (m : ℕ) (xs : List Member) → AllByRecursion (λ (x : Member). x.received ≡ pos 0) xs → AllByRecursion (IsPlain m) (of_group m xs)
all_plain m [] all = tt
all_plain m (x ∷ xs) all =
    ⊎_elim
    (λ (t : eqb x.group m ≡ true). rw t (record { group = t; received = all.0 }, all_plain m xs all.1))
    (λ (t : eqb x.group m ≡ false). rw t (all_plain m xs all.1))
    (cases_Bool (eqb x.group m))

plain_order : (m : ℕ) (a b : Member) → IsPlain m a → IsPlain m b → nat_cmp a.number b.number ≡ member_cmp a b
plain_order m a b one other =
    let groups : a.group ≡ b.group = eqb-true a.group m one.group ∙ sym (eqb-true b.group m other.group) in
    let times : a.received ≡ b.received = one.received ∙ sym other.received in
    let tied : nat_cmp a.group b.group ≡ Equal = subst (λ k. nat_cmp a.group k ≡ Equal) groups (tied_itself nat_cmp_total a.group) in
    let even : int_cmp a.received b.received ≡ Equal = subst (λ k. int_cmp a.received k ≡ Equal) times (tied_itself int_cmp_total a.received) in
    sym (ap₂ (λ r s. ordering_then r (ordering_then s (nat_cmp a.number b.number))) tied even)

-- the group of a mailbox has as many members as there are emails in it, each `key` counted once
pub group-count : (key : Email → ℕ) (m : ℕ) (emails : List Email)
    → length (of_group m (sorted_once member_cmp (mailbox_members key emails))) ≡ length (each_once (map key (emails_in m emails)))
group-count key m emails =
    let raw = mailbox_members key emails in
    let group = of_group m raw in
    ap length (sorted_once-filter member_total member_equal (is_of_group m) raw)
    ∙ (sym (length-map (sorted_once member_cmp group) member_number)
    ∙ (ap length (map-sorted_once member_cmp nat_cmp member_number (IsPlain m) (λ a b p q. plain_order m a b p q) group (all_plain m raw (all_timeless key emails)))
    ∙ (ap length (rising-same (map member_number group) (map key (emails_in m emails)) (λ n. group_numbers key m n emails))
    ∙ length-rising (map key (emails_in m emails)))))

-- ---- the four counts

none_above : (n : ℕ) (es : List Email) → AllByRecursion (λ (e : Email). n < e.number) es → is_one_of (map email_number es) n ≡ false
none_above n [] all = refl
none_above n (e ∷ es) all =
    let lt : n < e.number = all.0 in
    let away : eqb e.number n ≡ false = ne_eqb e.number n (λ w. omega arith) in rw away (none_above n es all.1)

once_numbers : (es : List Email) → IsTable email_number es → each_once (map email_number es) ≡ map email_number es
once_numbers [] table = refl
once_numbers (e ∷ es) table =
    let away = none_above e.number es table.0 in rw away (ap (λ zs. e.number ∷ zs) (once_numbers es table.1))

pub table_kept : (p : Email → Bool) (es : List Email) → IsTable email_number es → IsTable email_number (filter p es)
table_kept p [] table = tt
table_kept p (e ∷ es) table =
    ⊎_elim
    (λ (t : p e ≡ true). rw t (All-kept (λ (x : Email). e.number < x.number) p es table.0, table_kept p es table.1))
    (λ (t : p e ≡ false). rw t (table_kept p es table.1))
    (cases_Bool (p e))

-- emails have different numbers
email-count : (m : ℕ) (es : List Email) → IsTable email_number es → length (each_once (map email_number (emails_in m es))) ≡ length (emails_in m es)
email-count m es table = ap length (once_numbers (emails_in m es) (table_kept (is_in m) es table)) ∙ length-map (emails_in m es) email_number

any-filter : (p : ℕ → Bool) (n : ℕ) → p n ≡ true → (xs : List ℕ) → is_one_of (filter p xs) n ≡ is_one_of xs n
any-filter p n pass [] = refl
any-filter p n pass (x ∷ xs) =
    ⊎_elim
    (λ (t : p x ≡ true). rw t (ap (λ b. eqb x n || b) (any-filter p n pass xs)))
    (λ (t : p x ≡ false).
    let away : eqb x n ≡ false = ne_eqb x n (λ e. true≢false (sym pass ∙ (ap p (sym e) ∙ t))) in rw t (rw away (any-filter p n pass xs)))
    (cases_Bool (p x))

pub once-filter : (p : ℕ → Bool) (xs : List ℕ) → filter p (each_once xs) ≡ each_once (filter p xs)
once-filter p [] = refl
once-filter p (x ∷ xs) =
    ⊎_elim
    (λ (t : p x ≡ true).
    let same = any-filter p x t xs in
    rw t
    (⊎_elim
    (λ (s : is_one_of xs x ≡ true). let twin = same ∙ s in rw s (rw twin (once-filter p xs)))
    (λ (s : is_one_of xs x ≡ false). let twin = same ∙ s in rw s (rw twin (rw t (ap (λ zs. x ∷ zs) (once-filter p xs)))))
    (cases_Bool (is_one_of xs x))))
    (λ (t : p x ≡ false).
    rw t
    (⊎_elim
    (λ (s : is_one_of xs x ≡ true). rw s (once-filter p xs))
    (λ (s : is_one_of xs x ≡ false). rw s (rw t (once-filter p xs)))
    (cases_Bool (is_one_of xs x))))
    (cases_Bool (p x))

-- the threads with an unread email
unread_threads : (emails : List Email) (t : ℕ) → is_one_of (map email_thread (filter is_unread emails)) t ≡ is_unread_thread emails t
unread_threads [] t = refl
unread_threads (e ∷ es) t = by (is_unread e) (eqb e.thread t) (unread_threads es t)
  where
    by : (u s : Bool) → is_one_of (map email_thread (filter is_unread es)) t ≡ is_unread_thread es t
        → is_one_of (map email_thread (cond u (e ∷ filter is_unread es) (filter is_unread es))) t ≡ ((eqb e.thread t && u) || is_unread_thread es t)
    by true s rec = ap₂ (λ a b. a || b) (yes (eqb e.thread t)) rec
      where
        yes : (a : Bool) → a ≡ (a && true)
        yes true = refl
        yes false = refl
    by false s rec = rec ∙ ap (λ b. b || is_unread_thread es t) (no_more (eqb e.thread t))
      where
        no_more : (a : Bool) → false ≡ (a && false)
        no_more true = refl
        no_more false = refl

-- the emails of unread threads, as a tally counts them
unread_thread-count : (m : ℕ) (emails : List Email) (threads : List ℕ) → threads ≡ rising (map email_thread (filter is_unread emails))
    → length (each_once (map email_thread (emails_in m (emails_of threads emails)))) ≡ length (filter (is_unread_thread emails) (threads_in m emails))
unread_thread-count m emails threads is =
    let unread : Email → Bool = λ e. is_unread_thread emails e.thread in
    let same : emails_of threads emails ≡ filter unread emails =
    filter_alike (λ e. is_one_of threads e.thread) unread
    (λ e. ap (λ ns. is_one_of ns e.thread) is ∙ (is_one_of-rising (map email_thread (filter is_unread emails)) e.thread ∙ unread_threads emails e.thread)) emails in
    ap (λ es. length (each_once (map email_thread (emails_in m es)))) same
    ∙ (ap (λ es. length (each_once (map email_thread es))) (filter_swap (is_in m) unread emails)
    ∙ (ap (λ ns. length (each_once ns)) (sym (filter-map (is_unread_thread emails) email_thread (emails_in m emails)))
    ∙ ap length (sym (once-filter (is_unread_thread emails) (map email_thread (emails_in m emails))))))

pub total_emails : (m : ℕ) (emails : List Email) → IsTable email_number emails
    → length (of_group m (sorted_once member_cmp (mailbox_members email_number emails))) ≡ (counts_over emails m).total_emails
total_emails m emails table = group-count email_number m emails ∙ email-count m emails table

pub unread_emails : (m : ℕ) (emails : List Email) → IsTable email_number emails
    → length (of_group m (sorted_once member_cmp (mailbox_members email_number (filter is_unread emails)))) ≡ (counts_over emails m).unread_emails
unread_emails m emails table =
    total_emails m (filter is_unread emails) (table_kept is_unread emails table) ∙ ap length (filter_swap (is_in m) is_unread emails)

pub total_threads : (m : ℕ) (emails : List Email)
    → length (of_group m (sorted_once member_cmp (mailbox_members email_thread emails))) ≡ (counts_over emails m).total_threads
total_threads m emails = group-count email_thread m emails

pub unread_threads_total : (m : ℕ) (emails : List Email) (threads : List ℕ) → threads ≡ rising (map email_thread (filter is_unread emails))
    → length (of_group m (sorted_once member_cmp (mailbox_members email_thread (emails_of threads emails)))) ≡ (counts_over emails m).unread_threads
unread_threads_total m emails threads is = group-count email_thread m (emails_of threads emails) ∙ unread_thread-count m emails threads is

-- sorted members of all emails, of the unread ones, and of their threads and the unread ones count each mailbox
pub tally_is : (emails unread of_unread : List Email) (threads : List ℕ) (t : Tallied) → IsTable email_number emails
    → unread ≡ filter is_unread emails → threads ≡ rising (map email_thread unread) → of_unread ≡ emails_of threads emails
    → t.total_emails ≡ sorted_once member_cmp (mailbox_members email_number emails)
    → t.unread_emails ≡ sorted_once member_cmp (mailbox_members email_number unread)
    → t.total_threads ≡ sorted_once member_cmp (mailbox_members email_thread emails)
    → t.unread_threads ≡ sorted_once member_cmp (mailbox_members email_thread of_unread)
    → (m : ℕ) → tallied_counts t m ≡ counts_over emails m
tally_is emails unread of_unread threads t table some named of a b c d m =
    let sorted : (Email → ℕ) → List Email → ℕ = λ key es. length (of_group m (sorted_once member_cmp (mailbox_members key es))) in
    let count : List Member → ℕ = λ ms. length (of_group m ms) in
    let one = ap count a ∙ total_emails m emails table in
    let two = ap count b ∙ (ap (sorted email_number) some ∙ unread_emails m emails table) in
    let three = ap count c ∙ total_threads m emails in
    let four = ap count d ∙ (ap (sorted email_thread) of ∙ unread_threads_total m emails threads (named ∙ ap (λ es. rising (map email_thread es)) some)) in
    λ i. record { total_emails = one i; unread_emails = two i; total_threads = three i; unread_threads = four i }
