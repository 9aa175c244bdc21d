-- The entries of a thread have the numbers of its emails.
use Rattle.std.proofs.Common.{◌≡◌, ℕ, Bool, true, false, ◌||◌, ◌&&◌, eqb, List, [], ◌∷◌, ◌++◌, map, Some, refl, sym, ap, ap₂, ◌∙◌, subst, ⊎_elim, ◌⊎◌, inl, inr, eqb-true, eq-eqb}
use Rattle.std.specs.Ordering.{is_eq, nat_cmp}
use Rattle.std.specs.Option.{option_cmp}
use Rattle.std.specs.Cmp.{nat_cmp_total, tied_itself}
use Rattle.std.specs.Cmp.Lexicographic.{options_total}
use Rattle.std.proofs.lemmas.Bool.{cases_Bool, true≢false}
use Rattle.mail_records.specs.Contents.{Content, email_at, email_number}
use Rattle.mail_records.specs.Orders.{AreInThread, Key, has_in, has_key, is_in_group, is_key_of, key_cmp, keys_of, key_of, thread_keys, threaded_key, threaded_owner}
use Rattle.mail_records.specs.declared.entries.Threaded.{Threaded}
use Rattle.mail_records.specs.declared.records.Email.{Email}
use Rattle.mail_records.proofs.KeyOrder.{key_total}
use Rattle.mail_records.proofs.Unique.{key_equal}
use Rattle.mail_counts.specs.Touched.{is_one_of}

entry_found : (rows : List Email) (k : Key) (ts : List Threaded) → has_key k (keys_of email_number threaded_owner threaded_key rows ts) ≡ true
    → is_one_of (map threaded_owner ts) k.number ≡ true
entry_found rows k [] h = absurd (true≢false (sym h))
entry_found rows k (t ∷ ts) h =
    let own = key_of email_number threaded_owner threaded_key rows t in
    ⊎_elim
    (λ (s : is_eq (key_cmp own k) ≡ true).
    let same : own ≡ k = key_equal own k s in
    let here : eqb t.email k.number ≡ true = eq-eqb t.email k.number (ap (λ x. x.number) same) in rw here refl)
    (λ (s : is_eq (key_cmp own k) ≡ false).
    or_right (eqb t.email k.number) (is_one_of (map threaded_owner ts) k.number)
    (entry_found rows k ts (subst (λ b. (b || has_key k (keys_of email_number threaded_owner threaded_key rows ts)) ≡ true) s h)))
    (cases_Bool (is_eq (key_cmp own k)))
  where
    or_right : (a b : Bool) → b ≡ true → (a || b) ≡ true
    or_right true b e = refl
    or_right false b e = e

-- an email of a thread has an entry
pub email_listed : (c : Content) (t : ℕ) (ts : List Threaded) (e : Email) → AreInThread c t ts → email_at c e.number ≡ Some e → eqb e.thread t ≡ true
    → is_one_of (map threaded_owner ts) e.number ≡ true
email_listed c t ts e are there of =
    let k : Key = record { group = Some e.thread; text = []; received = e.received.seconds; number = e.number; place = 0 } in
    let group : is_in_group (Some t) k ≡ true =
    subst (λ n. is_eq (option_cmp nat_cmp (Some e.thread) (Some n)) ≡ true) (eqb-true e.thread t of)
    (ap is_eq (tied_itself (options_total nat_cmp_total) (Some e.thread))) in
    let tied : is_eq (key_cmp k k) ≡ true = ap is_eq (tied_itself key_total k) in
    let own : is_key_of email_number thread_keys c.emails k ≡ true = ap (has_in thread_keys k) there ∙ ap (λ b. b || false) tied in
    entry_found c.emails k ts (are.exactly k ∙ ap₂ (λ a b. a && b) group own)

any_append : (n : ℕ) (xs ys : List ℕ) → is_one_of (xs ++ ys) n ≡ (is_one_of xs n || is_one_of ys n)
any_append n [] ys = refl
any_append n (x ∷ xs) ys = ap (λ b. eqb x n || b) (any_append n xs ys) ∙ grouped (eqb x n) (is_one_of xs n) (is_one_of ys n)
  where
    grouped : (a b c : Bool) → (a || (b || c)) ≡ ((a || b) || c)
    grouped true b c = refl
    grouped false b c = refl

-- numbers stay where others are added
pub kept_more : (n : ℕ) (xs ys zs : List ℕ) → zs ≡ xs ++ ys → is_one_of xs n ≡ true → is_one_of zs n ≡ true
kept_more n xs ys zs is h = ap (λ l. is_one_of l n) is ∙ (any_append n xs ys ∙ ap (λ b. b || is_one_of ys n) h)

pub added_more : (n : ℕ) (xs ys zs : List ℕ) → zs ≡ xs ++ ys → is_one_of ys n ≡ true → is_one_of zs n ≡ true
added_more n xs ys zs is h = ap (λ l. is_one_of l n) is ∙ (any_append n xs ys ∙ or_right (is_one_of xs n) (is_one_of ys n) h)
  where
    or_right : (a b : Bool) → b ≡ true → (a || b) ≡ true
    or_right true b e = refl
    or_right false b e = e

-- a number that is neither in one list nor in the other
pub neither : (n : ℕ) (xs ys : List ℕ) → is_one_of (xs ++ ys) n ≡ false → (is_one_of xs n ≡ false) × (is_one_of ys n ≡ false)
neither n xs ys h = by (is_one_of xs n) (is_one_of ys n) (sym (any_append n xs ys) ∙ h)
  where
    by : (a b : Bool) → (a || b) ≡ false → (a ≡ false) × (b ≡ false)
    by true b e = absurd (true≢false e)
    by false b e = (refl, e)

-- what a loop over threads has found: the emails of the threads up to here, and later those of the rest
pub one_thread_more : (c : Content) (t : ℕ) (rest : List ℕ) (ts : List Threaded) (xs zs : List ℕ) → AreInThread c t ts → zs ≡ xs ++ map threaded_owner ts
    → (e : Email) → email_at c e.number ≡ Some e → (is_one_of (t ∷ rest) e.thread ≡ true) ⊎ (is_one_of xs e.number ≡ true)
    → (is_one_of rest e.thread ≡ true) ⊎ (is_one_of zs e.number ≡ true)
one_thread_more c t rest ts xs zs are is e there so_far =
    ⊎_elim
    (λ (later : is_one_of (t ∷ rest) e.thread ≡ true).
    ⊎_elim
    (λ (s : eqb t e.thread ≡ true).
    let of : eqb e.thread t ≡ true = eq-eqb e.thread t (sym (eqb-true t e.thread s)) in
    inr (added_more e.number xs (map threaded_owner ts) zs is (email_listed c t ts e are there of)))
    (λ (s : eqb t e.thread ≡ false). inl (subst (λ b. (b || is_one_of rest e.thread) ≡ true) s later))
    (cases_Bool (eqb t e.thread)))
    (λ (before : is_one_of xs e.number ≡ true). inr (kept_more e.number xs (map threaded_owner ts) zs is before))
    so_far

pub no_thread_left : (t n : ℕ) (xs : List ℕ) → (is_one_of [] t ≡ true) ⊎ (is_one_of xs n ≡ true) → is_one_of xs n ≡ true
no_thread_left t n xs so_far = ⊎_elim (λ (h : is_one_of [] t ≡ true). absurd (true≢false (sym h))) (λ (h : is_one_of xs n ≡ true). h) so_far
