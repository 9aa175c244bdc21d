-- The entries of a thread lead to exactly the emails of the thread.
use Rattle.std.proofs.Common.{◌≡◌, ℕ, Bool, true, false, eqb, eqb-true, eq-eqb, List, [], ◌∷◌, Option, Some, None, refl, sym, ap, ◌∙◌, arith, ⊎_elim, inl}
use Rattle.std.specs.List.{list_all, list_any}
use Rattle.std.specs.Ordering.{is_eq, nat_cmp}
use Rattle.std.specs.Option.{option_cmp}
use Rattle.std.proofs.lemmas.Cmp.{tied_itself}
use Rattle.std.proofs.lemmas.Bool.{and_parts, or_cases, true≢false}
use Rattle.mail_records.specs.Contents.{Content, email_at, email_number}
use Rattle.mail_records.specs.Orders.{AreInThread, Key, has_in, has_key, key_cmp, key_of, keys_of, thread_keys, threaded_key, threaded_owner}
use Rattle.mail_records.specs.Tables.{IsTable, lookup}
use Rattle.mail_records.proofs.KeyOrder.{key_total}
use Rattle.mail_records.proofs.KeyTables.{nat_equal}
use Rattle.mail_records.proofs.Unique.{key_equal}
use Rattle.mail_records.specs.declared.entries.Threaded.{Threaded}
use Rattle.mail_records.specs.declared.records.Email.{Email}
use Rattle.method_args.specs.Arguments.{passes}
use Rattle.filter_terms.specs.Targets.{of_thread}
use Rattle.filter_terms.proofs.Lists.{In, all_at, all_from, any_found, any_here, found_in, in_found, in_kept, in_map, map_in, of_kept, same_tests}

-- the key of an entry, whatever the email
abbrev entry_key : List Email → Threaded → Key
entry_key emails t = key_of email_number threaded_owner threaded_key emails t

abbrev email_key : Email → Key
email_key e = record { group = Some e.thread; text = []; received = e.received.seconds; number = e.number; place = 0 }

found_some : {X : Type 0} (keys : X → List Key) (k : Key) (o : Option X) → has_in keys k o ≡ true → (x : X) × (o ≡ Some x) × (has_key k (keys x) ≡ true)
found_some keys k None h = absurd (true≢false (sym h))
found_some keys k (Some x) h = (x, refl, h)

only_key : (a k : Key) → has_key k (a ∷ []) ≡ true → is_eq (key_cmp a k) ≡ true
only_key a k h = ⊎_elim (λ (e : is_eq (key_cmp a k) ≡ true). e) (λ (e : false ≡ true). absurd (true≢false (sym e))) (or_cases (is_eq (key_cmp a k)) false h)

itself : (k : Key) → is_eq (key_cmp k k) ≡ true
itself k = ap is_eq (tied_itself key_total k)

-- the email of an entry is of the thread
pub entry_email : (c : Content) (thread : ℕ) (ts : List Threaded) (x : Threaded) → AreInThread c thread ts → In x ts
    → (e : Email) × (email_at c x.email ≡ Some e) × In e (of_thread thread c.emails)
entry_email c thread ts x are i =
    let k = entry_key c.emails x in
    let keys = keys_of email_number threaded_owner threaded_key c.emails ts in
    let among : has_key k keys ≡ true = any_here (λ y. is_eq (key_cmp y k)) keys k (map_in (entry_key c.emails) ts x i) (itself k) in
    let both = and_parts _ _ (sym (are.exactly k) ∙ among) in
    let group : x.thread ≡ thread = nat_equal x.thread thread both.0 in
    let found = found_some thread_keys k (lookup email_number x.email c.emails) both.1 in
    let e = found.0 in
    let same : email_key e ≡ k = key_equal (email_key e) k (only_key (email_key e) k found.2) in
    let grouped : Some e.thread ≡ Some x.thread = ap (λ (y : Key). y.group) same in
    let threads : e.thread ≡ x.thread = cc in
    (e, found.1, in_kept (λ (y : Email). eqb y.thread thread) c.emails e (found_in email_number x.email c.emails e found.1) (eq-eqb e.thread thread (threads ∙ group)))

-- an email of the thread has an entry
pub email_entry : (c : Content) (thread : ℕ) (ts : List Threaded) (e : Email) → IsTable email_number c.emails → AreInThread c thread ts → In e (of_thread thread c.emails)
    → (x : Threaded) × In x ts × (email_at c x.email ≡ Some e)
email_entry c thread ts e table are i =
    let kept = of_kept (λ (y : Email). eqb y.thread thread) c.emails e i in
    let k = email_key e in
    let keys = keys_of email_number threaded_owner threaded_key c.emails ts in
    let there : lookup email_number e.number c.emails ≡ Some e = in_found email_number c.emails e table kept.0 in
    let threads : e.thread ≡ thread = eqb-true e.thread thread kept.1 in
    let grouped : is_eq (option_cmp nat_cmp (Some e.thread) (Some thread)) ≡ true = grind (arith, threads) in
    let own : has_key k (thread_keys e) ≡ true = any_here (λ y. is_eq (key_cmp y k)) (thread_keys e) k (inl refl) (itself k) in
    let known : has_in thread_keys k (lookup email_number e.number c.emails) ≡ true = ap (has_in thread_keys k) there ∙ own in
    let among : has_key k keys ≡ true = are.exactly k ∙ rw (grouped, known) refl in
    let found = any_found (λ y. is_eq (key_cmp y k)) keys among in
    let from = in_map (entry_key c.emails) ts found.0 found.1 in
    let same : found.0 ≡ k = key_equal found.0 k found.2 in
    let numbers : (from.0).email ≡ e.number = ap (λ (y : Key). y.number) (sym from.2 ∙ same) in
    (from.0, from.1, ap (λ n. lookup email_number n c.emails) numbers ∙ there)

module _ (c : Content) (thread : ℕ) (ts : List Threaded) (table : IsTable email_number c.emails) (are : AreInThread c thread ts) (p : Email → Bool) where
  abbrev of_entry : Threaded → Bool
  of_entry t = passes p (email_at c t.email)

  entry_is : (x : Threaded) (e : Email) → email_at c x.email ≡ Some e → of_entry x ≡ p e
  entry_is x e is = ap (passes p) is

  pub some_entry : list_any (λ (t : Threaded). passes p (email_at c t.email)) ts ≡ list_any p (of_thread thread c.emails)
  some_entry =
      same_tests _ _
      (λ h. let w = any_found of_entry ts h in
      let v = entry_email c thread ts w.0 are w.1 in
      any_here p (of_thread thread c.emails) v.0 v.2 (sym (entry_is w.0 v.0 v.1) ∙ w.2))
      (λ h. let w = any_found p (of_thread thread c.emails) h in
      let v = email_entry c thread ts w.0 table are w.1 in
      any_here of_entry ts v.0 v.1 (entry_is v.0 w.0 v.2 ∙ w.2))

  pub all_entries : list_all (λ (t : Threaded). passes p (email_at c t.email)) ts ≡ list_all p (of_thread thread c.emails)
  all_entries =
      same_tests _ _
      (λ h. all_from p (of_thread thread c.emails) (λ e i.
      let v = email_entry c thread ts e table are i in sym (entry_is v.0 e v.2) ∙ all_at of_entry ts v.0 h v.1))
      (λ h. all_from of_entry ts (λ x i.
      let v = entry_email c thread ts x are i in entry_is x v.0 v.1 ∙ all_at p (of_thread thread c.emails) v.0 h v.2))
