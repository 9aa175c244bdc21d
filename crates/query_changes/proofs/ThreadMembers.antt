-- The entries of a thread name exactly the emails of the thread.
use Rattle.std.proofs.Common.{◌≡◌, ℕ, Bool, true, false, ◌||◌, eqb, eqb-true, eq-eqb, List, [], ◌∷◌, ◌++◌, map, Option, Some, None, refl, sym, ap, ◌∙◌}
use Rattle.std.proofs.lemmas.Bool.{true≢false}
use Rattle.jm_base.specs.Splices.{has}
use Rattle.mail_records.specs.Contents.{Content, email_at, email_number}
use Rattle.mail_records.specs.Orders.{AreInThread, threaded_owner}
use Rattle.mail_records.specs.Tables.{IsTable}
use Rattle.mail_records.proofs.KeyTables.{lookup_number}
use Rattle.mail_records.specs.declared.entries.Threaded.{Threaded}
use Rattle.mail_records.specs.declared.records.Email.{Email}
use Rattle.method_args.specs.Arguments.{passes}
use Rattle.filter_terms.proofs.Lists.{any_found, any_here, found_in, in_kept, in_map, map_in, of_kept, same_tests}
use Rattle.filter_terms.proofs.ThreadEntries.{email_entry, entry_email}
use Rattle.query_changes.specs.Notes.{is_in_threads}
use Rattle.query_changes.proofs.Touching.{has-append}

found : (f : Email → Bool) (o : Option Email) → passes f o ≡ true → (e : Email) × (o ≡ Some e) × (f e ≡ true)
found f None h = absurd (true≢false (sym h))
found f (Some e) h = (e, refl, h)

pub has-entries : (c : Content) (thread : ℕ) (ts : List Threaded) → IsTable email_number c.emails → AreInThread c thread ts → (n : ℕ)
    → has (map threaded_owner ts) n ≡ passes (λ e. eqb thread e.thread) (email_at c n)
has-entries c thread ts table are n = same_tests (has (map threaded_owner ts) n) (passes (λ e. eqb thread e.thread) (email_at c n)) there back
  where
    there : has (map threaded_owner ts) n ≡ true → passes (λ e. eqb thread e.thread) (email_at c n) ≡ true
    there h =
        let one = any_found (λ m. eqb m n) (map threaded_owner ts) h in
        let entry = in_map threaded_owner ts one.0 one.1 in
        let email = entry_email c thread ts entry.0 are entry.1 in
        let kept = of_kept (λ (y : Email). eqb y.thread thread) c.emails email.0 email.2 in
        let number : (entry.0).email ≡ n = sym entry.2 ∙ eqb-true one.0 n one.2 in
        let same : thread ≡ (email.0).thread = sym (eqb-true (email.0).thread thread kept.1) in
        ap (passes (λ e. eqb thread e.thread)) (sym (ap (email_at c) number) ∙ email.1) ∙ eq-eqb thread (email.0).thread same

    back : passes (λ e. eqb thread e.thread) (email_at c n) ≡ true → has (map threaded_owner ts) n ≡ true
    back h =
        let email = found (λ e. eqb thread e.thread) (email_at c n) h in
        let own : eqb (email.0).thread thread ≡ true = eq-eqb (email.0).thread thread (sym (eqb-true thread (email.0).thread email.2)) in
        let kept = in_kept (λ (y : Email). eqb y.thread thread) c.emails email.0 (found_in email_number n c.emails email.0 email.1) own in
        let entry = email_entry c thread ts email.0 table are kept in
        let number : (entry.0).email ≡ n =
        sym (lookup_number email_number (entry.0).email c.emails email.0 entry.2) ∙ lookup_number email_number n c.emails email.0 email.1 in
        any_here (λ m. eqb m n) (map threaded_owner ts) (entry.0).email (map_in threaded_owner ts entry.0 entry.1) (eq-eqb (entry.0).email n number)

-- numbers with those of the emails of a thread
pub with_thread : (c : Content) (thread : ℕ) (ts : List Threaded) (old new : List ℕ) → IsTable email_number c.emails → AreInThread c thread ts → new ≡ old ++ map threaded_owner ts → (n : ℕ)
    → has new n ≡ (has old n || passes (λ e. eqb thread e.thread) (email_at c n))
with_thread c thread ts old new table are is n =
    ap (λ (ns : List ℕ). has ns n) is ∙ (has-append old (map threaded_owner ts) n ∙ ap (λ b. has old n || b) (has-entries c thread ts table are n))

passes_or : (f g : Email → Bool) (o : Option Email) → passes (λ e. f e || g e) o ≡ (passes f o || passes g o)
passes_or f g None = refl
passes_or f g (Some e) = refl

no_thread : (o : Option Email) → passes (λ e. has [] e.thread) o ≡ false
no_thread None = refl
no_thread (Some e) = refl

or_false : (b : Bool) → (b || false) ≡ b
or_false true = refl
or_false false = refl

or_assoc : (a b c : Bool) → ((a || b) || c) ≡ (a || (b || c))
or_assoc true b c = refl
or_assoc false b c = refl

pub none_left : (c : Content) (numbers : List ℕ) (n : ℕ) → (has numbers n || is_in_threads [] c n) ≡ has numbers n
none_left c numbers n = ap (λ b. has numbers n || b) (no_thread (email_at c n)) ∙ or_false (has numbers n)

-- one thread more is taken from those that are left
pub one_more : (c : Content) (thread : ℕ) (threads old new : List ℕ) → ((n : ℕ) → has new n ≡ (has old n || passes (λ e. eqb thread e.thread) (email_at c n))) → (n : ℕ)
    → (has new n || is_in_threads threads c n) ≡ (has old n || is_in_threads (thread ∷ threads) c n)
one_more c thread threads old new step n =
    ap (λ b. b || is_in_threads threads c n) (step n)
    ∙ (or_assoc (has old n) (passes (λ e. eqb thread e.thread) (email_at c n)) (is_in_threads threads c n)
    ∙ ap (λ b. has old n || b) (sym (passes_or (λ e. eqb thread e.thread) (λ e. has threads e.thread) (email_at c n))))

threads_same : (xs ys : List ℕ) → ((t : ℕ) → has xs t ≡ has ys t) → (o : Option Email) → passes (λ e. has xs e.thread) o ≡ passes (λ e. has ys e.thread) o
threads_same xs ys same None = refl
threads_same xs ys same (Some e) = same e.thread

pub same_threads : (c : Content) (xs ys : List ℕ) → ((t : ℕ) → has xs t ≡ has ys t) → (n : ℕ) → is_in_threads xs c n ≡ is_in_threads ys c n
same_threads c xs ys same n = threads_same xs ys same (email_at c n)
