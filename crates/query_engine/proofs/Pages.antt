-- What becomes of a page.
use Rattle.std.proofs.Common.{Result, Ok, Err, OnOk, ◌≡◌, ℕ, ◌≤◌, Bool, true, false, ◌&&◌, ◌||◌, if◌then◌else◌, cond, eqb, eqb-true, eq-eqb, List, [], ◌∷◌, ◌++◌, take, length, Some, None, refl, sym, ap, ap₂, ◌∙◌, subst, append_assoc, arith, ⊎_elim, nat_cmp}
use Rattle.std.specs.BTreeMap.{is_at}
use Rattle.std.specs.List.{list_any}
use Rattle.std.specs.Ordering.{is_eq}
use Rattle.std.proofs.lemmas.Bool.{and_parts, cases_Bool, true≢false}
use Rattle.std.proofs.lemmas.Bool.Decides.{nat_tests}
use Rattle.std.proofs.lemmas.Cmp.{nat_cmp_total, tied_itself}
use Rattle.std.proofs.lemmas.List.{take-append-le}
use Rattle.jm_base.specs.Splices.{has}
use Rattle.mail_records.specs.Contents.{Content}
use Rattle.mail_records.proofs.KeyTables.{nat_equal}
use Rattle.filter_terms.proofs.Lists.{any_same, same_tests}
use Rattle.query_engine.specs.Threads.{first_of_threads, thread_of}
use Rattle.query_engine.specs.Walks.{Follows, at_most, fills, goes_on, is_full}
use Rattle.query_engine.specs.declared.page.Page.{Page}

-- ---- sets of threads

at_key : (t k : ℕ) → is_eq (nat_cmp t k) ≡ eqb k t
at_key t k =
    same_tests (is_eq (nat_cmp t k)) (eqb k t) (λ e. eq-eqb k t (sym (nat_equal t k e)))
    (λ e. subst (λ x. is_eq (nat_cmp t x) ≡ true) (sym (eqb-true k t e)) (ap is_eq (tied_itself nat_cmp_total t)))

-- a set has what its keys have
pub set_has : (keys : List ℕ) (t : ℕ) → list_any (is_at (nat_cmp t)) keys ≡ has keys t
set_has keys t = any_same (is_at (nat_cmp t)) (λ k. eqb k t) keys (at_key t)

cond_or : (a b : Bool) → cond a true b ≡ (a || b)
cond_or true b = refl
cond_or false b = refl

eqb_turned : (x y : ℕ) → eqb x y ≡ eqb y x
eqb_turned x y = grind arith

pub thread_added : (old new : List ℕ) (thread t : ℕ)
    → list_any (is_at (nat_cmp t)) new ≡ cond (is_at (nat_cmp thread) t) true (list_any (is_at (nat_cmp t)) old)
    → has new t ≡ has (thread ∷ old) t
thread_added old new thread t e =
    sym (set_has new t)
    ∙ (e
    ∙ (cond_or (is_eq (nat_cmp thread t)) (list_any (is_at (nat_cmp t)) old)
    ∙ ap₂ (λ a b. a || b) (at_key thread t ∙ eqb_turned t thread) (set_has old t)))

-- ---- lists

full_same : (max xs a b : _) → fills max xs ≡ true → at_most max (xs ++ a) ≡ at_most max (xs ++ b)
full_same None xs a b e = absurd (true≢false (sym e))
full_same (Some n) xs a b e =
    let le : n ≤ length xs = grind (arith, nat_tests, e) in take-append-le n xs a le ∙ sym (take-append-le n xs b le)

append_none : (xs : List ℕ) → xs ++ [] ≡ xs
append_none [] = refl
append_none (x ∷ xs) = ap (λ ys. x ∷ ys) (append_none xs)

same_threads : (c : Content) (ks ls rest : List ℕ) → ((t : ℕ) → has ks t ≡ has ls t) → first_of_threads c ks rest ≡ first_of_threads c ls rest
same_threads c ks ls [] same = refl
same_threads c ks ls (n ∷ ns) same =
    ⊎_elim
    (λ (k : has ls (thread_of c n) ≡ true). rw (same (thread_of c n) ∙ k, k) (same_threads c ks ls ns same))
    (λ (k : has ls (thread_of c n) ≡ false).
    rw (same (thread_of c n) ∙ k, k)
    (ap (λ zs. n ∷ zs) (same_threads c (thread_of c n ∷ ks) (thread_of c n ∷ ls) ns (λ t. ap (λ b. eqb (thread_of c n) t || b) (same t)))))
    (cases_Bool (has ls (thread_of c n)))

-- ---- pages

-- a full page stays as it is, whatever follows
pub stays : (p : Page) → is_full p ≡ true → (c : Content) (ns : List ℕ) → Follows c p p ns
stays p e c ns rest =
    full_same p.max p.numbers.items (if p.collapse then first_of_threads c p.threads.keys rest else rest)
    (if p.collapse then first_of_threads c p.threads.keys (ns ++ rest) else (ns ++ rest)) e

-- an email whose thread a page has is not put on it
pub skips : (p : Page) (thread : ℕ) → (p.collapse && has p.threads.keys thread) ≡ true → (c : Content) (n : ℕ) → (p.collapse ≡ true → thread_of c n ≡ thread) → Follows c p p (n ∷ [])
skips p thread e c n same rest =
    let both = and_parts p.collapse (has p.threads.keys thread) e in
    let known : has p.threads.keys (thread_of c n) ≡ true = ap (has p.threads.keys) (same both.0) ∙ both.1 in
    ap (λ ns. at_most p.max (p.numbers.items ++ ns)) (rw (both.0, known) refl)

pub ends : (c : Content) (p : Page) (result : List ℕ) → result ≡ at_most p.max p.numbers.items → result ≡ goes_on c p []
ends c p result e =
    e ∙ ap (at_most p.max) (sym (append_none p.numbers.items) ∙ ap (λ ns. p.numbers.items ++ ns) (nothing p.collapse))
  where
    nothing : (b : Bool) → [] ≡ (if b then first_of_threads c p.threads.keys [] else [])
    nothing true = refl
    nothing false = refl

-- a number is put at the end
pub enters : (p q : Page) (c : Content) (n : ℕ) → q.max ≡ p.max → q.collapse ≡ p.collapse → q.numbers.items ≡ p.numbers.items ++ n ∷ []
    → (p.collapse ≡ true → (has p.threads.keys (thread_of c n) ≡ false) × ((t : ℕ) → has q.threads.keys t ≡ has (thread_of c n ∷ p.threads.keys) t))
    → Follows c p q (n ∷ [])
enters p q c n max collapse numbers threads rest =
    let next : List ℕ = if q.collapse then first_of_threads c q.threads.keys rest else rest in
    let whole : q.numbers.items ++ next ≡ p.numbers.items ++ (if p.collapse then first_of_threads c p.threads.keys (n ∷ rest) else n ∷ rest) =
    ap (λ ns. ns ++ next) numbers
    ∙ (append_assoc p.numbers.items (n ∷ []) next
    ∙ ap (λ ns. p.numbers.items ++ ns) (ap (λ b. n ∷ (if b then first_of_threads c q.threads.keys rest else rest)) collapse ∙ by p.collapse refl)) in
    ap (λ m. at_most m (q.numbers.items ++ next)) max ∙ ap (at_most p.max) whole
  where
    by : (b : Bool) → p.collapse ≡ b → n ∷ (if p.collapse then first_of_threads c q.threads.keys rest else rest) ≡ (if p.collapse then first_of_threads c p.threads.keys (n ∷ rest) else n ∷ rest)
    by true on =
        let t = threads on in rw (on, t.0) (ap (λ zs. n ∷ zs) (same_threads c q.threads.keys (thread_of c n ∷ p.threads.keys) rest t.1))
    by false off = rw off refl

pub follows_none : (c : Content) (p : Page) → Follows c p p []
follows_none c p rest = refl

-- an email that is skipped, whether it matches or not
pub skips_either : (c : Content) (p : Page) (n : ℕ) (b : Bool) → Follows c p p (n ∷ []) → Follows c p p (if b then n ∷ [] else [])
skips_either c p n true f rest = f rest
skips_either c p n false f rest = refl

-- one after the other
pub both_follow : (c : Content) (p q r : Page) (ns ms : List ℕ) → Follows c p q ns → Follows c q r ms → Follows c p r (ns ++ ms)
both_follow c p q r ns ms f g rest = g rest ∙ (f (ms ++ rest) ∙ ap (goes_on c p) (sym (append_assoc ns ms rest)))

on_ok : {A E : Type 0} {P Q : Type 0} (r : Result A E) → (P → Q) → OnOk r P → OnOk r Q
on_ok (Ok a) f p = f p
on_ok (Err e) f p = tt

and_on : (a b : Bool) → a ≡ true → (a && b) ≡ false → b ≡ false
and_on true b e f = f
and_on false b e f = absurd (true≢false (sym e))

-- a number is put at the end, and its thread among the threads
pub puts : {A E : Type 0} (p m q : Page) (thread n : ℕ) (r : Result A E) → (p.collapse && has p.threads.keys thread) ≡ false
    → ((t : ℕ) → has m.threads.keys t ≡ has (thread ∷ p.threads.keys) t) → m.numbers.items ≡ p.numbers.items → m.collapse ≡ p.collapse → m.max ≡ p.max
    → q.threads.keys ≡ m.threads.keys → q.collapse ≡ m.collapse → q.max ≡ m.max → OnOk r (q.numbers.items ≡ m.numbers.items ++ n ∷ [])
    → OnOk r ((c : Content) → (p.collapse ≡ true → thread_of c n ≡ thread) → Follows c p q (n ∷ []))
puts p m q thread n r new added numbers collapse max keys on most items =
    on_ok r
    (λ end c same.
    enters p q c n (most ∙ max) (on ∙ collapse) (end ∙ ap (λ ns. ns ++ n ∷ []) numbers)
    (λ o. (
      ap (has p.threads.keys) (same o) ∙ and_on p.collapse (has p.threads.keys thread) o new,
      λ t. ap (λ ks. has ks t) keys ∙ (added t ∙ ap (λ x. has (x ∷ p.threads.keys) t) (sym (same o))),
    )))
    items
