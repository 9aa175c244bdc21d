-- Members that are hidden, one name after the other.
use Rattle.std.proofs.Common.{◌≡◌, ℕ, List, [], ◌∷◌, Bool, true, false, not, ◌&&◌, ◌||◌, cond, Ordering, Less, Equal, Greater, Option, refl, sym, ap, ◌∙◌, subst}
use Rattle.std.specs.List.{filter, list_all, AllByRecursion}
use Rattle.std.specs.List.Sorted.{IsStrictlySortedBy}
use Rattle.std.specs.Map.{keys_of}
use Rattle.std.specs.Ordering.{nat_cmp, is_lt}
use Rattle.jm_json.proofs.Removals.{KeysRise-take_away}
use Rattle.std.specs.Str.{bytes_eq}
use Rattle.std.specs.Cmp.Lexicographic.{slice_cmp, nat_list_cmp_total}
use Rattle.std.proofs.lemmas.Cmp.{tied_itself}
use Rattle.std.proofs.lemmas.Slice.Eq.{bytes_eq-Decides}
use Rattle.jm_json.specs.Tree.{Tree}
use Rattle.jm_json.specs.Order.{KeysRise}
use Rattle.jm_json.specs.Patch.{take_away}
use Rattle.mail_records.specs.declared.records.Mailbox.{Mailbox}
use Rattle.mail_records.specs.declared.records.Thread.{Thread}
use Rattle.mail_counts.specs.Views.{mailbox_members}
use Rattle.get_args.specs.Selection.{hidden_of, is_among, is_shown}
use Rattle.mail_view.specs.Mailboxes.{mailbox_properties}
use Rattle.mail_view.specs.Threads.{thread_members, thread_properties}
use Rattle.get_calls.specs.Members.{remove_all, without}

abbrev Pairs : Type 0
Pairs = List (List ℕ × Tree)

abbrev AllAbove : List ℕ → Pairs → Type 0
AllAbove k ms = AllByRecursion (λ y. slice_cmp nat_cmp k y ≡ Less) (keys_of ms)

-- the members of another name than this one
abbrev others : List ℕ → Pairs → Pairs
others k ms = filter (λ m. not (bytes_eq m.0 k)) ms

false_unless : (b : Bool) → (b ≡ true → ⊥) → b ≡ false
false_unless false never = refl
false_unless true never = absurd (never refl)

apart : (k y : List ℕ) → slice_cmp nat_cmp k y ≡ Less → bytes_eq y k ≡ false
apart k y less =
    false_unless _ (λ e.
    let same : slice_cmp nat_cmp k k ≡ Less = subst (λ z. slice_cmp nat_cmp k z ≡ Less) ((bytes_eq-Decides y k).0 e) less in
    let never : Equal ≡ Less = sym (tied_itself nat_list_cmp_total k) ∙ same in
    cc)

others_above : (k : List ℕ) (ms : Pairs) → AllAbove k ms → others k ms ≡ ms
others_above k [] all = refl
others_above k (m ∷ ms) all = rw (apart k m.0 all.0) (ap (λ ys. m ∷ ys) (others_above k ms all.1))

taken_at : (b : Bool) (k : List ℕ) (m : List ℕ × Tree) (ms : Pairs) → bytes_eq m.0 k ≡ b → AllAbove m.0 ms → take_away k ms ≡ others k ms → take_away k (m ∷ ms) ≡ others k (m ∷ ms)
taken_at true k m ms e above more = rw e (sym (others_above k ms (subst (λ y. AllAbove y ms) ((bytes_eq-Decides m.0 k).0 e) above)))
taken_at false k m ms e above more = rw e (ap (λ ys. m ∷ ys) more)

taken : (k : List ℕ) (ms : Pairs) → KeysRise ms → take_away k ms ≡ others k ms
unfolding IsStrictlySortedBy
taken k [] rise = refl
taken k (m ∷ ms) rise = taken_at _ k m ms refl rise.0 (taken k ms rise.1)

both_at : {A : Type 0} (b c : Bool) (p : A → Bool) (x : A) (ys zs : List A) → p x ≡ c → filter p ys ≡ zs → filter p (cond b (x ∷ ys) ys) ≡ cond (b && c) (x ∷ zs) zs
both_at true true p x ys zs e more = rw e (ap (λ ws. x ∷ ws) more)
both_at true false p x ys zs e more = rw e more
both_at false true p x ys zs e more = more
both_at false false p x ys zs e more = more

both : {A : Type 0} (p q : A → Bool) (xs : List A) → filter p (filter q xs) ≡ filter (λ x. q x && p x) xs
both p q [] = refl
both p q (x ∷ xs) = both_at (q x) (p x) p x (filter q xs) _ refl (both p q xs)

among_first : (hs : List (List ℕ)) (h k : List ℕ) → (not (bytes_eq k h) && not (is_among hs k)) ≡ not (is_among (h ∷ hs) k)
among_first hs h k = elim (bytes_eq k h) as (λ b. (not b && not (is_among hs k)) ≡ not (b || is_among hs k)) [ true ↦ refl | false ↦ refl ]

filter_same : {A : Type 0} (p q : A → Bool) (xs : List A) → AllByRecursion (λ x. p x ≡ q x) xs → filter p xs ≡ filter q xs
filter_same p q [] all = refl
filter_same p q (x ∷ xs) all = rw (all.0) (ap (λ ys. cond (q x) (x ∷ ys) ys) (filter_same p q xs all.1))

everywhere : {A : Type 0} (P : A → Type 0) (xs : List A) → ((x : A) → P x) → AllByRecursion P xs
everywhere P [] each = tt
everywhere P (x ∷ xs) each = (each x, everywhere P xs each)

without_first : (h : List ℕ) (hs : List (List ℕ)) (ms : Pairs) → KeysRise ms → without hs (take_away h ms) ≡ without (h ∷ hs) ms
without_first h hs ms rise =
    ap (without hs) (taken h ms rise) ∙ both (λ m. not (is_among hs m.0)) (λ m. not (bytes_eq m.0 h)) ms
    ∙ filter_same _ _ ms (everywhere _ ms (λ m. among_first hs h m.0))

without_none : (ms : Pairs) → without [] ms ≡ ms
without_none [] = refl
without_none (m ∷ ms) = ap (λ ys. m ∷ ys) (without_none ms)

-- to take names away one after the other leaves the members of other names
pub all_taken : (hs : List (List ℕ)) (ms : Pairs) → KeysRise ms → remove_all hs ms ≡ without hs ms
all_taken [] ms rise = sym (without_none ms)
all_taken (h ∷ hs) ms rise = all_taken hs (take_away h ms) (KeysRise-take_away h ms rise) ∙ without_first h hs ms rise

-- ---- the members of a mailbox have their names in byte order

abbrev do_rise : List (List ℕ) → Bool
do_rise [] = true
do_rise (k ∷ ks) = list_all (λ y. is_lt (slice_cmp nat_cmp k y)) ks && do_rise ks

below : (o : Ordering) → is_lt o ≡ true → o ≡ Less
below Less e = refl
below Equal e = absurd (cc)
below Greater e = absurd (cc)

parts : (a b : Bool) → (a && b) ≡ true → (a ≡ true) × (b ≡ true)
parts true b e = (refl, e)
parts false b e = absurd (cc)

all_below : (k : List ℕ) (ks : List (List ℕ)) → list_all (λ y. is_lt (slice_cmp nat_cmp k y)) ks ≡ true → AllByRecursion (λ y. slice_cmp nat_cmp k y ≡ Less) ks
all_below k [] e = tt
all_below k (y ∷ ys) e = let both = parts (is_lt (slice_cmp nat_cmp k y)) _ e in (below _ both.0, all_below k ys both.1)

rises : (ks : List (List ℕ)) → do_rise ks ≡ true → IsStrictlySortedBy (slice_cmp nat_cmp) ks
unfolding IsStrictlySortedBy
rises [] e = tt
rises (k ∷ ks) e = let both = parts (list_all (λ y. is_lt (slice_cmp nat_cmp k y)) ks) (do_rise ks) e in (all_below k ks both.0, rises ks both.1)

pub members_rise : (read_only : Bool) (m : Mailbox) → KeysRise (mailbox_members read_only m)
members_rise read_only m = rises (keys_of (mailbox_members read_only m)) refl

pub thread_members_rise : (t : Thread) → KeysRise (thread_members t)
thread_members_rise t = rises (keys_of (thread_members t)) refl

-- ---- what is not hidden is shown

among_filter_at : (b c : Bool) (p : List ℕ → Bool) (k h : List ℕ) (hs : List (List ℕ)) → bytes_eq k h ≡ b → p h ≡ c → is_among (filter p hs) k ≡ (p k && is_among hs k)
    → is_among (cond c (h ∷ filter p hs) (filter p hs)) k ≡ (p k && (b || is_among hs k))
among_filter_at true true p k h hs e q more =
    let same : p k ≡ true = ap p ((bytes_eq-Decides k h).0 e) ∙ q in
    rw (e, same) refl
among_filter_at true false p k h hs e q more =
    let same : p k ≡ false = ap p ((bytes_eq-Decides k h).0 e) ∙ q in
    rw same (more ∙ ap (λ b. b && is_among hs k) same)
among_filter_at false true p k h hs e q more = rw e more
among_filter_at false false p k h hs e q more = more

among_filter : (p : List ℕ → Bool) (k : List ℕ) (hs : List (List ℕ)) → is_among (filter p hs) k ≡ (p k && is_among hs k)
among_filter p k [] = elim (p k) as (λ b. false ≡ (b && false)) [ true ↦ refl | false ↦ refl ]
among_filter p k (h ∷ hs) = among_filter_at _ _ p k h hs refl refl (among_filter p k hs)

kept_at : (shown among : Bool) → among ≡ true → not (not shown && among) ≡ shown
kept_at true true e = refl
kept_at false true e = refl
kept_at shown false e = absurd (cc)

kept : (properties : List (List ℕ)) (names : Option (List (List ℕ))) (k : List ℕ) → is_among properties k ≡ true → not (is_among (hidden_of names properties) k) ≡ is_shown names k
kept properties names k known = ap not (among_filter (λ p. not (is_shown names p)) k properties) ∙ kept_at (is_shown names k) _ known

pub all_kept : (properties : List (List ℕ)) (names : Option (List (List ℕ))) (ms : Pairs) → list_all (λ m. is_among properties m.0) ms ≡ true → without (hidden_of names properties) ms ≡ filter (λ m. is_shown names m.0) ms
all_kept properties names [] known = refl
all_kept properties names (m ∷ ms) known =
    let both = parts (is_among properties m.0) _ known in
    rw (kept properties names m.0 both.0) (ap (λ ys. cond (is_shown names m.0) (m ∷ ys) ys) (all_kept properties names ms both.1))

-- what is left of a mailbox is its JSON view
pub shown_members : (read_only : Bool) (names : Option (List (List ℕ))) (m : Mailbox) → without (hidden_of names mailbox_properties) (mailbox_members read_only m) ≡ filter (λ p. is_shown names p.0) (mailbox_members read_only m)
shown_members read_only names m = all_kept mailbox_properties names (mailbox_members read_only m) refl

-- what is left of a thread is its JSON view
pub thread_members_shown : (names : Option (List (List ℕ))) (t : Thread) → without (hidden_of names thread_properties) (thread_members t) ≡ filter (λ p. is_shown names p.0) (thread_members t)
thread_members_shown names t = all_kept thread_properties names (thread_members t) refl
