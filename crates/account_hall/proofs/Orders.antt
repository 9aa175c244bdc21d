-- A session stays in order.
use Rattle.std.proofs.Common.{◌≡◌, ◌≢◌, inl, inr, ℕ, zero, suc, ◌+◌, ◌-◌, ◌≤◌, Bool, true, false, ◌&&◌, if◌then◌else◌, eqb, eq-eqb, ne_eqb, List, [], ◌∷◌, ◌++◌, map, take, drop, length, refl, sym, ap, ap₂, ◌∙◌, subst, append_assoc, arith, length-append}
use Rattle.std.specs.List.{AllByRecursion}
use Rattle.std.proofs.lemmas.List.{append-nil, drop-append-le, map-append, take-append-le}
use Rattle.std.proofs.lemmas.Bool.{eqb-true}
use Rattle.mail_records.specs.Histories.{History, Entry, entry_stamp}
use Rattle.mail_records.specs.declared.edits.Stamp.{Stamp}
use Rattle.account_book.specs.declared.plans.Point.{Point}
use Rattle.account_lock.specs.Entries.{StartsWith, under}
use Rattle.account_lock.specs.Views.{PassFacts}
use Rattle.account_lock.proofs.Entries.{under-append}
use Rattle.account_hall.specs.Calls.{HasLooked}
use Rattle.account_hall.specs.Histories.{GainsAtMostOne, count_with, seen_count}
use Rattle.account_hall.specs.Sessions.{AreInOrder, IsAfter, IsInOrder, IsWithinSeen, entries_at, entry_serial, is_entered, numbers_at}

-- ---- a test of two numbers, and of a point

eqb_same : (a b : ℕ) → a ≡ b → eqb a b ≡ true
eqb_same a b is = eq-eqb a b is

eqb_apart : (a b : ℕ) → a ≢ b → eqb a b ≡ false
eqb_apart a b apart = ne_eqb a b apart

both_true : (a b : Bool) → (a && b) ≡ true → (a ≡ true) × (b ≡ true)
both_true true true is = (refl, refl)
both_true true false is = absurd (cc is)
both_true false b is = absurd (cc is)

pub entered_is : (account : ℕ) (p : Point) → is_entered account p ≡ true → (p.account ≡ account) × (p.after ≡ p.before + 1)
entered_is account p is = let b = both_true _ _ is in (eqb-true p.account account b.0, eqb-true p.after (p.before + 1) b.1)

entered_not : (account : ℕ) (p : Point) → p.account ≢ account → is_entered account p ≡ false
entered_not account p apart = ap (λ b. b && eqb p.after (p.before + 1)) (eqb_apart p.account account apart)

entered_none : (account : ℕ) (p : Point) → p.account ≡ account → p.after ≡ p.before → is_entered account p ≡ false
entered_none account p here none =
    ap (λ b. b && eqb p.after (p.before + 1)) (eqb_same p.account account here) ∙ eqb_apart p.after (p.before + 1) (λ same. absurd (omega (arith, none, same)))

entered_one : (account : ℕ) (p : Point) → p.account ≡ account → p.after ≡ p.before + 1 → is_entered account p ≡ true
entered_one account p here next =
    ap (λ b. b && eqb p.after (p.before + 1)) (eqb_same p.account account here) ∙ eqb_same p.after (p.before + 1) next

-- ---- one point more at the end

all_push : {A : Type 0} (P : A → Type 0) (xs : List A) (x : A) → AllByRecursion P xs → P x → AllByRecursion P (xs ++ x ∷ [])
all_push P [] x all one = (one, tt)
all_push P (y ∷ ys) x all one = (all.0, all_push P ys x all.1 one)

all_map : {A : Type 0} (P Q : A → Type 0) (xs : List A) → ((x : A) → P x → Q x) → AllByRecursion P xs → AllByRecursion Q xs
all_map P Q [] f all = tt
all_map P Q (x ∷ xs) f all = (f x all.0, all_map P Q xs f all.1)

entries_at-push : (account base : ℕ) (seen : List Entry) (ps : List Point) (p : Point) → entries_at account base seen (ps ++ p ∷ []) ≡ entries_at account base seen ps ++ (if is_entered account p then take 1 (drop (p.before - base) seen) else [])
entries_at-push account base seen [] p = append-nil _
entries_at-push account base seen (q ∷ qs) p =
    ap (λ es. (if is_entered account q then take 1 (drop (q.before - base) seen) else []) ++ es) (entries_at-push account base seen qs p)
    ∙ sym (append_assoc (if is_entered account q then take 1 (drop (q.before - base) seen) else []) (entries_at account base seen qs) _)

numbers_at-push : (account n : ℕ) (ps : List Point) (p : Point) → numbers_at account n (ps ++ p ∷ []) ≡ numbers_at account n ps ++ (if is_entered account p then (n + length ps) ∷ [] else [])
numbers_at-push account n [] p =
    append-nil _ ∙ ap (λ m. if is_entered account p then m ∷ [] else []) (same n)
  where
    same : (n : ℕ) → n ≡ n + 0
    same n = omega arith
numbers_at-push account n (q ∷ qs) p =
    ap (λ ns. (if is_entered account q then n ∷ [] else []) ++ ns) (numbers_at-push account (n + 1) qs p)
    ∙ (sym (append_assoc (if is_entered account q then n ∷ [] else []) (numbers_at account (n + 1) qs) _)
    ∙ ap (λ m. ((if is_entered account q then n ∷ [] else []) ++ numbers_at account (n + 1) qs) ++ (if is_entered account p then m ∷ [] else [])) (next n (length qs)))
  where
    next : (n m : ℕ) → (n + 1) + m ≡ n + suc m
    next n m = omega arith

in_order_push : (ps : List Point) (p : Point) → AreInOrder ps → AllByRecursion (λ q. p.account ≡ q.account → q.after ≤ p.before) ps → AreInOrder (ps ++ p ∷ [])
in_order_push [] p order all = (tt, tt)
in_order_push (q ∷ qs) p order all = (all_push (IsAfter q) qs p order.0 all.0, in_order_push qs p order.1 all.1)

-- ---- the account of the point, and another one

length_drop_one : (i : ℕ) (xs : List Entry) → i + 1 ≤ length xs → 1 ≤ length (drop i xs)
length_drop_one zero xs low = omega (arith, low)
length_drop_one (suc i) [] low = absurd (omega (arith, low))
length_drop_one (suc i) (x ∷ xs) low = length_drop_one i xs (omega (arith, low))

-- what was seen before stays where it is
shown_more : (account base : ℕ) (seen more : List Entry) (p : Point) → (p.account ≡ account → (base ≤ p.before) × (p.before ≤ p.after) × (p.after ≤ base + length seen))
    → (if is_entered account p then take 1 (drop (p.before - base) (seen ++ more)) else []) ≡ (if is_entered account p then take 1 (drop (p.before - base) seen) else [])
shown_more account base seen more p within = by_case (is_entered account p) refl
  where
    by_case : (b : Bool) → is_entered account p ≡ b → (if b then take 1 (drop (p.before - base) (seen ++ more)) else []) ≡ (if b then take 1 (drop (p.before - base) seen) else [])
    by_case false is = refl
    by_case true is =
        let e = entered_is account p is in
        let w = within e.0 in
        let i = p.before - base in
        let low : i + 1 ≤ length seen = omega (arith, e.1, w.0, w.1, w.2) in
        let here : i ≤ length seen = omega (arith, low) in
        let rest = length_drop_one i seen low in
        ap (take 1) (drop-append-le i seen more here) ∙ take-append-le 1 (drop i seen) more rest

entries_at-more : (account base : ℕ) (seen more : List Entry) (ps : List Point) → AllByRecursion (λ p. p.account ≡ account → (base ≤ p.before) × (p.before ≤ p.after) × (p.after ≤ base + length seen)) ps
    → entries_at account base (seen ++ more) ps ≡ entries_at account base seen ps
entries_at-more account base seen more [] all = refl
entries_at-more account base seen more (p ∷ ps) all = ap₂ (λ (xs ys : List Entry). xs ++ ys) (shown_more account base seen more p all.0) (entries_at-more account base seen more ps all.1)

-- another account's point
pub in_order_other : (account : ℕ) (k : PassFacts) (trail : List Point) (p : Point) → p.account ≢ account → IsInOrder account k trail → IsInOrder account k (trail ++ p ∷ [])
in_order_other account k trail p apart o =
    let base = length k.opening.entries in
    let not = entered_not account p apart in
    record {
      within = all_push (IsWithinSeen account k) trail p o.within (λ same. absurd (apart same));
      own = o.own ∙ sym (entries_at-push account base k.seen trail p ∙ (ap (λ b. entries_at account base k.seen trail ++ (if b then take 1 (drop (p.before - base) k.seen) else [])) not ∙ append-nil _));
      serials = o.serials ∙ sym (numbers_at-push account 1 trail p ∙ (ap (λ b. numbers_at account 1 trail ++ (if b then (1 + length trail) ∷ [] else [])) not ∙ append-nil _));
    }

-- ---- the pass has seen more

pub more_seen : (opened : History) (seen log : List Entry) → StartsWith log seen → count_with opened seen ≤ count_with opened log
more_seen opened seen log s = let l = ap length s.1 ∙ length-append seen s.0 in omega (arith, l)

pub within_more : (account : ℕ) (k k' : PassFacts) (ps : List Point) → k'.opening ≡ k.opening → StartsWith k'.seen k.seen → AllByRecursion (IsWithinSeen account k) ps → AllByRecursion (IsWithinSeen account k') ps
within_more account k k' ps same starts all =
    let far = more_seen k.opening k.seen k'.seen starts in
    let count : seen_count k ≤ seen_count k' = subst (λ o. count_with k.opening k.seen ≤ count_with o k'.seen) (sym same) far in
    let base : length k'.opening.entries ≡ length k.opening.entries = ap (λ (h : History). length h.entries) same in
    all_map (IsWithinSeen account k) (IsWithinSeen account k') ps (λ p w here. let x = w here in (omega (arith, base, x.0), x.1, omega (arith, count, x.2))) all

-- what was its own stays so, if it has seen more
pub own_more : (account : ℕ) (k k' : PassFacts) (trail : List Point) → k'.opening ≡ k.opening → StartsWith k'.seen k.seen → IsInOrder account k trail → k.own ≡ entries_at account (length k'.opening.entries) k'.seen trail
own_more account k k' trail same starts o =
    let base = length k.opening.entries in
    o.own
    ∙ sym (ap (λ (h : History). entries_at account (length h.entries) k'.seen trail) same
    ∙ (ap (λ es. entries_at account base es trail) starts.1 ∙ entries_at-more account base k.seen starts.0 trail o.within))

pub in_order_looked : (account : ℕ) (k k' : PassFacts) (trail : List Point) → HasLooked k k' → IsInOrder account k trail → IsInOrder account k' trail
in_order_looked account k k' trail l o =
    let same : k'.opening ≡ k.opening = ap (λ (x : PassFacts). x.opening) l.same in
    record {
      within = within_more account k k' trail same l.seen o.within;
      own = l.own ∙ own_more account k k' trail same l.seen o;
      serials = ap (map entry_serial) l.own ∙ o.serials;
    }

-- ---- a call

drop_length : {A : Type 0} (xs ys : List A) → drop (length xs) (xs ++ ys) ≡ ys
drop_length [] ys = refl
drop_length (x ∷ xs) ys = drop_length xs ys

under_one : (n serial : ℕ) (e : Entry) → entry_stamp e ≡ record { pass = n; serial = serial } → under n (e ∷ []) ≡ e ∷ []
under_one n serial e is = ap (λ b. if b then e ∷ [] else []) (eqb_same (entry_stamp e).pass n (ap (λ (s : Stamp). s.pass) is))

module _ (account : ℕ) (k k' : PassFacts) (trail : List Point) (p : Point) (found : List Entry) (o : IsInOrder account k trail)
    (here : p.account ≡ account) (opening : k'.opening ≡ k.opening) (starts : StartsWith found k.seen) (own_then : under k.name found ≡ k.own) (own_now : k'.own ≡ under k.name k'.seen)
    (first : p.before ≡ count_with k.opening found) (last : p.after ≡ count_with k.opening k'.seen) where
  base_is : length k'.opening.entries ≡ length k.opening.entries
  base_is = ap (λ (h : History). length h.entries) opening

  count_is : seen_count k' ≡ count_with k.opening k'.seen
  count_is = ap (λ h. count_with h k'.seen) opening

  by_gain : GainsAtMostOne k.name (length trail + 1) p.before p.after found k'.seen → IsInOrder account k' (trail ++ p ∷ [])
  by_gain (inl none) =
      let seen : StartsWith k'.seen k.seen = subst (λ es. StartsWith es k.seen) (sym none.same) starts in
      let own : k'.own ≡ k.own = own_now ∙ (ap (under k.name) none.same ∙ own_then) in
      let not = entered_none account p here none.none in
      let base = length k'.opening.entries in
      record {
        within = all_push (IsWithinSeen account k') trail p (within_more account k k' trail opening seen o.within) (λ same. (omega (arith, base_is, first), omega (arith, none.none), omega (arith, last, count_is)));
        own = own ∙ (own_more account k k' trail opening seen o ∙ sym (entries_at-push account base k'.seen trail p ∙ (ap (λ b. entries_at account base k'.seen trail ++ (if b then take 1 (drop (p.before - base) k'.seen) else [])) not ∙ append-nil _)));
        serials = ap (map entry_serial) own ∙ (o.serials ∙ sym (numbers_at-push account 1 trail p ∙ (ap (λ b. numbers_at account 1 trail ++ (if b then (1 + length trail) ∷ [] else [])) not ∙ append-nil _)));
      }
  by_gain (inr one) =
      let e = one.entry in
      let base = length k'.opening.entries in
      let seen : StartsWith k'.seen k.seen = (starts.0 ++ e ∷ [], one.grows ∙ (ap (λ (es : List Entry). es ++ e ∷ []) starts.1 ∙ append_assoc k.seen starts.0 (e ∷ []))) in
      let own : k'.own ≡ k.own ++ e ∷ [] = own_now ∙ (ap (under k.name) one.grows ∙ (under-append k.name found (e ∷ []) ∙ ap₂ (λ (xs ys : List Entry). xs ++ ys) own_then (under_one k.name (length trail + 1) e one.stamp))) in
      let yes = entered_one account p here one.next in
      let at : p.before - base ≡ length found = omega (arith, base_is, first) in
      let there : take 1 (drop (p.before - base) k'.seen) ≡ e ∷ [] = ap (λ n. take 1 (drop n k'.seen)) at ∙ (ap (λ es. take 1 (drop (length found) es)) one.grows ∙ ap (take 1) (drop_length found (e ∷ []))) in
      let serial : entry_serial e ≡ 1 + length trail = ap (λ (s : Stamp). s.serial) one.stamp ∙ flip (length trail) in
      record {
        within = all_push (IsWithinSeen account k') trail p (within_more account k k' trail opening seen o.within) (λ same. (omega (arith, base_is, first), omega (arith, one.next), omega (arith, last, count_is)));
        own = own ∙ (ap₂ (λ (xs ys : List Entry). xs ++ ys) (own_more account k k' trail opening seen o) (sym there)
            ∙ sym (entries_at-push account base k'.seen trail p ∙ ap (λ b. entries_at account base k'.seen trail ++ (if b then take 1 (drop (p.before - base) k'.seen) else [])) yes));
        serials = ap (map entry_serial) own ∙ (map-append entry_serial k.own (e ∷ []) ∙ (ap₂ (λ (xs ys : List ℕ). xs ++ ys) o.serials (ap (λ n. n ∷ []) serial)
            ∙ sym (numbers_at-push account 1 trail p ∙ ap (λ b. numbers_at account 1 trail ++ (if b then (1 + length trail) ∷ [] else [])) yes)));
      }
    where
      flip : (n : ℕ) → n + 1 ≡ 1 + n
      flip n = omega arith

  pub in_order_called : GainsAtMostOne k.name (length trail + 1) p.before p.after found k'.seen → IsInOrder account k' (trail ++ p ∷ [])
  in_order_called gains = by_gain gains

  pub trail_called : AreInOrder trail → AreInOrder (trail ++ p ∷ [])
  trail_called order =
      let far = more_seen k.opening k.seen found starts in
      in_order_push trail p order (all_map (IsWithinSeen account k) (λ q. p.account ≡ q.account → q.after ≤ p.before) trail
      (λ q w same. let x = w (sym same ∙ here) in omega (arith, x.2, far, first)) o.within)
