-- The points of a session that was alone leave no gap: for its entries are all that the account gained, each point gained one at most, and a point begins at or after the end of the one before.
use Rattle.std.proofs.Common.{◌≡◌, ◌≢◌, ℕ, ◌+◌, ◌-◌, ◌≤◌, eqb, eq-eqb, Bool, true, false, cond, ◌&&◌, if◌then◌else◌, List, [], ◌∷◌, take, drop, length, Some, slice_get, refl, sym, ap, ◌∙◌, subst, arith, length-append}
use Rattle.std.specs.List.{AllByRecursion}
use Rattle.std.proofs.lemmas.Bool.{eqb-true, true≢false}
use Rattle.mail_records.specs.Histories.{Entry, History, entry_pass}
use Rattle.account_book.specs.declared.plans.Point.{Point}
use Rattle.account_lock.specs.Entries.{under}
use Rattle.account_lock.specs.Views.{PassFacts}
use Rattle.account_hall.specs.Closing.{AreEntriesOf, GoOn, HasOtherNumber, IsPartOf, LeaveNoGap, end_of_points, seeing}
use Rattle.account_hall.specs.Histories.{count_with}
use Rattle.account_hall.specs.Sessions.{AreInOrder, IsAfter, IsSession, IsWithinSeen, SessionView, entries_at, is_entered}
use Rattle.account_hall.proofs.Orders.{entered_is}

-- ---- counting

take_one : (es : List Entry) → length (take 1 es) ≤ 1
take_one [] = omega arith
take_one (e ∷ es) = omega arith

-- the entries that an account gained at a point
abbrev gained : ℕ → ℕ → List Entry → Point → List Entry
gained account base seen p = if is_entered account p then take 1 (drop (p.before - base) seen) else []

counted : (account base : ℕ) (seen : List Entry) (p : Point) (ps : List Point) → length (entries_at account base seen (p ∷ ps)) ≡ length (gained account base seen p) + length (entries_at account base seen ps)
counted account base seen p ps = length-append (gained account base seen p) (entries_at account base seen ps)

gained_if : (b : Bool) (es : List Entry) (before after : ℕ) → (b ≡ true → after ≡ before + 1) → before ≤ after → before + length (if b then take 1 es else []) ≤ after
gained_if true es before after next most = omega (arith, next refl, take_one es)
gained_if false es before after next most = omega (arith, most)

at_most : (account base : ℕ) (seen : List Entry) (p : Point) → p.before ≤ p.after → p.before + length (gained account base seen p) ≤ p.after
at_most account base seen p most = gained_if (is_entered account p) (drop (p.before - base) seen) p.before p.after (λ is. (entered_is account p is).1) most

none_gained : (account base : ℕ) (seen : List Entry) (p : Point) → eqb p.account account ≡ false → length (gained account base seen p) ≡ 0
none_gained account base seen p other = ap (λ (b : Bool). length (if b && eqb p.after (p.before + 1) then take 1 (drop (p.before - base) seen) else [])) other

-- if it is a point of the account, it is between these two
abbrev IsBetween : ℕ → ℕ → ℕ → Point → Type 0
IsBetween account low high p = p.account ≡ account → (low ≤ p.before) × (p.before ≤ p.after) × (p.after ≤ high)

after_first : (account low high : ℕ) (p : Point) (ps : List Point) → p.account ≡ account → AllByRecursion (IsBetween account low high) ps → AllByRecursion (IsAfter p) ps → AllByRecursion (IsBetween account p.after high) ps
after_first account low high p [] here between order = tt
after_first account low high p (q ∷ ps) here (b, between) (o, order) = ((λ is. let x = b is in (o (is ∙ sym here), x.1, x.2)), after_first account low high p ps here between order)

fits_by : (account base : ℕ) (seen : List Entry) (low high : ℕ) (p : Point) (ps : List Point) (t : Bool) → eqb p.account account ≡ t
    → ((lower : ℕ) → AllByRecursion (IsBetween account lower high) ps → lower ≤ high → lower + length (entries_at account base seen ps) ≤ high)
    → IsBetween account low high p → AllByRecursion (IsBetween account low high) ps → AllByRecursion (IsAfter p) ps → low ≤ high → low + length (entries_at account base seen (p ∷ ps)) ≤ high
fits_by account base seen low high p ps true test rest b between o most =
    let here = eqb-true p.account account test in
    let x = b here in
    omega (arith, x.0, at_most account base seen p x.1, rest p.after (after_first account low high p ps here between o) x.2, counted account base seen p ps)
fits_by account base seen low high p ps false test rest b between o most = omega (arith, none_gained account base seen p test, rest low between most, counted account base seen p ps)

fits : (account base : ℕ) (seen : List Entry) (low high : ℕ) (ps : List Point) → AllByRecursion (IsBetween account low high) ps → AreInOrder ps → low ≤ high → low + length (entries_at account base seen ps) ≤ high
fits account base seen low high [] between order most = omega (arith, most)
fits account base seen low high (p ∷ ps) (b, between) (o, order) most =
    fits_by account base seen low high p ps (eqb p.account account) refl (λ lower betw few. fits account base seen lower high ps betw order few) b between o most

-- the points leave no gap from `low` to `high`
abbrev FillUp : ℕ → ℕ → ℕ → List Point → Type 0
FillUp account low high ps = GoOn account low ps × (end_of_points account low ps ≡ high)

fill_by : (account base : ℕ) (seen : List Entry) (low high : ℕ) (p : Point) (ps : List Point) (t : Bool) → eqb p.account account ≡ t
    → ((lower : ℕ) → AllByRecursion (IsBetween account lower high) ps → lower ≤ high → high ≤ lower + length (entries_at account base seen ps) → FillUp account lower high ps)
    → AreInOrder ps → IsBetween account low high p → AllByRecursion (IsBetween account low high) ps → AllByRecursion (IsAfter p) ps → low ≤ high → high ≤ low + length (entries_at account base seen (p ∷ ps))
    → cond t ((p.before ≡ low) × GoOn account p.after ps) (GoOn account low ps) × (end_of_points account (cond t p.after low) ps ≡ high)
fill_by account base seen low high p ps true test rest order b between o most all =
    let here = eqb-true p.account account test in
    let x = b here in
    let more = after_first account low high p ps here between o in
    let count = counted account base seen p ps in
    let gain = at_most account base seen p x.1 in
    let left = fits account base seen p.after high ps more order x.2 in
    let on = rest p.after more x.2 (omega (arith, x.0, gain, count, all)) in
    ((omega (arith, x.0, gain, left, count, all), on.0), on.1)
fill_by account base seen low high p ps false test rest order b between o most all =
    rest low between most (omega (arith, none_gained account base seen p test, counted account base seen p ps, all))

-- if the points gained all that there is from `low` to `high`, they leave no gap
fill_up : (account base : ℕ) (seen : List Entry) (low high : ℕ) (ps : List Point) → AllByRecursion (IsBetween account low high) ps → AreInOrder ps → low ≤ high → high ≤ low + length (entries_at account base seen ps) → FillUp account low high ps
fill_up account base seen low high [] between order most all = (tt, omega (arith, most, all))
fill_up account base seen low high (p ∷ ps) (b, between) (o, order) most all =
    fill_by account base seen low high p ps (eqb p.account account) refl (λ lower betw few more. fill_up account base seen lower high ps betw order few more) order b between o most all

-- ---- all entries are under one number

under_none : (m : ℕ) (b : Bool) (e : Entry) (es : List Entry) → (if b then e ∷ under m es else under m es) ≡ [] → under m es ≡ []
under_none m true e es none = absurd (cc none)
under_none m false e es none = none

under_first : (n : ℕ) (b : Bool) (e : Entry) (es : List Entry) → eqb (entry_pass e) n ≡ b → ((m : ℕ) → m ≢ n → under m (e ∷ es) ≡ []) → under n es ≡ es → (if b then e ∷ under n es else under n es) ≡ e ∷ es
under_first n true e es test none rest = ap (λ xs. e ∷ xs) rest
under_first n false e es test none rest =
    let apart : entry_pass e ≢ n = λ same. true≢false (sym (eq-eqb (entry_pass e) n same) ∙ test) in
    let here : (if true then e ∷ under (entry_pass e) es else under (entry_pass e) es) ≡ [] = subst (λ b. (if b then e ∷ under (entry_pass e) es else under (entry_pass e) es) ≡ []) (eq-eqb (entry_pass e) (entry_pass e) refl) (none (entry_pass e) apart) in
    absurd (cc here)

all_under : (n : ℕ) (es : List Entry) → ((m : ℕ) → m ≢ n → under m es ≡ []) → under n es ≡ es
all_under n [] none = refl
all_under n (e ∷ es) none = under_first n (eqb (entry_pass e) n) e es refl none (all_under n es (λ m apart. under_none m (eqb (entry_pass e) m) e es (none m apart)))

-- ---- a session that was alone

same_length : (es fs : List Entry) → es ≡ fs → length es ≡ length fs
same_length es fs is = ap (λ (xs : List Entry). length xs) is

between_all : (account : ℕ) (k : PassFacts) (entries : List Entry) (ps : List Point) → AllByRecursion (IsWithinSeen account (seeing entries k)) ps → AllByRecursion (IsBetween account (length k.opening.entries) (count_with k.opening entries)) ps
between_all account k entries [] all = tt
between_all account k entries (p ∷ ps) (w, all) = (w, between_all account k entries ps all)

pub no_gap : (account : ℕ) (opening : History) (entries : List Entry) (s : SessionView) (k : PassFacts) → IsSession s → slice_get s.passes account ≡ Some k → AreEntriesOf account opening entries (s ∷ []) → LeaveNoGap account opening entries s.trail
no_gap account opening entries s k session there are =
    let part : IsPartOf account opening entries k s.trail = are.each.0 k there in
    let other : (n : ℕ) → n ≢ k.name → HasOtherNumber account n s = λ n apart x is. let same : k ≡ x = cc (there, is) in subst (λ (p : PassFacts). p.name ≢ n) same (λ e. apart (sym e)) in
    let all : under k.name entries ≡ entries = all_under k.name entries (λ n apart. are.no_others n (other n apart, tt)) in
    let count : length entries ≡ length (entries_at account (length k.opening.entries) entries s.trail) = same_length entries (entries_at account (length k.opening.entries) entries s.trail) (sym all ∙ part.in_order.own) in
    let both : FillUp account (length k.opening.entries) (count_with k.opening entries) s.trail =
    fill_up account (length k.opening.entries) entries (length k.opening.entries) (count_with k.opening entries) s.trail (between_all account k entries s.trail part.in_order.within) session.trail (omega arith) (omega (arith, count)) in
    let here : LeaveNoGap account k.opening entries s.trail = record { go_on = both.0; ends = both.1 } in
    subst (λ (h : History). LeaveNoGap account h entries s.trail) part.opening_is here
