-- A session that was alone in a hall of one account: each of its points begins where the one before ended, and the last one ends at the account's end. For its entries are all that the account has, each
-- point gained one at most, and a point begins at or after the end of the one before.
use Rattle.std.proofs.Common.{◌≡◌, ◌≢◌, ℕ, zero, suc, ◌+◌, ◌-◌, ◌≤◌, eqb, eq-eqb, Bool, true, false, ◌&&◌, if◌then◌else◌, List, [], ◌∷◌, ◌++◌, map, take, drop, length, Some, slice_get, refl, sym, ap, ap₂, ◌∙◌, subst, append_assoc, arith, length-append}
use Rattle.std.proofs.lemmas.Bool.{eqb-true, true≢false}
use Rattle.std.specs.Prelude.{⊤}
use Rattle.std.specs.List.{AllByRecursion, list_any}
use mathlib.Core.Option.{some, some-injective, some-ne-none}
use lib.ListN.{get_elem?}
use Rattle.mail_records.specs.Histories.{Committed, Entry, History, Refused, empty_history, entry_pass, is_refused}
use Rattle.account_book.specs.Books.{BookView, refusals_in}
use Rattle.account_book.specs.Passes.{named_since, numbered_since}
use Rattle.account_book.specs.declared.plans.Point.{Point}
use Rattle.account_lock.specs.Entries.{StartsWith, under}
use Rattle.account_lock.specs.Passes.{root_of, split_off, taken_in}
use Rattle.account_lock.specs.Views.{Ended, PassFacts}
use Rattle.account_hall.specs.Building.{AreBuilt, IsClosed, IsParted}
use Rattle.account_hall.specs.Halls.{AreOf, FrontView, HaveHeard, RoomView, all_taken_in, entries_of, lock_of_pass, lock_of_room, one_given}
use Rattle.account_hall.specs.Histories.{seen_count}
use Rattle.account_hall.specs.Sessions.{AreInOrder, IsAfter, IsFree, IsInOrder, IsSession, IsWithinSeen, SessionView, entries_at, is_entered, session_of}
use Rattle.account_hall.specs.declared.named_account.Named.{Named}
use Rattle.jmap_commands.specs.OneSession.{HasOneIn, IsFirst, WasAlone}

-- ---- points that leave no gap

-- the points are of the first account
abbrev pub AreOfFirst : List Point → Type 0
AreOfFirst ps = AllByRecursion (λ (p : Point). p.account ≡ 0) ps

-- each point begins where the one before ended; the first one begins here
abbrev pub GoesOn : ℕ → List Point → Type 0
GoesOn low [] = ⊤
GoesOn low (p ∷ ps) = (p.before ≡ low) × GoesOn p.after ps

-- where the last point ends
abbrev pub last_of : ℕ → List Point → ℕ
last_of low [] = low
last_of low (p ∷ ps) = last_of p.after ps

pub goes_on_before : (low : ℕ) (ps : List Point) (p : Point) → GoesOn low (ps ++ p ∷ []) → GoesOn low ps × (p.before ≡ last_of low ps)
goes_on_before low [] p w = (tt, w.0)
goes_on_before low (q ∷ ps) p w = let rest = goes_on_before q.after ps p w.1 in ((w.0, rest.0), rest.1)

pub last_on : (low : ℕ) (ps : List Point) (p : Point) → last_of low (ps ++ p ∷ []) ≡ p.after
last_on low [] p = refl
last_on low (q ∷ ps) p = last_on q.after ps p

pub same_length : (es fs : List Entry) → es ≡ fs → length es ≡ length fs
same_length es fs is = ap (λ (xs : List Entry). length xs) is

-- ---- counting

second_true : (a b : Bool) → (a && b) ≡ true → b ≡ true
second_true true b is = is
second_true false b is = absurd (cc is)

take_one : (es : List Entry) → length (take 1 es) ≤ 1
take_one [] = omega arith
take_one (e ∷ es) = omega arith

-- the entries that an account gained at a point
abbrev gained : ℕ → List Entry → Point → List Entry
gained base seen p = if is_entered 0 p then take 1 (drop (p.before - base) seen) else []

counted : (base : ℕ) (seen : List Entry) (p : Point) (ps : List Point) → length (entries_at 0 base seen (p ∷ ps)) ≡ length (gained base seen p) + length (entries_at 0 base seen ps)
counted base seen p ps = length-append (gained base seen p) (entries_at 0 base seen ps)

gained_if : (b : Bool) (es : List Entry) (before after : ℕ) → (b ≡ true → after ≡ before + 1) → before ≤ after → before + length (if b then take 1 es else []) ≤ after
gained_if true es before after next most = omega (arith, next refl, take_one es)
gained_if false es before after next most = omega (arith, most)

at_most : (base : ℕ) (seen : List Entry) (p : Point) → p.before ≤ p.after → p.before + length (gained base seen p) ≤ p.after
at_most base seen p most =
    gained_if (is_entered 0 p) (drop (p.before - base) seen) p.before p.after (λ is. eqb-true p.after (p.before + 1) (second_true (eqb p.account 0) (eqb p.after (p.before + 1)) is)) most

abbrev IsBetween : ℕ → ℕ → Point → Type 0
IsBetween low high p = (low ≤ p.before) × (p.before ≤ p.after) × (p.after ≤ high)

after_first : (p : Point) (low high : ℕ) (ps : List Point) → p.account ≡ 0 → AllByRecursion (IsBetween low high) ps → AllByRecursion (IsAfter p) ps → AreOfFirst ps
    → AllByRecursion (IsBetween p.after high) ps
after_first p low high [] here between order zeros = tt
after_first p low high (q ∷ ps) here (b, between) (o, order) (z, zeros) = ((o (z ∙ sym here), b.1, b.2), after_first p low high ps here between order zeros)

fits : (base : ℕ) (seen : List Entry) (low high : ℕ) (ps : List Point) → AllByRecursion (IsBetween low high) ps → AreInOrder ps → AreOfFirst ps → low ≤ high
    → low + length (entries_at 0 base seen ps) ≤ high
fits base seen low high [] between order zeros most = omega (arith, most)
fits base seen low high (p ∷ ps) (b, between) (o, order) (z, zeros) most =
    omega (
      arith,
      b.0,
      at_most base seen p b.1,
      fits base seen p.after high ps (after_first p low high ps z between o zeros) order zeros b.2,
      counted base seen p ps,
    )

-- if the points gained all that there is from `low` to `high`, they leave no gap
goes_on : (base : ℕ) (seen : List Entry) (low high : ℕ) (ps : List Point) → AllByRecursion (IsBetween low high) ps → AreInOrder ps → AreOfFirst ps → low ≤ high
    → high ≤ low + length (entries_at 0 base seen ps) → GoesOn low ps × (last_of low ps ≡ high)
goes_on base seen low high [] between order zeros most all = (tt, omega (arith, most, all))
goes_on base seen low high (p ∷ ps) (b, between) (o, order) (z, zeros) most all =
    let more = after_first p low high ps z between o zeros in
    let count = counted base seen p ps in
    let here = at_most base seen p b.1 in
    let left = fits base seen p.after high ps more order zeros b.2 in
    let rest = goes_on base seen p.after high ps more order zeros b.2 (omega (arith, b.0, here, count, all)) in
    ((omega (arith, b.0, here, left, count, all), rest.0), rest.1)

-- ---- a session that was alone

between_all : (k : PassFacts) (low high : ℕ) (ps : List Point) → length k.opening.entries ≡ low → seen_count k ≡ high → AreOfFirst ps → AllByRecursion (IsWithinSeen 0 k) ps
    → AllByRecursion (IsBetween low high) ps
between_all k low high [] begins ends zeros within = tt
between_all k low high (p ∷ ps) begins ends (z, zeros) (w, within) =
    let here = w z in
    ((omega (arith, here.0, begins), here.1, omega (arith, here.2, ends)), between_all k low high ps begins ends zeros within)

-- its points leave no gap, and end at the end of what it has seen
pub alone_goes_on : (s : SessionView) (entries : List Entry) (k : PassFacts) → WasAlone s entries → s.passes ≡ k ∷ [] → k.opening ≡ empty_history → AreOfFirst s.trail
    → GoesOn 0 s.trail × (last_of 0 s.trail ≡ length k.seen)
alone_goes_on s entries k alone only opens zeros =
    let same : alone.pass ≡ k = let e : alone.pass ∷ [] ≡ k ∷ [] = sym alone.only ∙ only in cc e in
    let there : slice_get s.passes 0 ≡ Some k = ap (λ (ks : List PassFacts). slice_get ks 0) only in
    let order : IsInOrder 0 k s.trail = alone.in_order.each 0 k there in
    let none : length k.opening.entries ≡ 0 = ap (λ (h : History). length h.entries) opens in
    let sum : length k.opening.entries + length k.seen ≡ length k.seen = omega (arith, none) in
    let count : seen_count k ≡ length k.seen = sum in
    let own : entries ≡ entries_at 0 (length k.opening.entries) k.seen s.trail = alone.own ∙ (ap (λ (q : PassFacts). q.own) same ∙ order.own) in
    let seen : StartsWith entries k.seen = subst (λ (q : PassFacts). StartsWith entries q.seen) same alone.seen in
    goes_on (length k.opening.entries) k.seen 0 (length k.seen) s.trail (between_all k 0 (length k.seen) s.trail none count zeros order.within) alone.in_order.trail zeros (omega arith)
    (omega (arith, same_length entries (k.seen ++ seen.0) seen.1, length-append k.seen seen.0, same_length entries (entries_at 0 (length k.opening.entries) k.seen s.trail) own))

-- ---- refusals

not_refused : (es : List Entry) → refusals_in es ≤ 0 → list_any is_refused es ≡ false
not_refused [] few = refl
not_refused (Committed c ∷ es) few = not_refused es few
not_refused (Refused stamp ∷ es) few = absurd (omega (arith, few))

any_before : (xs ys : List Entry) → list_any is_refused (xs ++ ys) ≡ false → list_any is_refused xs ≡ false
any_before [] ys none = refl
any_before (Committed c ∷ xs) ys none = any_before xs ys none
any_before (Refused stamp ∷ xs) ys none = absurd (true≢false none)

pub any_after : (n : ℕ) (es : List Entry) → list_any is_refused es ≡ false → list_any is_refused (drop n es) ≡ false
any_after zero es none = none
any_after (suc n) [] none = refl
any_after (suc n) (Committed c ∷ es) none = any_after n es none
any_after (suc n) (Refused stamp ∷ es) none = absurd (true≢false none)

pub any_named : (opened : History) (es : List Entry) → list_any is_refused (named_since opened es) ≡ list_any is_refused es
any_named opened [] = refl
any_named opened (Committed c ∷ es) = any_named opened es
any_named opened (Refused stamp ∷ es) = refl

pub refusals_numbered : (opened : History) (es : List Entry) → refusals_in (numbered_since opened es) ≡ refusals_in es
refusals_numbered opened [] = refl
refusals_numbered opened (Committed c ∷ es) = refusals_numbered opened es
refusals_numbered opened (Refused stamp ∷ es) = ap suc (refusals_numbered opened es)

-- what it has seen has no refusal, if the account has none
pub seen_not_refused : (entries seen : List Entry) → StartsWith entries seen → refusals_in entries ≤ 0 → list_any is_refused seen ≡ false
seen_not_refused entries seen (more, is) few = any_before seen more (subst (λ es. list_any is_refused es ≡ false) is (not_refused entries few))

pub seen_before : (log seen : List Entry) → StartsWith log seen → list_any is_refused log ≡ false → list_any is_refused seen ≡ false
seen_before log seen (more, is) none = any_before seen more (subst (λ es. list_any is_refused es ≡ false) is none)

-- ---- the hall is taken apart

under_none : (m x : ℕ) (b : Bool) (e : Entry) (es : List Entry) → (if b then e ∷ under m es else under m es) ≡ [] → under m es ≡ []
under_none m x true e es none = absurd (cc none)
under_none m x false e es none = none

under_first : (n : ℕ) (b : Bool) (e : Entry) (es : List Entry) → eqb (entry_pass e) n ≡ b → ((m : ℕ) → m ≢ n → under m (e ∷ es) ≡ []) → under n es ≡ es → (if b then e ∷ under n es else under n es) ≡ e ∷ es
under_first n true e es test none rest = ap (λ xs. e ∷ xs) rest
under_first n false e es test none rest =
    let apart : entry_pass e ≢ n = λ same. true≢false (sym (eq-eqb (entry_pass e) n same) ∙ test) in
    let here : (if true then e ∷ under (entry_pass e) es else under (entry_pass e) es) ≡ [] = subst (λ b. (if b then e ∷ under (entry_pass e) es else under (entry_pass e) es) ≡ []) (eq-eqb (entry_pass e) (entry_pass e) refl) (none (entry_pass e) apart) in
    absurd (cc here)

-- if no entry is under another name, all are under this one
all_under : (n : ℕ) (es : List Entry) → ((m : ℕ) → m ≢ n → under m es ≡ []) → under n es ≡ es
all_under n [] none = refl
all_under n (e ∷ es) none =
    under_first n (eqb (entry_pass e) n) e es refl none (all_under n es (λ m apart. under_none m (entry_pass e) (eqb (entry_pass e) m) e es (none m apart)))

one_pass : {Z : Type 0} (lock : PassFacts → Z) (z : Z) (ks : List PassFacts) → map lock ks ≡ z ∷ [] → (k : PassFacts) × (ks ≡ k ∷ [])
one_pass lock z [] is = absurd (cc is)
one_pass lock z (k ∷ []) is = (k, refl)
one_pass lock z (k ∷ l ∷ ks) is = absurd (cc is)

last_one : {A : Type 0} (xs : List A) (x y : A) → y ∷ [] ≡ xs ++ x ∷ [] → x ≡ y
last_one [] x y is = cc is
last_one (a ∷ []) x y is = absurd (cc is)
last_one (a ∷ b ∷ xs) x y is = absurd (cc is)

one_ended : (x e : Ended) (i : ℕ) → get_elem? (x ∷ []) i ≡ some e → e ≡ x
one_ended x e zero is = sym (some-injective x e is)
one_ended x e (suc i) is = absurd (some-ne-none e (sym is))

module _ {K R : Type 0} (book : BookView K R) (root k : PassFacts) (none_left : root.ended ≡ []) (none_joined : k.ended ≡ []) (closed : IsClosed (taken_in root k) book) where
  abbrev the_ended : Ended
  the_ended = record { name = k.name; entries = k.own }

  ended_is : (taken_in root k).ended ≡ the_ended ∷ []
  ended_is = ap (λ (xs : List Ended). xs ++ the_ended ∷ k.ended) none_left ∙ ap (λ (xs : List Ended). the_ended ∷ xs) none_joined

  own_is : under k.name (entries_of book) ≡ k.own
  own_is = closed.entries_are.ended 0 the_ended (ap (λ (xs : List Ended). get_elem? xs 0) ended_is)

  no_others : (n : ℕ) → n ≢ k.name → under n (entries_of book) ≡ []
  no_others n apart =
      closed.entries_are.names n (λ i e there same. apart (sym same ∙ ap (λ (x : Ended). x.name) (one_ended the_ended e i (subst (λ (xs : List Ended). get_elem? xs i ≡ some e) ended_is there))))

  all_own : entries_of book ≡ k.own
  all_own = sym (all_under k.name (entries_of book) no_others) ∙ own_is

further : (log seen more : List Entry) → StartsWith more log → StartsWith log seen → StartsWith more seen
further log seen more (rest, is) (others, was) = (others ++ rest, is ∙ (ap (λ (es : List Entry). es ++ rest) was ∙ append_assoc seen others rest))

alone_by : {K R : Type 0} (root k proot : PassFacts) (s : SessionView) (account : Named K R) (new_roots : List PassFacts) → root.ended ≡ [] → s.passes ≡ k ∷ [] → taken_in root k ∷ [] ≡ new_roots ++ proot ∷ [] → IsClosed proot account.book
    → HaveHeard (taken_in root k ∷ []) (root ∷ []) (k ∷ []) → IsSession s → WasAlone s (entries_of account.book)
alone_by root k proot s account new_roots none only last closed heard session =
    let is : proot ≡ taken_in root k = last_one new_roots proot (taken_in root k) last in
    let here = subst (λ (q : PassFacts). IsClosed q account.book) is closed in
    let free = (subst (AllByRecursion IsFree) only session.free).0 in
    record {
      pass = k;
      only = only;
      seen = further (taken_in root k).seen k.seen (entries_of account.book) here.entries_are.seen heard.1;
      own = all_own account.book root k none free.ended here;
      in_order = session;
    }

-- the session that left a hall of one account was alone
pub was_alone : {K R : Type 0} (rooms new : List RoomView) (front : FrontView) (roots new_roots : List PassFacts) (s : SessionView) (account : Named K R) → HasOneIn rooms front → AreOf rooms s.passes
    → roots ≡ all_taken_in front.roots s.passes → HaveHeard roots front.roots s.passes → IsParted rooms new roots new_roots account → IsSession s → WasAlone s (entries_of account.book)
was_alone rooms new front roots new_roots s account one of taken heard parted session =
    let own = one_pass lock_of_pass one.room.lock s.passes (of ∙ ap (map lock_of_room) one.rooms_are) in
    let k = own.0 in
    let is : roots ≡ taken_in one.root k ∷ [] = taken ∙ (ap (λ rs. all_taken_in rs s.passes) one.roots_are ∙ ap (all_taken_in (one.root ∷ [])) own.1) in
    let heard' : HaveHeard (taken_in one.root k ∷ []) (one.root ∷ []) (k ∷ []) =
    subst (λ ks. HaveHeard (taken_in one.root k ∷ []) (one.root ∷ []) ks) own.1 (subst (λ rs. HaveHeard (taken_in one.root k ∷ []) rs s.passes) one.roots_are (subst (λ xs. HaveHeard xs front.roots s.passes) is heard)) in
    alone_by one.root k parted.root s account new_roots one.none_left own.1 (sym is ∙ parted.roots) parted.closed heard' session

-- a hall of one account was built
one_built : {K R : Type 0} (account : Named K R) (rooms : List RoomView) (roots : List PassFacts) → AreBuilt (account ∷ []) rooms roots
    → (room : RoomView) × (rooms ≡ room ∷ []) × (roots ≡ root_of room.lock account.book.before account.book.opened ∷ [])
one_built account [] [] built = absurd built
one_built account [] (k ∷ ks) built = absurd built
one_built account (r ∷ rs) [] built = absurd built
one_built account (r ∷ []) (k ∷ []) built = (r, refl, ap (λ x. x ∷ []) built.1)
one_built account (r ∷ s ∷ rs) (k ∷ ks) built = absurd built.2
one_built account (r ∷ []) (k ∷ l ∷ ks) built = absurd built.2

pub built_of : {K R : Type 0} (account : Named K R) (accounts : List (Named K R)) (rooms : List RoomView) (roots : List PassFacts) → accounts ≡ account ∷ [] → AreBuilt accounts rooms roots
    → (room : RoomView) × (rooms ≡ room ∷ []) × (roots ≡ root_of room.lock account.book.before account.book.opened ∷ [])
built_of account accounts rooms roots is built = one_built account rooms roots (subst (λ xs. AreBuilt xs rooms roots) is built)

-- a session was let into it
module _ (before : ℕ) (opened : History) (rooms : List RoomView) (roots : List PassFacts) (built : (room : RoomView) × (rooms ≡ room ∷ []) × (roots ≡ root_of room.lock before opened ∷ [])) where
  pub one_in : (front : FrontView) (inside admitted : ℕ) → inside ≡ 0 → front ≡ record { roots = map one_given roots; inside = inside + 1; admitted = admitted + 1 } → HasOneIn rooms front
  one_in front inside admitted none is = record {
    room = built.0;
    root = one_given (root_of built.0.lock before opened);
    rooms_are = built.1;
    roots_are = ap (λ (f : FrontView). f.roots) is ∙ ap (map one_given) built.2;
    none_left = refl;
    inside = ap (λ (f : FrontView). f.inside) is ∙ ap (λ n. n + 1) none;
  }

  pub first_in : (session : SessionView) → session.passes ≡ map split_off roots → session.trail ≡ [] → IsFirst before opened session
  first_in session passes trail = record {
    room = built.0;
    is = ap₂ (λ (ks : List PassFacts) (ps : List Point). session_of ks ps) (passes ∙ ap (map split_off) built.2) trail;
  }
