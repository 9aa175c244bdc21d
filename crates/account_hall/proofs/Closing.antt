-- What a hall's front knows of the sessions that left, and what an account has of them that is taken out of the hall.
use Rattle.std.proofs.Common.{◌≡◌, ◌≢◌, inl, inr, ℕ, zero, suc, List, [], ◌∷◌, ◌++◌, map, Option, None, Some, slice_get, refl, sym, ap, ◌∙◌, subst, append_assoc, arith}
use Rattle.std.specs.List.{AllByRecursion}
use Rattle.std.proofs.lemmas.List.{append-nil, length-map}
use mathlib.Core.Option.{some}
use lib.ListN.{get_elem?}
use Rattle.mail_records.specs.Histories.{Entry, History}
use Rattle.account_lock.specs.Entries.{StartsWith, under}
use Rattle.account_lock.specs.Passes.{HasEndedAll, IsLast, taken_in}
use Rattle.account_lock.specs.Views.{Ended, PassFacts}
use Rattle.account_hall.specs.Building.{AreClosedBy}
use Rattle.account_hall.specs.Closing.{AreEntriesOf, FrontGoes, FrontKnows, HasAllOf, HasHeardOf, HasOtherNumber, HasOwnNumber, HaveOwnNumbers, IsPartOf, KnowsSessions, ended_by, ended_of, opened_by, seeing}
use Rattle.account_hall.specs.Halls.{HaveHeard, all_taken_in, one_given}
use Rattle.account_hall.specs.Sessions.{IsFree, IsInOrder, IsSession, SessionView, entry_serial}
use Rattle.account_hall.proofs.Fronts.{all_at}
use Rattle.account_hall.proofs.Numbers.{Differ, IsIn, all_differ}
use Rattle.account_hall.proofs.Orders.{own_more, within_more}

-- ---- lists

all_both : {A : Type 0} (P : A → Type 0) (xs ys : List A) → AllByRecursion P xs → AllByRecursion P ys → AllByRecursion P (xs ++ ys)
all_both P [] ys h k = k
all_both P (x ∷ xs) ys h k = (h.0, all_both P xs ys h.1 k)

all_map : {A : Type 0} (P Q : A → Type 0) (xs : List A) → ((x : A) → P x → Q x) → AllByRecursion P xs → AllByRecursion Q xs
all_map P Q [] f h = tt
all_map P Q (x ∷ xs) f h = (f x h.0, all_map P Q xs f h.1)

all_ended : (P : Ended → Type 0) (es : List Ended) → ((i : ℕ) (e : Ended) → get_elem? es i ≡ some e → P e) → AllByRecursion P es
all_ended P [] f = tt
all_ended P (e ∷ es) f = (f 0 e refl, all_ended P es (λ i x there. f (suc i) x there))

ended_at : (P : Ended → Type 0) (es : List Ended) (i : ℕ) (e : Ended) → AllByRecursion P es → get_elem? es i ≡ some e → P e
ended_at P [] i e h there = absurd (cc there)
ended_at P (x ∷ es) zero e h there = let same : x ≡ e = cc there in subst P same h.0
ended_at P (x ∷ es) (suc i) e h there = ended_at P es i e h.1 there

pub seen_further : (log seen more : List Entry) → StartsWith more log → StartsWith log seen → StartsWith more seen
seen_further log seen more (rest, is) (others, was) = (others ++ rest, is ∙ (ap (λ (es : List Entry). es ++ rest) was ∙ append_assoc seen others rest))

-- ---- sessions come and go

pub none_known : (roots : List PassFacts) → AllByRecursion (λ r. r.ended ≡ []) roots → FrontKnows roots []
none_known roots none account root there = record {
  in_order = tt;
  heard = tt;
  ended = all_at (λ (r : PassFacts). r.ended ≡ []) roots account root none there;
}

given_at : (roots : List PassFacts) (i : ℕ) (r' : PassFacts) → slice_get (map one_given roots) i ≡ Some r' → (r : PassFacts) × (slice_get roots i ≡ Some r) × (r' ≡ one_given r)
given_at [] i r' there = absurd (cc there)
given_at (r ∷ roots) zero r' there = (r, refl, cc there)
given_at (r ∷ roots) (suc i) r' there = given_at roots i r' there

pub knows_given : (roots : List PassFacts) (sessions : List SessionView) → FrontKnows roots sessions → FrontKnows (map one_given roots) sessions
knows_given roots sessions knows account r' there =
    let at = given_at roots account r' there in
    let k = knows account at.0 at.1 in
    subst (λ (r : PassFacts). KnowsSessions account r sessions) (sym at.2) (record { in_order = k.in_order; heard = k.heard; ended = k.ended })

-- the root of an account after a session has left, and the session's pass
record IsJoined (roots ks : List PassFacts) (account : ℕ) (r' : PassFacts) : Type 0 where
  root : PassFacts
  pass : PassFacts
  root_there : slice_get roots account ≡ Some root
  pass_there : slice_get ks account ≡ Some pass
  is : r' ≡ taken_in root pass
  opening : pass.opening ≡ root.opening
  before : StartsWith (taken_in root pass).seen root.seen
  heard : StartsWith (taken_in root pass).seen pass.seen

joined_at : (roots ks : List PassFacts) (i : ℕ) (r' : PassFacts) → map opened_by ks ≡ map opened_by roots → HaveHeard (all_taken_in roots ks) roots ks → slice_get (all_taken_in roots ks) i ≡ Some r' → IsJoined roots ks i r'
joined_at [] ks i r' same heard there = absurd (cc there)
joined_at (r ∷ roots) [] i r' same heard there = absurd (cc same)
joined_at (r ∷ roots) (k ∷ ks) zero r' same heard there = record {
  root = r;
  pass = k;
  root_there = refl;
  pass_there = refl;
  is = cc there;
  opening = cc same;
  before = heard.0;
  heard = heard.1;
}
joined_at (r ∷ roots) (k ∷ ks) (suc i) r' same heard there =
    let rest : map opened_by ks ≡ map opened_by roots = cc same in
    let j = joined_at roots ks i r' rest heard.2 there in
    record {
      root = j.root;
      pass = j.pass;
      root_there = j.root_there;
      pass_there = j.pass_there;
      is = j.is;
      opening = j.opening;
      before = j.before;
      heard = j.heard;
    }

ended_by-push : (account : ℕ) (sessions : List SessionView) (s : SessionView) → ended_by account (sessions ++ s ∷ []) ≡ ended_by account sessions ++ ended_of (slice_get s.passes account)
ended_by-push account [] s = append-nil (ended_of (slice_get s.passes account))
ended_by-push account (x ∷ xs) s =
    ap (λ (es : List Ended). ended_of (slice_get x.passes account) ++ es) (ended_by-push account xs s)
    ∙ sym (append_assoc (ended_of (slice_get x.passes account)) (ended_by account xs) (ended_of (slice_get s.passes account)))

-- what the root keeps of the session more
ended_more : (account : ℕ) (r k : PassFacts) (s : SessionView) (sessions : List SessionView) → slice_get s.passes account ≡ Some k → k.ended ≡ [] → r.ended ≡ ended_by account sessions → (taken_in r k).ended ≡ ended_by account (sessions ++ s ∷ [])
ended_more account r k s sessions there none ended =
    ap (λ (es : List Ended). r.ended ++ record { name = k.name; entries = k.own } ∷ es) none
    ∙ (ap (λ (es : List Ended). es ++ record { name = k.name; entries = k.own } ∷ []) ended
    ∙ (ap (λ (o : Option PassFacts). ended_by account sessions ++ ended_of o) (sym there) ∙ sym (ended_by-push account sessions s)))

knows_one_more : (account : ℕ) (r k : PassFacts) (s : SessionView) (sessions : List SessionView) → IsSession s → slice_get s.passes account ≡ Some k → k.ended ≡ [] → k.opening ≡ r.opening → StartsWith (taken_in r k).seen r.seen → StartsWith (taken_in r k).seen k.seen
    → KnowsSessions account r sessions → KnowsSessions account (taken_in r k) (sessions ++ s ∷ [])
knows_one_more account r k s sessions session there none opening before heard knows =
    let r' = taken_in r k in
    let only : (x : PassFacts) → slice_get s.passes account ≡ Some x → k ≡ x = λ x here. cc (there, here) in
    record {
      in_order = all_both IsSession sessions (s ∷ []) knows.in_order (session, tt);
      heard = all_both (HasHeardOf account r') sessions (s ∷ [])
          (all_map (HasHeardOf account r) (HasHeardOf account r') sessions (λ x h p here. ((h p here).0, seen_further r.seen p.seen r'.seen before (h p here).1)) knows.heard)
          ((λ x here. subst (λ (p : PassFacts). (p.opening ≡ r.opening) × StartsWith r'.seen p.seen) (only x here) (opening, heard)), tt);
      ended = ended_more account r k s sessions there none knows.ended;
    }

pub knows_left : (roots : List PassFacts) (s : SessionView) (sessions : List SessionView) → map opened_by s.passes ≡ map opened_by roots → HaveHeard (all_taken_in roots s.passes) roots s.passes → IsSession s → FrontKnows roots sessions
    → FrontKnows (all_taken_in roots s.passes) (sessions ++ s ∷ [])
knows_left roots s sessions same heard session knows account r' there =
    let j = joined_at roots s.passes account r' same heard there in
    subst (λ (r : PassFacts). KnowsSessions account r (sessions ++ s ∷ [])) (sym j.is)
    (knows_one_more account j.root j.pass s sessions session j.pass_there (all_at IsFree s.passes account j.pass session.free j.pass_there).ended j.opening j.before j.heard (knows account j.root j.root_there))

-- ---- the front from call to call

pub front_still : (roots roots' : List PassFacts) → roots' ≡ roots → FrontGoes roots roots' []
front_still roots roots' same = record {
  knows = λ sessions knows. subst (FrontKnows roots') (sym (append-nil sessions)) (subst (λ (ks : List PassFacts). FrontKnows ks sessions) (sym same) knows);
}

pub front_on : (roots mid roots' : List PassFacts) (l m : List SessionView) → FrontGoes roots mid l → FrontGoes mid roots' m → FrontGoes roots roots' (l ++ m)
front_on roots mid roots' l m g h = record {
  knows = λ sessions knows. subst (FrontKnows roots') (append_assoc sessions l m) (h.knows (sessions ++ l) (g.knows sessions knows));
}

pub front_given : (roots mid roots' : List PassFacts) (left : List SessionView) → mid ≡ map one_given roots → FrontGoes mid roots' left → FrontGoes roots roots' left
front_given roots mid roots' left e h = record {
  knows = λ sessions knows. h.knows sessions (subst (λ (ks : List PassFacts). FrontKnows ks sessions) (sym e) (knows_given roots sessions knows));
}

pub front_left : (roots roots' : List PassFacts) (s : SessionView) → roots' ≡ all_taken_in roots s.passes → HaveHeard roots' roots s.passes → IsSession s → map opened_by s.passes ≡ map opened_by roots → FrontGoes roots roots' (s ∷ [])
front_left roots roots' s e heard session same = record {
  knows = λ sessions knows.
      subst (λ (ks : List PassFacts). FrontKnows ks (sessions ++ s ∷ [])) (sym e) (knows_left roots s sessions same (subst (λ (ks : List PassFacts). HaveHeard ks roots s.passes) e heard) session knows);
}

-- ---- the numbers of sessions

abbrev name_of : Ended → ℕ
name_of e = e.name

is_in : (es : List Ended) (i : ℕ) (e : Ended) (n : ℕ) → get_elem? es i ≡ some e → e.name ≡ n → IsIn n (map name_of es)
is_in [] i e n there same = absurd (cc there)
is_in (x ∷ es) zero e n there same = let is : x ≡ e = cc there in inl (ap name_of is ∙ same)
is_in (x ∷ es) (suc i) e n there same = inr (is_in es i e n there same)

names_differ : (root : PassFacts) → HasEndedAll root → IsLast root → Differ (map name_of root.ended)
names_differ root all last =
    all_differ (map name_of root.ended) (λ m low most.
    let at = all m low (omega (arith, most, length-map root.ended name_of, last)) in
    is_in root.ended at.0 at.1 m at.2 at.3)

other_by : (account n : ℕ) (s : SessionView) (o : Option PassFacts) (rest : List Ended) → slice_get s.passes account ≡ o → AllByRecursion (λ m. m ≢ n) (map name_of (ended_of o ++ rest)) → HasOtherNumber account n s × AllByRecursion (λ m. m ≢ n) (map name_of rest)
other_by account n s None rest is all = ((λ k there. absurd (cc (is, there))), all)
other_by account n s (Some x) rest is all = ((λ k there. let same : x ≡ k = cc (is, there) in subst (λ (p : PassFacts). p.name ≢ n) same all.0), all.1)

others : (account n : ℕ) (sessions : List SessionView) → AllByRecursion (λ m. m ≢ n) (map name_of (ended_by account sessions)) → AllByRecursion (HasOtherNumber account n) sessions
others account n [] all = tt
others account n (s ∷ ss) all = let both = other_by account n s (slice_get s.passes account) (ended_by account ss) refl all in (both.0, others account n ss both.1)

own_by : (account : ℕ) (s : SessionView) (ss : List SessionView) (o : Option PassFacts) → slice_get s.passes account ≡ o → Differ (map name_of (ended_of o ++ ended_by account ss)) → HasOwnNumber account s ss × Differ (map name_of (ended_by account ss))
own_by account s ss None is differ = ((λ k there. absurd (cc (is, there))), differ)
own_by account s ss (Some x) is differ = (
  (λ k there. let same : x ≡ k = cc (is, there) in subst (λ (p : PassFacts). AllByRecursion (HasOtherNumber account p.name) ss) same (others account x.name ss differ.0)),
  differ.1,
)

own_numbers : (account : ℕ) (sessions : List SessionView) → Differ (map name_of (ended_by account sessions)) → HaveOwnNumbers account sessions
own_numbers account [] differ = tt
own_numbers account (s ∷ ss) differ = let both = own_by account s ss (slice_get s.passes account) refl differ in (both.0, own_numbers account ss both.1)

-- a number that no session has is not kept either
not_kept_by : (account n : ℕ) (s : SessionView) (o : Option PassFacts) (rest : List Ended) → slice_get s.passes account ≡ o → HasOtherNumber account n s → AllByRecursion (λ e. e.name ≢ n) rest → AllByRecursion (λ e. e.name ≢ n) (ended_of o ++ rest)
not_kept_by account n s None rest is other all = all
not_kept_by account n s (Some x) rest is other all = (other x is, all)

not_kept : (account n : ℕ) (sessions : List SessionView) → AllByRecursion (HasOtherNumber account n) sessions → AllByRecursion (λ e. e.name ≢ n) (ended_by account sessions)
not_kept account n [] all = tt
not_kept account n (s ∷ ss) all = not_kept_by account n s (slice_get s.passes account) (ended_by account ss) refl all.0 (not_kept account n ss all.1)

-- ---- an account that is taken out

abbrev IsKeptIn : List Entry → Ended → Type 0
IsKeptIn entries e = under e.name entries ≡ e.entries

-- the entries begin with those that the session has seen, and under its number are its own ones
pub part_of : (account : ℕ) (entries : List Entry) (k : PassFacts) (s : SessionView) (opening : History) → IsSession s → slice_get s.passes account ≡ Some k → k.opening ≡ opening → StartsWith entries k.seen → under k.name entries ≡ k.own → IsPartOf account opening entries k s.trail
part_of account entries k s opening session there same seen own =
    let order : IsInOrder account k s.trail = session.each account k there in
    record {
      opening_is = same;
      seen = seen;
      own = own;
      in_order = record {
        within = within_more account k (seeing entries k) s.trail refl seen order.within;
        own = own ∙ own_more account k (seeing entries k) s.trail refl seen order;
        serials = ap (map entry_serial) own ∙ order.serials;
      };
    }

all_of_by : (account : ℕ) (root : PassFacts) (entries : List Entry) (s : SessionView) (rest : List Ended) (o : Option PassFacts) → slice_get s.passes account ≡ o → StartsWith entries root.seen → IsSession s → HasHeardOf account root s → AllByRecursion (IsKeptIn entries) (ended_of o ++ rest)
    → HasAllOf account root.opening entries s × AllByRecursion (IsKeptIn entries) rest
all_of_by account root entries s rest None is seen session heard kept = ((λ k there. absurd (cc (is, there))), kept)
all_of_by account root entries s rest (Some x) is seen session heard kept = (
  (λ k there.
      let same : x ≡ k = cc (is, there) in
      subst (λ (p : PassFacts). IsPartOf account root.opening entries p s.trail) same
      (part_of account entries x s root.opening session is (heard x is).0 (seen_further root.seen x.seen entries seen (heard x is).1) kept.0)),
  kept.1,
)

all_of : (account : ℕ) (root : PassFacts) (entries : List Entry) (sessions : List SessionView) → StartsWith entries root.seen → AllByRecursion IsSession sessions → AllByRecursion (HasHeardOf account root) sessions → AllByRecursion (IsKeptIn entries) (ended_by account sessions)
    → AllByRecursion (HasAllOf account root.opening entries) sessions
all_of account root entries [] seen in_order heard kept = tt
all_of account root entries (s ∷ ss) seen in_order heard kept =
    let both = all_of_by account root entries s (ended_by account ss) (slice_get s.passes account) refl seen in_order.0 heard.0 kept in
    (both.0, all_of account root entries ss seen in_order.1 heard.1 both.1)

pub entries_known : (account : ℕ) (root : PassFacts) (entries : List Entry) (sessions : List SessionView) → AreClosedBy root entries → KnowsSessions account root sessions → AreEntriesOf account root.opening entries sessions
entries_known account root entries sessions closed knows = record {
  each = all_of account root entries sessions closed.seen knows.in_order knows.heard (subst (AllByRecursion (IsKeptIn entries)) knows.ended (all_ended (IsKeptIn entries) root.ended closed.ended));
  numbers = own_numbers account sessions (subst (λ (es : List Ended). Differ (map name_of es)) knows.ended (names_differ root closed.all closed.last));
  no_others = λ n all.
      closed.names n (λ i e there. ended_at (λ x. x.name ≢ n) root.ended i e (subst (AllByRecursion (λ x. x.name ≢ n)) (sym knows.ended) (not_kept account n sessions all)) there);
}
