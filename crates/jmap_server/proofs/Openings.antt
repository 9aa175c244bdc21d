-- Accounts that are opened and closed, and what their keepers keep.
use Rattle.std.proofs.Common.{◌≡◌, ℕ, suc, ◌+◌, ◌==◌, slice_get, ◌≤◌, true, arith, length, List, [], ◌∷◌, ◌++◌, map, reverse, Option, None, Some, Ok, refl, sym, ap, ap₂, ◌∙◌, subst, append_assoc}
use Rattle.std.proofs.lemmas.Bool.{eqb-true}
use Rattle.std.proofs.lemmas.List.{map-append, reverse-append, reverse-reverse}
use Rattle.keep_port.specs.Keeping.{content_loaded}
use Rattle.keep_port.specs.declared.kept.Kept.{Kept}
use Rattle.mail_records.specs.Histories.{Entry, History, grown_by}
use Rattle.account_book.specs.Books.{refusals_in}
use Rattle.account_book.specs.Keeping.{KnowsHistory}
use Rattle.account_book.specs.Opening.{IsAsBefore, WasLoaded}
use Rattle.account_book.specs.Passes.{named_since, numbered_since}
use Rattle.account_lock.specs.Passes.{split_off}
use Rattle.account_lock.specs.Views.{PassFacts}
use Rattle.account_hall.specs.Building.{AreBuilt, IsClosed}
use Rattle.account_hall.specs.Halls.{AreOf, RoomView, all_taken_in, entries_of, one_given}
use Rattle.account_hall.specs.Sessions.{SessionView}
use Rattle.account_hall.specs.declared.named_account.Named.{Named}
use Rattle.jmap_server.specs.declared.fault.ServeFault.{ServeFault}
use Rattle.jmap_server.specs.declared.fault.ServeFault.TheVariants.{BadConfig, KeeperFault, Damaged, DeskFault, NoMemory}
use Rattle.jmap_server.specs.Deeds.{Lent, account_of}
use Rattle.account_hall.specs.Closing.{AreEntriesOf, KnowsSessions, opened_by}
use Rattle.account_hall.proofs.Closing.{entries_known}
use Rattle.jmap_server.specs.Openings.{AreAsBefore, AreClosed, AreOpenings, AreTakenOut, Closing, IsKeptBy, IsOpening, IsTakenOut, Opening, keepers_back, keepers_of, lent_back, lent_of, opening_of, openings_of}
use Rattle.jmap_server.specs.Serving.{IsStartRefused, name_in, names_in}

cons_first : {A : Type 0} {x y : A} {xs ys : List A} → x ∷ xs ≡ y ∷ ys → x ≡ y
cons_first e = cc e

cons_rest : {A : Type 0} {x y : A} {xs ys : List A} → x ∷ xs ≡ y ∷ ys → xs ≡ ys
cons_rest e = cc e

-- ---- keepers that come back as they were

loaded_from : (content : Kept) (old : Option Kept) (k t : Kept) → old ≡ Some k → content_loaded (Ok content) old ≡ Some t → t ≡ k
loaded_from content None k t was now = absurd (cc was)
loaded_from content (Some x) k t was now = cc (was, now)

loaded_as_before : (content : Kept) (old new : Option Kept) → WasLoaded content old new → IsAsBefore old new
loaded_as_before content old new w k t was now = loaded_from content old k t was (w.kept t now)

module _ {K : Type 0} (kept : K → Option Kept) where
  pub both_as_before : (given back more rest : List (Lent K)) → AreAsBefore kept given back → AreAsBefore kept more rest → AreAsBefore kept (given ++ more) (back ++ rest)
  both_as_before [] [] more rest h k = k
  both_as_before [] (b ∷ back) more rest h k = absurd h
  both_as_before (g ∷ given) [] more rest h k = absurd h
  both_as_before (g ∷ given) (b ∷ back) more rest h k = (h.0, h.1, both_as_before given back more rest h.2 k)

  same_accounts : (given back : List (Lent K)) → AreAsBefore kept given back → map account_of back ≡ map account_of given
  same_accounts [] [] h = refl
  same_accounts [] (b ∷ back) h = absurd h
  same_accounts (g ∷ given) [] h = absurd h
  same_accounts (g ∷ given) (b ∷ back) h = ap₂ (λ (n : List ℕ) (ns : List (List ℕ)). n ∷ ns) h.0 (same_accounts given back h.2)

  module _ (whole : History → Type 0) where
    pub refused_as_before : (k k' : K) (fault : ServeFault) → IsStartRefused kept whole k k' fault → IsAsBefore (kept k) (kept k')
    refused_as_before k k' (BadConfig place) h = absurd h
    refused_as_before k k' KeeperFault h = h
    refused_as_before k k' (Damaged row why) (content, loaded, damaged) = loaded_as_before content (kept k) (kept k') loaded
    refused_as_before k k' DeskFault h = absurd h
    refused_as_before k k' NoMemory h = h

    pub opened_as_before : (given : List (Lent K)) (openings : List (Opening K)) → AreOpenings kept whole given openings → AreAsBefore kept given (keepers_of openings)
    opened_as_before [] [] h = tt
    opened_as_before [] (o ∷ openings) h = absurd h
    opened_as_before (g ∷ given) [] h = absurd h
    opened_as_before (g ∷ given) (o ∷ openings) h = (h.0.name_is, loaded_as_before h.0.opened.content (kept g.keeper) (kept o.keeper) h.0.opened.loaded, opened_as_before given openings h.1)

    pub opened_names : (given : List (Lent K)) (openings : List (Opening K)) → AreOpenings kept whole given openings → map name_in openings ≡ map account_of given
    opened_names [] [] h = refl
    opened_names [] (o ∷ openings) h = absurd h
    opened_names (g ∷ given) [] h = absurd h
    opened_names (g ∷ given) (o ∷ openings) h = ap₂ (λ (n : List ℕ) (ns : List (List ℕ)). n ∷ ns) h.0.name_is (opened_names given openings h.1)

    pub opened_next : (given : List (Lent K)) (openings : List (Opening K)) (g : Lent K) (o : Opening K) → AreOpenings kept whole given openings → IsOpening kept whole g o → AreOpenings kept whole (given ++ g ∷ []) (openings ++ o ∷ [])
    opened_next [] [] g o h k = (k, tt)
    opened_next [] (x ∷ openings) g o h k = absurd h
    opened_next (y ∷ given) [] g o h k = absurd h
    opened_next (y ∷ given) (x ∷ openings) g o h k = (h.0, opened_next given openings g o h.1 k)

pub names_opened : {K R : Type 0} (accounts : List (Named K R)) → map name_in (openings_of accounts) ≡ names_in accounts
names_opened [] = refl
names_opened (a ∷ accounts) = ap (λ (ns : List (List ℕ)). a.name ∷ ns) (names_opened accounts)

-- ---- lists from the last one on

pub map_reverse : {A B : Type 0} (f : A → B) (xs : List A) → map f (reverse xs) ≡ reverse (map f xs)
map_reverse f [] = refl
map_reverse {A} {B} f (x ∷ xs) =
    ap (map f) (reverse-append (x ∷ []) xs) ∙ map-append f (reverse xs) (x ∷ []) ∙ ap (λ (ys : List B). ys ++ f x ∷ []) (map_reverse f xs) ∙ sym (reverse-append (f x ∷ []) (map f xs))

-- keepers that came back as they were, the last first
pub back_names : {K : Type 0} (kept : K → Option Kept) (given back : List (Lent K)) → AreAsBefore kept given (reverse back) → map account_of back ≡ reverse (map account_of given)
back_names kept given back h =
    sym (reverse-reverse (map account_of back)) ∙ ap reverse (sym (map_reverse account_of back) ∙ same_accounts kept given (reverse back) h)

pub keepers_next : {K R : Type 0} (all left : List (Named K R)) (a : Named K R) → all ≡ left ++ a ∷ [] → keepers_of (openings_of all) ≡ keepers_of (openings_of left) ++ lent_of (opening_of a) ∷ []
keepers_next {K} {R} all left a e =
    ap (λ (xs : List (Named K R)). keepers_of (openings_of xs)) e ∙ ap keepers_of (map-append opening_of left (a ∷ [])) ∙ map-append lent_of (openings_of left) (opening_of a ∷ [])

pub is_zero : (n : ℕ) → (n == 0) ≡ true → n ≡ 0
is_zero n e = eqb-true n 0 e

pub none_held : {K R : Type 0} (accounts : List (Named K R)) → length accounts ≡ 0 → keepers_of (openings_of accounts) ≡ []
none_held [] e = refl
none_held (a ∷ accounts) e = absurd (omega (arith, e))

pub list_next : {A : Type 0} (all before left : List A) (x : A) (more : List A) → all ≡ before ++ more → before ≡ left ++ x ∷ [] → all ≡ left ++ x ∷ more
list_next {A} all before left x more h e = h ∙ ap (λ (xs : List A). xs ++ more) e ∙ append_assoc left (x ∷ []) more

-- ---- what the roots of a front opened with

pub given_openings : (roots : List PassFacts) → map opened_by (map one_given roots) ≡ map opened_by roots
given_openings [] = refl
given_openings (k ∷ ks) = ap (λ (hs : List History). k.opening ∷ hs) (given_openings ks)

pub split_openings : (roots : List PassFacts) → map opened_by (map split_off roots) ≡ map opened_by roots
split_openings [] = refl
split_openings (k ∷ ks) = ap (λ (hs : List History). k.opening ∷ hs) (split_openings ks)

pub joined_openings : (roots passes : List PassFacts) → map opened_by (all_taken_in roots passes) ≡ map opened_by roots
joined_openings [] ks = refl
joined_openings (r ∷ rs) [] = refl
joined_openings (r ∷ rs) (k ∷ ks) = ap (λ (hs : List History). r.opening ∷ hs) (joined_openings rs ks)

-- ---- accounts that are closed

-- what a book keeps, its keeper keeps
pub kept_by : {K : Type 0} (kept : K → Option Kept) (append_faults : K → ℕ) (opened history : History) (since : List Entry) (keeper : K) → KnowsHistory (kept keeper) history → history ≡ grown_by opened since → named_since opened (numbered_since opened since) ≡ since
    → refusals_in since ≤ append_faults keeper → IsKeptBy kept append_faults opened (numbered_since opened since) keeper
kept_by kept append_faults opened history since keeper knows parts passes refusals = record {
  keeps = subst (KnowsHistory (kept keeper)) (parts ∙ ap (grown_by opened) (sym passes)) knows;
  refusals = subst (λ (es : List Entry). refusals_in es ≤ append_faults keeper) (sym passes) refusals;
}

module _ {K : Type 0} (kept : K → Option Kept) (append_faults : K → ℕ) where
  -- those of a hall that was built of these accounts; the first has this number
  pub closed_by : {R : Type 0} (sessions : List SessionView) (account : ℕ) (accounts : List (Named K R)) (rooms : List RoomView) (roots roots' : List PassFacts) (closings : List (Closing K)) → AreBuilt accounts rooms roots → map opened_by roots' ≡ map opened_by roots
      → ((i : ℕ) (root : PassFacts) → slice_get roots' i ≡ Some root → KnowsSessions (account + i) root sessions) → AreTakenOut kept append_faults rooms roots' closings → AreClosed kept append_faults sessions account (openings_of accounts) closings
  closed_by sessions n [] [] [] [] [] built same knows h = tt
  closed_by sessions n [] [] [] [] (c ∷ closings) built same knows h = absurd h
  closed_by sessions n [] [] [] (k' ∷ roots') closings built same knows h = absurd (cc same)
  closed_by sessions n [] [] (k ∷ roots) roots' closings built same knows h = absurd built
  closed_by sessions n [] (r ∷ rooms) roots roots' closings built same knows h = absurd built
  closed_by sessions n (a ∷ accounts) [] roots roots' closings built same knows h = absurd built
  closed_by sessions n (a ∷ accounts) (r ∷ rooms) [] roots' closings built same knows h = absurd built
  closed_by sessions n (a ∷ accounts) (r ∷ rooms) (k ∷ roots) [] closings built same knows h = absurd (cc same)
  closed_by sessions n (a ∷ accounts) (r ∷ rooms) (k ∷ roots) (k' ∷ roots') [] built same knows h = absurd h
  closed_by sessions n (a ∷ accounts) (r ∷ rooms) (k ∷ roots) (k' ∷ roots') (c ∷ closings) built same knows h =
      let opening : k'.opening ≡ a.book.opened = cons_first same ∙ ap opened_by built.1 in
      let here : KnowsSessions n k' sessions = subst (λ (m : ℕ). KnowsSessions m k' sessions) (omega arith) (knows 0 k' refl) in (
        h.0.name_is ∙ built.0,
        subst (λ (o : History). AreEntriesOf n o c.entries sessions) opening (entries_known n k' c.entries sessions h.0.entries_are here),
        subst (λ (o : History). IsKeptBy kept append_faults o c.entries c.keeper) opening h.0.kept_by,
        closed_by sessions (n + 1) accounts rooms roots roots' closings built.2 (cons_rest same) (λ i root there. subst (λ (m : ℕ). KnowsSessions m root sessions) (omega arith) (knows (suc i) root there)) h.1,
      )

  pub closed_names : (sessions : List SessionView) (account : ℕ) (openings : List (Opening K)) (closings : List (Closing K)) → AreClosed kept append_faults sessions account openings closings → map account_of (map lent_back closings) ≡ map name_in openings
  closed_names ss i [] [] h = refl
  closed_names ss i [] (c ∷ closings) h = absurd h
  closed_names ss i (o ∷ openings) [] h = absurd h
  closed_names ss i (o ∷ openings) (c ∷ closings) h = ap₂ (λ (n : List ℕ) (ns : List (List ℕ)). n ∷ ns) h.0 (closed_names ss (i + 1) openings closings h.3)

  pub back_of_closed : (sessions : List SessionView) (account : ℕ) (openings : List (Opening K)) (closings : List (Closing K)) → AreClosed kept append_faults sessions account openings closings → map account_of (keepers_back closings) ≡ reverse (map name_in openings)
  back_of_closed sessions account openings closings h = map_reverse account_of (map lent_back closings) ∙ ap reverse (closed_names sessions account openings closings h)

  pub taken_out : {R : Type 0} (room : RoomView) (root : PassFacts) (a : Named K R) → a.name ≡ room.name → IsClosed root a.book → IsKeptBy kept append_faults a.book.opened (entries_of a.book) a.book.keeper
      → IsTakenOut kept append_faults room root (record { name = a.name; keeper = a.book.keeper; entries = entries_of a.book })
  taken_out room root a name closed keeps = record {
    name_is = name;
    entries_are = closed.entries_are;
    kept_by = subst (λ (o : History). IsKeptBy kept append_faults o (entries_of a.book) a.book.keeper) closed.opening keeps;
  }

  pub all_out : (hall left rooms : List RoomView) (all rest roots : List PassFacts) (closings : List (Closing K)) → hall ≡ left ++ rooms → all ≡ rest ++ roots → left ≡ [] → AreOf left rest → AreTakenOut kept append_faults rooms roots closings
      → AreTakenOut kept append_faults hall all closings
  all_out hall left rooms all [] roots closings h k none of out =
      subst (λ (rs : List RoomView). AreTakenOut kept append_faults rs all closings) (sym (h ∙ ap (λ (xs : List RoomView). xs ++ rooms) none)) (subst (λ (ks : List PassFacts). AreTakenOut kept append_faults rooms ks closings) (sym k) out)
  all_out hall left rooms all (r ∷ rest) roots closings h k none of out = absurd (cc (of, none))
