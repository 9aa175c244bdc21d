-- Accounts that are opened over keepers, and what those keep of them when they come back.
use Rattle.std.specs.Prelude.{◌≡◌, ℕ, ◌+◌, ◌≤◌, List, [], ◌∷◌, map, reverse, Option, ⊤}
use Rattle.keep_port.specs.declared.kept.Kept.{Kept}
use Rattle.mail_records.specs.Histories.{Entry, History, grown_by}
use Rattle.account_book.specs.Books.{refusals_in}
use Rattle.account_book.specs.Keeping.{KnowsHistory}
use Rattle.account_book.specs.Opening.{IsAsBefore, IsOpened}
use Rattle.account_book.specs.Passes.{named_since}
use Rattle.account_lock.specs.Views.{PassFacts}
use Rattle.account_hall.specs.Halls.{RoomView}
use Rattle.account_hall.specs.declared.named_account.Named.{Named}
use Rattle.account_hall.specs.Sessions.{SessionView}
use Rattle.account_hall.specs.Building.{AreClosedBy}
use Rattle.account_hall.specs.Closing.{AreEntriesOf}
use Rattle.jmap_server.specs.Deeds.{Lent, lent_for}

-- ---- opened

-- An account that is open: its name, its keeper once that was loaded, and the history that it
-- opened with.
pub record Opening (K : Type 0) : Type 0 where
  pub name : List ℕ
  pub keeper : K
  pub history : History

abbrev pub opening_of : {K R : Type 0} → Named K R → Opening K
opening_of account =
    record { name = account.name; keeper = account.book.keeper; history = account.book.opened }

abbrev pub openings_of : {K R : Type 0} → List (Named K R) → List (Opening K)
openings_of accounts = map opening_of accounts

-- The account was opened over the keeper that was given for it, with the history of what that keeps
-- if it shows it, and is valid.
pub record IsOpening {K : Type 0} (kept : K → Option Kept) (whole : History → Type 0)
    (lent : Lent K) (o : Opening K) : Type 0 where
  pub name_is : o.name ≡ lent.account
  pub opened : IsOpened (kept lent.keeper) (kept o.keeper) o.history
  pub valid : whole o.history

-- each of the keepers that were given is that of one account, in their order
abbrev pub AreOpenings : {K : Type 0} → (K → Option Kept) → (History → Type 0) → List (Lent K)
    → List (Opening K) → Type 0
AreOpenings kept whole [] [] = ⊤
AreOpenings kept whole (lent ∷ given) (o ∷ openings) =
    IsOpening kept whole lent o × AreOpenings kept whole given openings
AreOpenings _ _ _ _ = ⊥

-- the keepers of accounts that no call has reached
abbrev pub lent_of : {K : Type 0} → Opening K → Lent K
lent_of o = lent_for o.name o.keeper

abbrev pub keepers_of : {K : Type 0} → List (Opening K) → List (Lent K)
keepers_of openings = map lent_of openings

-- each keeper came back for the account for which it was given, and keeps what it kept then
abbrev pub AreAsBefore : {K : Type 0} → (K → Option Kept) → (given back : List (Lent K)) → Type 0
AreAsBefore kept [] [] = ⊤
AreAsBefore kept (lent ∷ given) (lent' ∷ back) =
    (lent'.account ≡ lent.account) × IsAsBefore (kept lent.keeper) (kept lent'.keeper)
    × AreAsBefore kept given back
AreAsBefore _ _ _ = ⊥

-- ---- closed

-- An account that was closed: its name, its keeper, and the entries that it gained since it was
-- opened, each with the number of its session in place of its pass.
pub record Closing (K : Type 0) : Type 0 where
  pub name : List ℕ
  pub keeper : K
  pub entries : List Entry

abbrev pub lent_back : {K : Type 0} → Closing K → Lent K
lent_back c = lent_for c.name c.keeper

-- the keepers of accounts that were closed, the last first
abbrev pub keepers_back : {K : Type 0} → List (Closing K) → List (Lent K)
keepers_back closings = reverse (map lent_back closings)

-- the history that an account has that opened with this one, once it gained these entries
abbrev pub history_since : History → List Entry → History
history_since opening entries = grown_by opening (named_since opening entries)

-- The keeper keeps the history that the account opened with and the entries that it gained, if it
-- shows what it keeps. It has refused no fewer commits than those entries have marks of.
pub record IsKeptBy {K : Type 0} (kept : K → Option Kept) (append_faults : K → ℕ)
    (opening : History) (entries : List Entry) (keeper : K) : Type 0 where
  pub keeps : KnowsHistory (kept keeper) (history_since opening entries)
  pub refusals : refusals_in (named_since opening entries) ≤ append_faults keeper

-- The accounts from this number on were closed, in their order. The entries of each are those of
-- these sessions, and its keeper keeps it.
abbrev pub AreClosed : {K : Type 0} → (K → Option Kept) → (K → ℕ) → List SessionView → ℕ
    → List (Opening K) → List (Closing K) → Type 0
AreClosed kept append_faults sessions account [] [] = ⊤
AreClosed kept append_faults sessions account (o ∷ openings) (c ∷ closings) =
    (c.name ≡ o.name) × AreEntriesOf account o.history c.entries sessions
    × IsKeptBy kept append_faults o.history c.entries c.keeper
    × AreClosed kept append_faults sessions (account + 1) openings closings
AreClosed _ _ _ _ _ _ = ⊥

-- ---- taken out of a hall

-- The account of a room was taken out, whose root was this one. Its entries begin with those that
-- the root had seen, and are those of the sessions that left.
pub record IsTakenOut {K : Type 0} (kept : K → Option Kept) (append_faults : K → ℕ)
    (room : RoomView) (root : PassFacts) (c : Closing K) : Type 0 where
  pub name_is : c.name ≡ room.name
  pub entries_are : AreClosedBy root c.entries
  pub kept_by : IsKeptBy kept append_faults root.opening c.entries c.keeper

-- each account of a hall was taken out
abbrev pub AreTakenOut : {K : Type 0} → (K → Option Kept) → (K → ℕ) → List RoomView
    → List PassFacts → List (Closing K) → Type 0
AreTakenOut kept append_faults [] [] [] = ⊤
AreTakenOut kept append_faults (room ∷ rooms) (root ∷ roots) (c ∷ closings) =
    IsTakenOut kept append_faults room root c × AreTakenOut kept append_faults rooms roots closings
AreTakenOut _ _ _ _ _ = ⊥
