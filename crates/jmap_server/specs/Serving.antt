-- What a run of a server did.
use Rattle.std.specs.Prelude.{◌≡◌, ◌⊎◌, ℕ, ◌<◌, List, [], ◌∷◌, ◌++◌, map, take, reverse, length, Option, Result, Ok, Err, ⊤}
use Rattle.mail_records.specs.Histories.{History}
use Rattle.jm_edge.specs.Causes.{Rose}
use Rattle.jm_edge.specs.declared.fault.EdgeFault.{EdgeFault}
use Rattle.jm_edge.specs.declared.fault.EdgeFault.TheVariants.{Failed, NoMemory as NoRoom}
use Rattle.keep_port.specs.declared.kept.Kept.{Kept}
use Rattle.account_book.specs.Opening.{IsAsBefore, IsDamaged, WasLoaded}
use Rattle.account_book.specs.declared.faults.StartFault.{StartFault}
use Rattle.account_book.specs.declared.faults.StartFault.TheVariants as start
use Rattle.account_hall.specs.Halls.{RoomView}
use Rattle.account_lock.specs.Views.{PassFacts}
use Rattle.account_hall.specs.Sessions.{SessionView}
use Rattle.account_hall.specs.declared.named_account.Named.{Named}
use Rattle.server_users.specs.Configuration.{Configuration}
use Rattle.server_users.specs.declared.fault.ConfigFault.{ConfigFault}
use Rattle.server_users.specs.declared.fault.ConfigFault.TheVariants as config
use Rattle.jm_json.specs.LeastPlaces.{IsLeast}
use Rattle.server_users.specs.Lookups.{IsConfigurationOf, places_of}
use Rattle.jmap_server.specs.declared.fault.ServeFault.{ServeFault}
use Rattle.jmap_server.specs.declared.fault.ServeFault.TheVariants.{BadConfig, KeeperFault, Damaged, DeskFault, NoMemory}
use Rattle.jmap_server.specs.Deeds.{Deed, GaveKeeper, GotKeeper, IsTold, Lent, Listened, ReadText, account_of, gave, lent_for}
use Rattle.account_hall.specs.Closing.{FrontGoes, opened_by}
use Rattle.jmap_server.specs.Openings.{AreAsBefore, AreClosed, AreOpenings, AreTakenOut, Closing, IsOpening, Opening, keepers_back, keepers_of, opening_of}
use Rattle.jmap_server.specs.Lines.{AreLinesServed, HasServedLines, Plans, Sight}

-- ---- faults

-- the world failed, or memory ran out
abbrev pub IsOutside : ServeFault → Type 0
IsOutside (BadConfig place) = ⊥
IsOutside KeeperFault = ⊥
IsOutside (Damaged row why) = ⊥
IsOutside DeskFault = ⊤
IsOutside NoMemory = ⊤

-- What a fault says of counts of faults: that of the world rose, or that of the keepers that came
-- back.
abbrev pub IsCaused : (faults faults' loads loads' : ℕ) → ServeFault → Type 0
IsCaused faults faults' loads loads' (BadConfig place) = ⊤
IsCaused faults faults' loads loads' KeeperFault = Rose loads loads'
IsCaused faults faults' loads loads' (Damaged row why) = ⊤
IsCaused faults faults' loads loads' DeskFault = Rose faults faults'
IsCaused faults faults' loads loads' NoMemory = ⊤

-- why no users are read from these bytes: the least bad place
abbrev pub IsBadConfig : List ℕ → ServeFault → Type 0
IsBadConfig bytes (BadConfig place) = IsLeast (places_of bytes) place
IsBadConfig bytes KeeperFault = ⊥
IsBadConfig bytes (Damaged row why) = ⊥
IsBadConfig bytes DeskFault = ⊥
IsBadConfig bytes NoMemory = ⊤

-- how a server ends where the world failed
abbrev pub fault_of : EdgeFault → ServeFault
fault_of Failed = DeskFault
fault_of NoRoom = NoMemory

-- how a server ends of which an account is not opened
abbrev pub start_fault_of : StartFault → ServeFault
start_fault_of start.KeeperFault = KeeperFault
start_fault_of (start.Damaged row why) = Damaged row why
start_fault_of start.NoMemory = NoMemory

-- how a server ends whose configuration is not read
abbrev pub config_fault_of : ConfigFault → ServeFault
config_fault_of (config.BadConfig place) = BadConfig place
config_fault_of config.NoMemory = NoMemory

-- how a server ends whose lines were served so
abbrev pub end_of : {T : Type 0} → Result T EdgeFault → Result T ServeFault
end_of (Ok x) = Ok x
end_of (Err fault) = Err (fault_of fault)

-- ---- accounts

-- the names of accounts
abbrev pub names_in : {K R : Type 0} → List (Named K R) → List (List ℕ)
names_in accounts = map (λ a. a.name) accounts

-- A fault by which the account of this keeper is not opened, if the keeper is this one afterwards.
-- The keeper keeps what it kept before.
abbrev pub IsStartRefused : {K : Type 0} → (K → Option Kept) → (History → Type 0) → (keeper
    keeper' : K) → ServeFault → Type 0
IsStartRefused kept whole keeper keeper' (BadConfig place) = ⊥
IsStartRefused kept whole keeper keeper' KeeperFault = IsAsBefore (kept keeper) (kept keeper')
IsStartRefused kept whole keeper keeper' (Damaged row why) =
    (content : Kept) × WasLoaded content (kept keeper) (kept keeper')
    × IsDamaged whole content row why
IsStartRefused kept whole keeper keeper' DeskFault = ⊥
IsStartRefused kept whole keeper keeper' NoMemory = IsAsBefore (kept keeper) (kept keeper')

-- the keeper of an account that was refused came back
abbrev pub IsGivenBack : {K L C : Type 0} → (K → Option Kept) → (History → Type 0)
    → Option (List (Deed K L C)) → Option (List (Deed K L C)) → List ℕ → K → ServeFault → Type 0
IsGivenBack {K} kept whole told told' name keeper fault =
    (keeper' : K) × IsTold told told' (GotKeeper (lent_for name keeper') ∷ [])
    × IsStartRefused kept whole keeper keeper' fault

-- The account of this identifier was opened over the keeper that was given for it; or it was
-- refused, before its keeper was given or after that.
abbrev pub OpensOne : {K R L C : Type 0} → (K → Option Kept) → (History → Type 0) → List ℕ
    → List ℕ → List (Deed K L C) → Result (Named K R) ServeFault → Type 0
OpensOne {K} kept whole folder id did (Ok account) =
    (keeper : K) × (did ≡ GaveKeeper folder (lent_for id keeper) ∷ [])
    × IsOpening kept whole (lent_for id keeper) (opening_of account)
OpensOne {K} kept whole folder id did (Err fault) =
    ((did ≡ []) × IsOutside fault)
    ⊎ ((keeper : K) × (keeper' : K)
    × (did ≡ GaveKeeper folder (lent_for id keeper) ∷ GotKeeper (lent_for id keeper') ∷ [])
    × IsStartRefused kept whole keeper keeper' fault)

-- The account of the keeper that was given last is refused by this fault, and that keeper is the
-- first that came back.
pub record IsLastRefused {K : Type 0} (kept : K → Option Kept) (whole : History → Type 0)
    (given back : List (Lent K)) (fault : ServeFault) : Type 0 where
  pub before : List (Lent K)
  pub rest : List (Lent K)
  pub account : List ℕ
  pub keeper : K
  pub keeper' : K
  pub last : given ≡ before ++ lent_for account keeper ∷ []
  pub first : back ≡ lent_for account keeper' ∷ rest
  pub refused : IsStartRefused kept whole keeper keeper' fault

-- Why an account is not opened. It is the one whose keeper was given last, if one was; the world
-- may have failed before, or memory have run out.
abbrev pub IsRefusedBy : {K : Type 0} → (K → Option Kept) → (History → Type 0)
    → (given back : List (Lent K)) → ServeFault → Type 0
IsRefusedBy kept whole given back (BadConfig place) = ⊥
IsRefusedBy kept whole given back KeeperFault = IsLastRefused kept whole given back KeeperFault
IsRefusedBy kept whole given back (Damaged row why) =
    IsLastRefused kept whole given back (Damaged row why)
IsRefusedBy kept whole given back DeskFault = ⊤
IsRefusedBy kept whole given back NoMemory = ⊤

-- The accounts of these identifiers were opened in order, and a keeper was given for each; or one
-- was refused, after keepers had been given for the first of them.
abbrev pub OpensSo : {K T : Type 0} → (K → Option Kept) → (History → Type 0) → List (List ℕ)
    → (opened refused back : List (Lent K)) → Result T ServeFault → Type 0
OpensSo kept whole ids opened refused back (Ok x) =
    (map account_of opened ≡ ids) × (refused ≡ []) × (back ≡ [])
OpensSo kept whole ids opened refused back (Err fault) =
    (map account_of (opened ++ refused) ≡ take (length (opened ++ refused)) ids)
    × IsRefusedBy kept whole (opened ++ refused) back fault

-- Keepers were given for the accounts of these identifiers. Those of accounts that were refused
-- came back as they were. The others are opened.
pub record HasOpened {K L C T : Type 0} (kept : K → Option Kept) (whole : History → Type 0)
    (folder : List ℕ) (ids : List (List ℕ)) (openings : List (Opening K))
    (did : List (Deed K L C)) (result : Result T ServeFault) : Type 0 where
  pub opened : List (Lent K)
  pub refused : List (Lent K)
  pub back : List (Lent K)
  pub did_is : did ≡ map (gave folder) (opened ++ refused) ++ map GotKeeper back
  pub openings_are : AreOpenings kept whole opened openings
  pub as_before : AreAsBefore kept refused (reverse back)
  pub outcome : OpensSo kept whole ids opened refused back result

-- No account of the keepers that were given is open: all keepers came back, the last first, and
-- each keeps what it kept.
pub record HasOpenedNone {K L C : Type 0} (kept : K → Option Kept) (whole : History → Type 0)
    (folder : List ℕ) (ids : List (List ℕ)) (did : List (Deed K L C)) (fault : ServeFault)
    : Type 0 where
  pub given : List (Lent K)
  pub back : List (Lent K)
  pub did_is : did ≡ map (gave folder) given ++ map GotKeeper back
  pub first : map account_of given ≡ take (length given) ids
  pub as_before : AreAsBefore kept given (reverse back)
  pub why : IsRefusedBy kept whole given back fault

-- The accounts of these identifiers were opened; or one was refused, and none is open.
abbrev pub HasOpenedAll : {K L C T : Type 0} → (K → Option Kept) → (History → Type 0) → List ℕ
    → List (List ℕ) → (T → List (Opening K)) → List (Deed K L C) → Result T ServeFault → Type 0
HasOpenedAll {K} kept whole folder ids openings did (Ok x) =
    (given : List (Lent K)) × (did ≡ map (gave folder) given) × (map account_of given ≡ ids)
    × AreOpenings kept whole given (openings x)
HasOpenedAll kept whole folder ids openings did (Err fault) =
    HasOpenedNone kept whole folder ids did fault

-- ---- lines

abbrev pub name_of : RoomView → List ℕ
name_of room = room.name

abbrev pub name_in : {K : Type 0} → Opening K → List ℕ
name_in o = o.name

-- All lines were served; or the world failed or memory ran out before.
abbrev pub EndsSo : {T : Type 0} → (served count : ℕ) → Result T ServeFault → Type 0
EndsSo served count (Ok x) = served ≡ count
EndsSo served count (Err fault) = (served < count) × IsOutside fault

-- The server listened on the port, and so many lines were served over a hall of these accounts, by
-- these sessions.
pub record HasListened {K R L C T : Type 0} (sight : Sight K L C) (plan_of : Plans R)
    (users : Configuration) (names : List (List ℕ)) (sessions : List SessionView)
    (port count : ℕ) (did : List (Deed K L C)) (result : Result T ServeFault) : Type 0 where
  pub rooms : List RoomView
  pub lines : List (Deed K L C)
  pub served : ℕ
  pub rooms_are : map name_of rooms ≡ names
  pub did_is : did ≡ Listened port ∷ lines
  pub served_are : AreLinesServed sight plan_of rooms users served sessions lines
  pub ends : EndsSo served count result

-- the server did not listen: the world failed, or memory ran out
abbrev pub HasNotListened : {K L C T : Type 0} → List SessionView → List (Deed K L C)
    → Result T ServeFault → Type 0
HasNotListened sessions did (Ok x) = ⊥
HasNotListened sessions did (Err fault) = (did ≡ []) × IsOutside fault × (sessions ≡ [])

-- what was done between the opening of the accounts of these names and their closing
abbrev pub HasServed : {K R L C T : Type 0} → Sight K L C → Plans R → Configuration
    → List (List ℕ) → List SessionView → (port count : ℕ) → List (Deed K L C)
    → Result T ServeFault → Type 0
HasServed sight plan_of users names sessions port count did result =
    HasNotListened sessions did result
    ⊎ HasListened sight plan_of users names sessions port count did result

-- The accounts of a hall were served, and taken out of it. Each had opened with what its root in
-- the front says, and its entries are those of the sessions that served the lines.
pub record HasServedHall {K R L C T : Type 0} (sight : Sight K L C) (plan_of : Plans R)
    (users : Configuration) (rooms : List RoomView) (roots : List PassFacts) (port count : ℕ)
    (did : List (Deed K L C)) (result : Result T ServeFault) : Type 0 where
  pub middle : List (Deed K L C)
  pub sessions : List SessionView
  pub roots' : List PassFacts
  pub closings : List (Closing K)
  pub did_is : did ≡ middle ++ map GotKeeper (keepers_back closings)
  pub served : HasServed sight plan_of users (map name_of rooms) sessions port count middle
      result
  pub same_openings : map opened_by roots' ≡ map opened_by roots
  pub goes : FrontGoes roots roots' sessions
  pub closed : AreTakenOut sight.kept sight.append_faults rooms roots' closings

-- These accounts were served, and closed.
pub record HasServedOpen {K R L C T : Type 0} (sight : Sight K L C) (plan_of : Plans R)
    (users : Configuration) (openings : List (Opening K)) (port count : ℕ)
    (did : List (Deed K L C)) (result : Result T ServeFault) : Type 0 where
  pub middle : List (Deed K L C)
  pub sessions : List SessionView
  pub closings : List (Closing K)
  pub did_is : did ≡ middle ++ map GotKeeper (keepers_back closings)
  pub served : HasServed sight plan_of users (map name_in openings) sessions port count middle
      result
  pub closed : AreClosed sight.kept sight.append_faults sessions 0 openings closings

-- Memory ran out before these accounts could be served, and their keepers came back as they were.
abbrev pub HasBuiltNone : {K L C T : Type 0} → List (Opening K) → List (Deed K L C)
    → Result T ServeFault → Type 0
HasBuiltNone openings did (Ok x) = ⊥
HasBuiltNone openings did (Err fault) =
    (fault ≡ NoMemory) × (did ≡ map GotKeeper (reverse (keepers_of openings)))

abbrev pub HasServedOrNot : {K R L C T : Type 0} → Sight K L C → Plans R → Configuration
    → List (Opening K) → (port count : ℕ) → List (Deed K L C) → Result T ServeFault → Type 0
HasServedOrNot sight plan_of users openings port count did result =
    HasBuiltNone openings did result
    ⊎ HasServedOpen sight plan_of users openings port count did result

-- The server listened, and lines were served; or it did not listen.
pub record HasServedLinesAt {K R L C T : Type 0} (sight : Sight K L C) (plan_of : Plans R)
    (rooms : List RoomView) (users : Configuration) (sessions : List SessionView)
    (port count : ℕ) (did : List (Deed K L C)) (result : Result T EdgeFault) : Type 0 where
  pub lines : List (Deed K L C)
  pub did_is : did ≡ Listened port ∷ lines
  pub served : HasServedLines sight plan_of rooms users sessions count lines result

abbrev pub HasServedPort : {K R L C T : Type 0} → Sight K L C → Plans R → List RoomView
    → Configuration → List SessionView → (port count : ℕ) → List (Deed K L C)
    → Result T EdgeFault → Type 0
HasServedPort {K} {R} {L} {C} {T} sight plan_of rooms users sessions port count did (Ok x) =
    HasServedLinesAt {T = T} sight plan_of rooms users sessions port count did (Ok x)
HasServedPort {K} {R} {L} {C} {T} sight plan_of rooms users sessions port count did (Err fault) =
    ((did ≡ []) × (sessions ≡ []))
    ⊎ HasServedLinesAt {T = T} sight plan_of rooms users sessions port count did (Err fault)

-- ---- the whole run

-- All accounts were opened over the keepers that were given, and served. Each keeper that comes
-- back keeps its account.
pub record HasServedAll {K R L C T : Type 0} (sight : Sight K L C) (plan_of : Plans R)
    (whole : History → Type 0) (users : Configuration) (port count : ℕ)
    (given back : List (Lent K)) (did : List (Deed K L C)) (result : Result T ServeFault)
    : Type 0 where
  pub openings : List (Opening K)
  pub sessions : List SessionView
  pub closings : List (Closing K)
  pub all : map account_of given ≡ users.account_ids
  pub opened : AreOpenings sight.kept whole given openings
  pub served : HasServed sight plan_of users users.account_ids sessions port count did result
  pub closed : AreClosed sight.kept sight.append_faults sessions 0 openings closings
  pub back_is : back ≡ keepers_back closings

-- An account was refused, or memory ran out before all were served: nothing was served, and each
-- keeper that came back keeps what it kept.
abbrev pub HasServedNone : {K L C T : Type 0} → (K → Option Kept) → (History → Type 0)
    → Configuration → (given back : List (Lent K)) → List (Deed K L C) → Result T ServeFault
    → Type 0
HasServedNone kept whole users given back did (Ok x) = ⊥
HasServedNone kept whole users given back did (Err fault) =
    (did ≡ []) × (map account_of given ≡ take (length given) users.account_ids)
    × AreAsBefore kept given (reverse back) × IsRefusedBy kept whole given back fault

-- Keepers were given for the accounts of the users in order, and all of them came back, the last
-- first. In between an account was refused; or all were opened, and the lines were served.
pub record HasServedUsers {K R L C T : Type 0} (sight : Sight K L C) (plan_of : Plans R)
    (whole : History → Type 0) (users : Configuration) (folder : List ℕ) (port count : ℕ)
    (did : List (Deed K L C)) (result : Result T ServeFault) : Type 0 where
  pub given : List (Lent K)
  pub back : List (Lent K)
  pub middle : List (Deed K L C)
  pub did_is : did ≡ map (gave folder) given ++ (middle ++ map GotKeeper back)
  pub all_back : map account_of back ≡ reverse (map account_of given)
  pub outcome : HasServedNone sight.kept whole users given back middle result
      ⊎ HasServedAll sight plan_of whole users port count given back middle result

-- the configuration was not read: the world failed, or memory ran out
abbrev pub HasReadNothing : {K L C T : Type 0} → List (Deed K L C) → Result T ServeFault → Type 0
HasReadNothing did (Ok x) = ⊥
HasReadNothing did (Err fault) = (did ≡ []) × IsOutside fault

-- the bytes that were read are no configuration
abbrev pub HasReadNoUsers : {K L C T : Type 0} → List ℕ → List ℕ → List (Deed K L C)
    → Result T ServeFault → Type 0
HasReadNoUsers config bytes did (Ok x) = ⊥
HasReadNoUsers config bytes did (Err fault) =
    (did ≡ ReadText config bytes ∷ []) × IsBadConfig bytes fault

-- The bytes that were read are a configuration, and its users were served.
pub record HasReadUsers {K R L C T : Type 0} (sight : Sight K L C) (plan_of : Plans R)
    (whole : History → Type 0) (config folder : List ℕ) (port count : ℕ) (bytes : List ℕ)
    (did : List (Deed K L C)) (result : Result T ServeFault) : Type 0 where
  pub users : Configuration
  pub more : List (Deed K L C)
  pub users_are : IsConfigurationOf bytes users
  pub did_is : did ≡ ReadText config bytes ∷ more
  pub served : HasServedUsers sight plan_of whole users folder port count more result

-- What a run did: the configuration of this name was not read; or it was read, and is none, or
-- its users were served.
abbrev pub HasRun : {K R L C T : Type 0} → Sight K L C → Plans R → (History → Type 0)
    → (config folder : List ℕ) → (port count : ℕ) → List (Deed K L C) → Result T ServeFault
    → Type 0
HasRun sight plan_of whole config folder port count did result =
    HasReadNothing did result
    ⊎ ((bytes : List ℕ) × (HasReadNoUsers config bytes did result
    ⊎ HasReadUsers sight plan_of whole config folder port count bytes did result))
