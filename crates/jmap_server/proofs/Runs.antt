-- A run of a server, one part after the other.
use Rattle.std.proofs.Common.{◌≡◌, inl, inr, ℕ, List, [], ◌∷◌, ◌++◌, map, take, reverse, length, Result, Ok, Err, refl, sym, ap, ap₂, ◌∙◌, subst, arith}
use Rattle.std.specs.Result.{IfErr}
use Rattle.std.proofs.Math.Seq.{take-length}
use Rattle.std.proofs.lemmas.List.{length-map, reverse-reverse}
use Rattle.mail_records.specs.Histories.{History}
use Rattle.jm_edge.specs.Causes.{IsCounted, Rose}
use Rattle.jm_edge.specs.declared.fault.EdgeFault.{EdgeFault}
use Rattle.jm_edge.specs.declared.fault.EdgeFault.TheVariants.{Failed, NoMemory as NoRoom}
use Rattle.account_lock.specs.Views.{PassFacts}
use Rattle.account_hall.specs.Building.{AreBuilt}
use Rattle.account_hall.specs.Halls.{RoomView}
use Rattle.account_hall.specs.declared.named_account.Named.{Named}
use Rattle.server_users.specs.Configuration.{Configuration}
use Rattle.server_users.specs.Lookups.{IsFaultOf, places_of}
use Rattle.server_users.specs.declared.fault.ConfigFault.{ConfigFault}
use Rattle.server_users.specs.declared.fault.ConfigFault.TheVariants as config
use Rattle.jmap_server.specs.declared.fault.ServeFault.{ServeFault}
use Rattle.std.specs.List.{AllByRecursion}
use Rattle.account_hall.specs.Sessions.{SessionView}
use Rattle.account_hall.specs.Closing.{KnowsSessions}
use Rattle.account_hall.proofs.Closing.{none_known}
use Rattle.jmap_server.specs.Deeds.{Deed, Lent, Listened, ReadText, account_of}
use Rattle.jmap_server.specs.Lines.{HasServedLines, Plans, Sight}
use Rattle.jmap_server.specs.Serving.{HasOpenedAll, HasRun, HasServed, HasServedHall, HasServedOrNot, HasServedPort, HasServedUsers, IsBadConfig, IsCaused, IsOutside, IsRefusedBy, config_fault_of, end_of, fault_of, name_in, name_of, names_in}
use Rattle.jmap_server.specs.Openings.{AreAsBefore, Opening, keepers_back, keepers_of, openings_of}
use Rattle.jmap_server.proofs.Openings.{back_names, back_of_closed, closed_by, names_opened, opened_as_before, opened_names}

-- ---- faults of the world

pub outside_of : (fault : EdgeFault) → IsOutside (fault_of fault)
outside_of Failed = tt
outside_of NoRoom = tt

-- a fault of the world, whose count is then the same
pub caused_of : (fault : EdgeFault) (faults mid faults' loads loads' : ℕ) → IsCounted {T = Unit {0}} faults mid (Err fault) → faults' ≡ mid → IsCaused faults faults' loads loads' (fault_of fault)
caused_of Failed faults mid faults' loads loads' h e = subst (Rose faults) (sym e) h
caused_of NoRoom faults mid faults' loads loads' h e = tt

pub end_caused : {T : Type 0} (r : Result T EdgeFault) (faults mid faults' loads loads' : ℕ) → IsCounted faults mid r → faults' ≡ mid → IfErr (end_of r) (IsCaused faults faults' loads loads')
end_caused (Ok x) faults mid faults' loads loads' h e = tt
end_caused (Err Failed) faults mid faults' loads loads' h e = subst (Rose faults) (sym e) h
end_caused (Err NoRoom) faults mid faults' loads loads' h e = tt

-- a count that was the same before
pub counted_from : {T : Type 0} (r : Result T EdgeFault) (faults mid faults' : ℕ) → mid ≡ faults → IsCounted mid faults' r → IsCounted faults faults' r
counted_from r faults mid faults' e h = subst (λ (n : ℕ). IsCounted n faults' r) e h

-- ---- the accounts of a hall

pub built_names : {K R : Type 0} (accounts : List (Named K R)) (rooms : List RoomView) (roots : List PassFacts) → AreBuilt accounts rooms roots → map name_of rooms ≡ names_in accounts
built_names [] [] [] h = refl
built_names [] [] (k ∷ ks) h = absurd h
built_names [] (r ∷ rs) ks h = absurd h
built_names (a ∷ accounts) [] ks h = absurd h
built_names (a ∷ accounts) (r ∷ rs) [] h = absurd h
built_names (a ∷ accounts) (r ∷ rs) (k ∷ ks) h = ap₂ (λ (n : List ℕ) (ns : List (List ℕ)). n ∷ ns) h.0 (built_names accounts rs ks h.2)

-- no session has left yet
pub built_ended : {K R : Type 0} (accounts : List (Named K R)) (rooms : List RoomView) (roots : List PassFacts) → AreBuilt accounts rooms roots → AllByRecursion (λ k. k.ended ≡ []) roots
built_ended [] [] [] h = tt
built_ended [] [] (k ∷ ks) h = absurd h
built_ended [] (r ∷ rs) ks h = absurd h
built_ended (a ∷ accounts) [] ks h = absurd h
built_ended (a ∷ accounts) (r ∷ rs) [] h = absurd h
built_ended (a ∷ accounts) (r ∷ rs) (k ∷ ks) h = (ap (λ (x : PassFacts). x.ended) h.1, built_ended accounts rs ks h.2)

module _ {K R L C T : Type 0} (sight : Sight K L C) (plan_of : Plans R) where
  pub port_served : (rooms : List RoomView) (users : Configuration) (sessions : List SessionView) (port count : ℕ) (lines : List (Deed K L C)) (r : Result T EdgeFault) → HasServedLines sight plan_of rooms users sessions count lines r
      → HasServedPort sight plan_of rooms users sessions port count (Listened port ∷ lines) r
  port_served rooms users sessions port count lines (Ok x) h = record { lines = lines; did_is = refl; served = h }
  port_served rooms users sessions port count lines (Err fault) h = inr (record { lines = lines; did_is = refl; served = h })

  pub hall_served : (rooms : List RoomView) (users : Configuration) (sessions : List SessionView) (port count : ℕ) (did : List (Deed K L C)) (r : Result T EdgeFault) → HasServedPort sight plan_of rooms users sessions port count did r
      → HasServed sight plan_of users (map name_of rooms) sessions port count did (end_of r)
  hall_served rooms users sessions port count did (Ok x) h = inr (record {
    rooms = rooms;
    lines = h.lines;
    served = h.served.served;
    rooms_are = refl;
    did_is = h.did_is;
    served_are = h.served.lines;
    ends = h.served.enough;
  })
  hall_served rooms users sessions port count did (Err fault) (inl (none, nobody)) = inl (none, outside_of fault, nobody)
  hall_served rooms users sessions port count did (Err fault) (inr h) = inr (record {
    rooms = rooms;
    lines = h.lines;
    served = h.served.served;
    rooms_are = refl;
    did_is = h.did_is;
    served_are = h.served.lines;
    ends = (h.served.enough, outside_of fault);
  })

  pub open_served : {V : Type 0} (accounts : List (Named K V)) (users : Configuration) (rooms : List RoomView) (roots : List PassFacts) (port count : ℕ) (did : List (Deed K L C)) (r : Result T ServeFault) → AreBuilt accounts rooms roots
      → HasServedHall sight plan_of users rooms roots port count did r → HasServedOrNot sight plan_of users (openings_of accounts) port count did r
  open_served accounts users rooms roots port count did r built h = inr (record {
    middle = h.middle;
    sessions = h.sessions;
    closings = h.closings;
    did_is = h.did_is;
    served = subst (λ (ns : List (List ℕ)). HasServed sight plan_of users ns h.sessions port count h.middle r) (built_names accounts rooms roots built ∙ sym (names_opened accounts)) h.served;
    closed = closed_by sight.kept sight.append_faults h.sessions 0 accounts rooms roots h.roots' h.closings built h.same_openings (λ i root there. subst (λ (n : ℕ). KnowsSessions n root h.sessions) (omega arith) (h.goes.knows [] (none_known roots (built_ended accounts rooms roots built)) i root there)) h.closed;
  })

  module _ (whole : History → Type 0) (users : Configuration) (folder : List ℕ) (port count : ℕ) where
    pub users_served : {V : Type 0} (v : V) (openings : V → List (Opening K)) (did served : List (Deed K L C)) (r : Result T ServeFault) → map name_in (openings v) ≡ users.account_ids → HasOpenedAll {T = V} sight.kept whole folder users.account_ids openings did (Ok v)
        → HasServedOrNot sight plan_of users (openings v) port count served r → HasServedUsers sight plan_of whole users folder port count (did ++ served) r
    users_served v openings did served (Ok x) e (given, did_is, named, opened) (inl none) = absurd none
    users_served v openings did served (Err fault) e (given, did_is, named, opened) (inl (why, closing)) =
        let back = reverse (keepers_of (openings v)) in
        let as_before = subst (λ (ks : List (Lent K)). AreAsBefore sight.kept given ks) (sym (reverse-reverse (keepers_of (openings v)))) (opened_as_before sight.kept whole given (openings v) opened) in
        record {
          given = given;
          back = back;
          middle = [];
          did_is = ap₂ (λ (ds es : List (Deed K L C)). ds ++ es) did_is closing;
          all_back = back_names sight.kept given back as_before;
          outcome = inl (
            refl,
            named ∙ sym (take-length users.account_ids) ∙ ap (λ (n : ℕ). take n users.account_ids) (ap length (sym named) ∙ length-map given account_of),
            as_before,
            subst (IsRefusedBy sight.kept whole given back) (sym why) tt,
          );
        }
    users_served v openings did served r e (given, did_is, named, opened) (inr h) = record {
      given = given;
      back = keepers_back h.closings;
      middle = h.middle;
      did_is = ap₂ (λ (ds es : List (Deed K L C)). ds ++ es) did_is h.did_is;
      all_back = back_of_closed sight.kept sight.append_faults h.sessions 0 (openings v) h.closings h.closed ∙ ap reverse (opened_names sight.kept whole given (openings v) opened);
      outcome = inr (record {
        openings = openings v;
        sessions = h.sessions;
        closings = h.closings;
        all = named;
        opened = opened;
        served = subst (λ (ns : List (List ℕ)). HasServed sight plan_of users ns h.sessions port count h.middle r) e h.served;
        closed = h.closed;
        back_is = refl;
      });
    }

    pub users_refused : {V : Type 0} (openings : V → List (Opening K)) (did : List (Deed K L C)) (fault : ServeFault) → HasOpenedAll {T = V} sight.kept whole folder users.account_ids openings did (Err fault)
        → HasServedUsers {T = T} sight plan_of whole users folder port count did (Err fault)
    users_refused openings did fault h = record {
      given = h.given;
      back = h.back;
      middle = [];
      did_is = h.did_is;
      all_back = back_names sight.kept h.given h.back h.as_before;
      outcome = inl (refl, h.first, h.as_before, h.why);
    }

bad_config : (bytes : List ℕ) (fault : ConfigFault) → IsFaultOf (places_of bytes) fault → IsBadConfig bytes (config_fault_of fault)
bad_config bytes (config.BadConfig place) h = h
bad_config bytes config.NoMemory h = tt

pub config_caused : (fault : ConfigFault) (faults faults' loads loads' : ℕ) → IsCaused faults faults' loads loads' (config_fault_of fault)
config_caused (config.BadConfig place) faults faults' loads loads' = tt
config_caused config.NoMemory faults faults' loads loads' = tt

pub config_refused : {K R L C T : Type 0} (sight : Sight K L C) (plan_of : Plans R) (whole : History → Type 0) (name folder : List ℕ) (port count : ℕ) (bytes : List ℕ) (fault : ConfigFault) → IsFaultOf (places_of bytes) fault
    → HasRun {T = T} sight plan_of whole name folder port count (ReadText name bytes ∷ []) (Err (config_fault_of fault))
config_refused sight plan_of whole name folder port count bytes fault h = inr (bytes, inl (refl, bad_config bytes fault h))
