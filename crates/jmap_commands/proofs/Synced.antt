-- How runs of `sync` and of `show` end.
use Rattle.std.proofs.Common.{◌≡◌, inl, inr, ℕ, List, [], Option, None, Some, Result, Ok, Err, sym, ap, subst, arith}
use Rattle.std.specs.Prelude.{⊤}
use Rattle.std.specs.Result.{IfErr}
use Rattle.jm_edge.specs.Causes.{Rose}
use Rattle.batch_lines.specs.Input.{Seen, HasRead}
use Rattle.client_cache.specs.Caches.{Cached, ListView, all_list, new_cached}
use Rattle.client_lines.specs.Lines.{counts_text, list_named, list_text}
use Rattle.client_sync.specs.Faults.{ExplainsLoad}
use Rattle.client_sync.specs.declared.fault.SyncFault.{SyncFault}
use Rattle.client_sync.specs.declared.fault.SyncFault.TheVariants as sync
use Rattle.jmap_client.specs.ClientDeeds.{ClientDeed}
use Rattle.jmap_client.specs.ClientFaults.{IsCaused, IsOutside, fault_of_sync}
use Rattle.jmap_client.specs.ClientSights.{ClientSight}
use Rattle.jmap_client.specs.Printing.{Prints}
use Rattle.jmap_client.specs.Showing.{HasLoaded, PrintsList, PrintsListOf}
use Rattle.jmap_client.specs.Syncing.{PrintsCounts}
use Rattle.jmap_client.specs.declared.fault.ClientFault.{ClientFault}
use Rattle.jmap_client.specs.declared.fault.ClientFault.TheVariants as fault
use Rattle.jmap_commands.specs.Run.{HasBegun, HasBegunPrinting}
use Rattle.jmap_commands.specs.Endings.{Explains}
use Rattle.jmap_commands.specs.Status.{status_of}
use Rattle.jmap_commands.specs.Syncing.{IsClientEnding, IsClientFaultEnding, ending_of_client}
use Rattle.jmap_commands.proofs.Printed.{all_printed, none_printed, some_printed}
use Rattle.jmap_commands.specs.declared.arguments.Command.{Command}
use Rattle.jmap_commands.specs.declared.arguments.Command.TheVariants.{Sync, Show}
use Rattle.jmap_commands.specs.declared.ending.Ending.{Ending}
use Rattle.jmap_commands.specs.declared.ending.Ending.TheVariants.{Done}

-- ---- what is written

prints_begun : (text : List ℕ) (r : Result (Unit {0}) ClientFault) (v : Seen) → HasRead v [] → Prints text v.held v.held_after r → HasBegunPrinting text v
prints_begun text (Ok u) v none h = all_printed text v none h
prints_begun text (Err fault.WriteFault) v none h = some_printed text h.0 v none h.1
prints_begun text (Err fault.NoMemory) v none h = some_printed text h.0 v none h.1
prints_begun text (Err other) v none h = absurd h

pub sync_begun : (ended : Result Cached ClientFault) (r : Result (Unit {0}) ClientFault) (port : ℕ) (v : Seen) → HasRead v [] → PrintsCounts ended v.held v.held_after r → HasBegun (Sync port) v
sync_begun (Ok c) r port v none h = (c, prints_begun (counts_text c) r v none h)
sync_begun (Err f) r port v none h = (new_cached, none_printed (counts_text new_cached) v none h.1)

list_begun : (c : Cached) (o : Option ListView) (r : Result (Unit {0}) ClientFault) (v : Seen) → HasRead v [] → PrintsList c o v.held v.held_after r → HasBegun Show v
list_begun c (Some l) r v none h = (c, l, prints_begun (list_text c l) r v none h)
list_begun c None r v none h = (c, all_list, none_printed (list_text c all_list) v none h.1)

pub show_begun : (list : List ℕ) (ended : Result Cached ClientFault) (r : Result (Unit {0}) ClientFault) (v : Seen) → HasRead v [] → PrintsListOf list ended v.held v.held_after r → HasBegun Show v
show_begun list (Ok c) r v none h = list_begun c (list_named list c.lists) r v none h
show_begun list (Err f) r v none h = (new_cached, all_list, none_printed (list_text new_cached all_list) v none h.1)

-- ---- which faults `show` has

abbrev IsShowFault : ClientFault → Type 0
IsShowFault (fault.BadReply place) = ⊥
IsShowFault (fault.Moved states) = ⊥
IsShowFault fault.ExchangeFault = ⊥
IsShowFault fault.TooLong = ⊥
IsShowFault other = ⊤

outside_shows : (f : ClientFault) → IsOutside {T = Cached} (Err f) → IsShowFault f
outside_shows (fault.BadReply place) h = absurd h
outside_shows (fault.Moved states) h = absurd h
outside_shows fault.ExchangeFault h = absurd h
outside_shows fault.TooLong h = absurd h
outside_shows other h = tt

load_shows : (why : SyncFault) (before loaded : Option (Option (List ℕ))) (faults more : ℕ) → ExplainsLoad before loaded faults more why → IsShowFault (fault_of_sync why)
load_shows (sync.BadReply place) before loaded faults more h = absurd h
load_shows (sync.Moved had shown) before loaded faults more h = absurd h
load_shows sync.TooLong before loaded faults more h = absurd h
load_shows sync.ExchangeFault before loaded faults more h = absurd h
load_shows other before loaded faults more h = tt

loaded_shows : {X F : Type 0} (sight : ClientSight X F) (name : List ℕ) (did : List (ClientDeed X F)) (f : ClientFault) → HasLoaded sight name did (Err f) → IsShowFault f
loaded_shows sight name did f (inl h) = outside_shows f h.1
loaded_shows sight name did f (inr h) =
    subst IsShowFault (sym h.ends.fault_is) (load_shows h.ends.why (sight.kept h.store) (sight.kept h.store') (sight.load_faults h.store) (sight.load_faults h.store') h.ends.explains)

-- ---- why a run ends

-- a command that ends with this fault, or out of memory, is explained so
by_ending : (c : Command) (f : ClientFault) (e : Ending) (v : Seen) → Explains c (ending_of_client f) v → IsClientFaultEnding f e → Explains c e v
by_ending c f e v h (inl ends) = subst (λ (x : Ending). Explains c x v) (sym ends) h
by_ending c f e v h (inr ends) = subst (λ (x : Ending). Explains c x v) (sym ends) tt

module _ (faults faults' talks talks' stores stores' : ℕ) where
  sync_fault : (ended : Result Cached ClientFault) (f : ClientFault) (port : ℕ) (v : Seen) → HasRead v [] → PrintsCounts {T = Unit {0}} ended v.held v.held_after (Err f) → IsCaused v.writes v.writes_after faults faults' talks talks' stores stores' f → Explains (Sync port) (ending_of_client f) v
  sync_fault ended fault.WriteFault port v none h why = why
  sync_fault (Ok c) fault.TooLong port v none h why = absurd h
  sync_fault (Err g) fault.TooLong port v none h why = (none, h.1)
  sync_fault ended other port v none h why = tt

  pub sync_cause : (ended : Result Cached ClientFault) (r : Result (Unit {0}) ClientFault) (e : Ending) (port : ℕ) (v : Seen) → HasRead v [] → PrintsCounts ended v.held v.held_after r → IfErr r (IsCaused v.writes v.writes_after faults faults' talks talks' stores stores') → IsClientEnding r e
      → Explains (Sync port) e v
  sync_cause (Ok c) (Ok u) e port v none h why ends = subst (λ (x : Ending). Explains (Sync port) x v) (sym ends) (c, (none, h))
  sync_cause (Err f) (Ok u) e port v none h why ends = let same = h.0 in cc
  sync_cause ended (Err f) e port v none h why ends = by_ending (Sync port) f e v (sync_fault ended f port v none h why) ends

  show_fault : (f : ClientFault) (v : Seen) → IsShowFault f → IsCaused v.writes v.writes_after faults faults' talks talks' stores stores' f → Explains Show (ending_of_client f) v
  show_fault fault.WriteFault v shows why = why
  show_fault (fault.BadReply place) v shows why = absurd shows
  show_fault (fault.Moved states) v shows why = absurd shows
  show_fault fault.ExchangeFault v shows why = absurd shows
  show_fault fault.TooLong v shows why = absurd shows
  show_fault other v shows why = tt

  printed_shows : (c : Cached) (o : Option ListView) (f : ClientFault) (v : Seen) → PrintsList {T = Unit {0}} c o v.held v.held_after (Err f) → IsShowFault f
  printed_shows c (Some l) (fault.BadReply place) v h = absurd h
  printed_shows c (Some l) (fault.Moved states) v h = absurd h
  printed_shows c (Some l) fault.ExchangeFault v h = absurd h
  printed_shows c (Some l) fault.TooLong v h = absurd h
  printed_shows c (Some l) other v h = tt
  printed_shows c None (fault.BadReply place) v h = absurd h.0
  printed_shows c None (fault.Moved states) v h = absurd h.0
  printed_shows c None fault.ExchangeFault v h = absurd h.0
  printed_shows c None fault.TooLong v h = absurd h.0
  printed_shows c None other v h = tt

  list_done : (c : Cached) (o : Option ListView) (u : Unit {0}) (v : Seen) → HasRead v [] → PrintsList c o v.held v.held_after (Ok u) → Explains Show Done v
  list_done c (Some l) u v none h = (c, l, (none, h))
  list_done c None u v none h = absurd h.0

  pub show_cause : {X F : Type 0} (sight : ClientSight X F) (name list : List ℕ) (did : List (ClientDeed X F)) (ended : Result Cached ClientFault) (r : Result (Unit {0}) ClientFault) (e : Ending) (v : Seen)
      → HasRead v [] → HasLoaded sight name did ended → PrintsListOf list ended v.held v.held_after r → IfErr r (IsCaused v.writes v.writes_after faults faults' talks talks' stores stores') → IsClientEnding r e → Explains Show e v
  show_cause sight name list did (Ok c) (Ok u) e v none looked h why ends = subst (λ (x : Ending). Explains Show x v) (sym ends) (list_done c (list_named list c.lists) u v none h)
  show_cause sight name list did (Ok c) (Err f) e v none looked h why ends = by_ending Show f e v (show_fault f v (printed_shows c (list_named list c.lists) f v h) why) ends
  show_cause sight name list did (Err g) (Ok u) e v none looked h why ends = let same = h.0 in cc
  show_cause sight name list did (Err g) (Err f) e v none looked h why ends =
      let one = h.0 in
      let same : g ≡ f = cc in
      by_ending Show f e v (show_fault f v (subst IsShowFault same (loaded_shows sight name did g looked)) why) ends

  -- what a status says of the counts
  exchange_fault : (f : ClientFault) (e : Ending) (writes writes' : ℕ) → IsClientFaultEnding f e → IsCaused writes writes' faults faults' talks talks' stores stores' f → status_of e ≡ 10 → Rose talks talks'
  exchange_fault f e writes writes' (inr h) why s = absurd (omega (arith, ap status_of h, s))
  exchange_fault fault.ExchangeFault e writes writes' (inl h) why s = why
  exchange_fault other e writes writes' (inl h) why s = absurd (omega (arith, ap status_of h, s))

  pub exchange_end : (r : Result (Unit {0}) ClientFault) (e : Ending) (writes writes' : ℕ) → IsClientEnding r e → IfErr r (IsCaused writes writes' faults faults' talks talks' stores stores') → status_of e ≡ 10 → Rose talks talks'
  exchange_end (Ok u) e writes writes' h why s = absurd (omega (arith, ap status_of h, s))
  exchange_end (Err f) e writes writes' h why s = exchange_fault f e writes writes' h why s

  shelf_fault : (f : ClientFault) (e : Ending) (writes writes' : ℕ) → IsClientFaultEnding f e → IsCaused writes writes' faults faults' talks talks' stores stores' f → status_of e ≡ 11 → Rose stores stores'
  shelf_fault f e writes writes' (inr h) why s = absurd (omega (arith, ap status_of h, s))
  shelf_fault fault.ShelfFault e writes writes' (inl h) why s = why
  shelf_fault other e writes writes' (inl h) why s = absurd (omega (arith, ap status_of h, s))

  pub shelf_end : (r : Result (Unit {0}) ClientFault) (e : Ending) (writes writes' : ℕ) → IsClientEnding r e → IfErr r (IsCaused writes writes' faults faults' talks talks' stores stores') → status_of e ≡ 11 → Rose stores stores'
  shelf_end (Ok u) e writes writes' h why s = absurd (omega (arith, ap status_of h, s))
  shelf_end (Err f) e writes writes' h why s = shelf_fault f e writes writes' h why s

  desk_fault : (f : ClientFault) (e : Ending) (writes writes' : ℕ) → IsClientFaultEnding f e → IsCaused writes writes' faults faults' talks talks' stores stores' f → status_of e ≡ 13 → Rose faults faults'
  desk_fault f e writes writes' (inr h) why s = absurd (omega (arith, ap status_of h, s))
  desk_fault fault.DeskFault e writes writes' (inl h) why s = why
  desk_fault other e writes writes' (inl h) why s = absurd (omega (arith, ap status_of h, s))

  pub client_desk_end : (r : Result (Unit {0}) ClientFault) (e : Ending) (writes writes' : ℕ) → IsClientEnding r e → IfErr r (IsCaused writes writes' faults faults' talks talks' stores stores') → status_of e ≡ 13 → Rose faults faults'
  client_desk_end (Ok u) e writes writes' h why s = absurd (omega (arith, ap status_of h, s))
  client_desk_end (Err f) e writes writes' h why s = desk_fault f e writes writes' h why s
