-- How runs of `serve` end.
use Rattle.std.proofs.Common.{◌≡◌, ◌⊎◌, inl, inr, ℕ, ◌<◌, [], Result, Ok, Err, ap, arith}
use Rattle.std.specs.Result.{IfErr}
use Rattle.jm_edge.specs.Causes.{Rose}
use Rattle.batch_lines.specs.Input.{Seen, HasRead}
use Rattle.jmap_server.specs.Serving.{IsCaused}
use Rattle.jmap_server.specs.declared.fault.ServeFault.{ServeFault}
use Rattle.jmap_server.specs.declared.fault.ServeFault.TheVariants as fault
use Rattle.jmap_commands.specs.Run.{HasBegun, served_text}
use Rattle.jmap_commands.specs.Endings.{Explains}
use Rattle.jmap_commands.specs.Status.{status_of}
use Rattle.jmap_commands.specs.Serving.{IsEndingOf, WritesServed, ending_of_fault}
use Rattle.jmap_commands.proofs.Printed.{all_printed, none_printed, some_printed}
use Rattle.jmap_commands.specs.declared.arguments.Command.TheVariants.{Serve}
use Rattle.jmap_commands.specs.declared.ending.Ending.{Ending}
use Rattle.jmap_commands.specs.declared.ending.Ending.TheVariants.{Done, WriteFault, NoMemory, KeeperFault, Damaged, BadConfig, DeskFault}

pub serve_cause : (e : Ending) (port count : ℕ) (v : Seen) → HasRead v [] → WritesServed e count v.held v.held_after v.writes v.writes_after → Explains (Serve port count) e v
serve_cause Done port count v none h = (none, h)
serve_cause WriteFault port count v none h = h.0
serve_cause NoMemory port count v none h = tt
serve_cause KeeperFault port count v none h = tt
serve_cause (Damaged line) port count v none h = tt
serve_cause (BadConfig line) port count v none h = tt
serve_cause DeskFault port count v none h = tt
serve_cause other port count v none h = absurd h

pub serve_begun : (e : Ending) (port count : ℕ) (v : Seen) → HasRead v [] → WritesServed e count v.held v.held_after v.writes v.writes_after → HasBegun (Serve port count) v
serve_begun Done port count v none h = all_printed (served_text count) v none h
serve_begun WriteFault port count v none h = some_printed (served_text count) h.1.0 v none h.1.1
serve_begun NoMemory port count v none h = none_printed (served_text count) v none h
serve_begun KeeperFault port count v none h = none_printed (served_text count) v none h
serve_begun (Damaged line) port count v none h = none_printed (served_text count) v none h
serve_begun (BadConfig line) port count v none h = none_printed (served_text count) v none h
serve_begun DeskFault port count v none h = none_printed (served_text count) v none h
serve_begun other port count v none h = absurd h

-- ---- what the statuses of `serve` say

module _ (faults faults' loads loads' : ℕ) where
  keeper_fault : (f : ServeFault) (e : Ending) → (e ≡ ending_of_fault f) ⊎ (e ≡ NoMemory) → IsCaused faults faults' loads loads' f → status_of e ≡ 6 → Rose loads loads'
  keeper_fault f e (inr h) c s = absurd (omega (arith, ap status_of h, s))
  keeper_fault fault.KeeperFault e (inl h) c s = c
  keeper_fault other e (inl h) c s = absurd (omega (arith, ap status_of h, s))

  desk_fault : (f : ServeFault) (e : Ending) → (e ≡ ending_of_fault f) ⊎ (e ≡ NoMemory) → IsCaused faults faults' loads loads' f → status_of e ≡ 13 → Rose faults faults'
  desk_fault f e (inr h) c s = absurd (omega (arith, ap status_of h, s))
  desk_fault fault.DeskFault e (inl h) c s = c
  desk_fault other e (inl h) c s = absurd (omega (arith, ap status_of h, s))

  done_low : (e : Ending) → (e ≡ Done) ⊎ (e ≡ WriteFault) ⊎ (e ≡ NoMemory) → status_of e < 6
  done_low e (inl h) = omega (arith, ap status_of h)
  done_low e (inr (inl h)) = omega (arith, ap status_of h)
  done_low e (inr (inr h)) = omega (arith, ap status_of h)

  pub keeper_end : (r : Result (Unit {0}) ServeFault) (e : Ending) → IsEndingOf r e → IfErr r (IsCaused faults faults' loads loads') → status_of e ≡ 6 → Rose loads loads'
  keeper_end (Ok x) e h c s = absurd (omega (arith, done_low e h, s))
  keeper_end (Err f) e h c s = keeper_fault f e h c s

  pub desk_end : (r : Result (Unit {0}) ServeFault) (e : Ending) → IsEndingOf r e → IfErr r (IsCaused faults faults' loads loads') → status_of e ≡ 13 → Rose faults faults'
  desk_end (Ok x) e h c s = absurd (omega (arith, done_low e h, s))
  desk_end (Err f) e h c s = desk_fault f e h c s
