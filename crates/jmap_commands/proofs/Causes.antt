-- Which counts of faults rose where a run ends with a status.
use Rattle.std.proofs.Common.{◌≡◌, ℕ, List, Option, None, Some, sym, ap, ◌∙◌, arith}
use Rattle.jm_edge.specs.Causes.{Rose}
use Rattle.mail_records.specs.Histories.{History}
use Rattle.batch_lines.specs.Input.{Seen}
use Rattle.jmap_server.specs.Lines.{Plans, Sight}
use Rattle.jmap_client.specs.ClientSights.{ClientSight}
use Rattle.jmap_commands.specs.Endings.{Explains, ExplainsBy, IsOfClient, IsServing, IsSyncing, UsesWorld}
use Rattle.jmap_commands.specs.Status.{status_of}
use Rattle.jmap_commands.specs.Uses.{HasCauses, HasUsed, WorldRose}
use Rattle.jmap_commands.specs.Worlds.{ClientSeen, ServerSeen}
use Rattle.jmap_commands.proofs.Ends.{read_of, write_of}
use Rattle.jmap_commands.proofs.Servings.{desk_end, keeper_end}
use Rattle.jmap_commands.proofs.Synced.{client_desk_end, exchange_end, shelf_end}
use Rattle.jmap_commands.specs.declared.arguments.Command.{Command}
use Rattle.jmap_commands.specs.declared.arguments.Command.TheVariants.{Serve, Sync, Show}
use Rattle.jmap_commands.specs.declared.ending.Ending.{Ending}
use Rattle.jmap_commands.specs.declared.ending.Ending.TheVariants.{KeeperFault, ExchangeFault, ShelfFault, DeskFault}

no_keeper : (c : Command) (e : Ending) (v : Seen) → ¬ IsServing c → Explains c e v → status_of e ≡ 6 → ⊥
no_keeper c KeeperFault v none h s = none h
no_keeper c other v none h s = absurd (omega (arith, s))

no_exchange : (c : Command) (e : Ending) (v : Seen) → ¬ IsSyncing c → Explains c e v → status_of e ≡ 10 → ⊥
no_exchange c ExchangeFault v none h s = none h
no_exchange c other v none h s = absurd (omega (arith, s))

no_shelf : (c : Command) (e : Ending) (v : Seen) → ¬ IsOfClient c → Explains c e v → status_of e ≡ 11 → ⊥
no_shelf c ShelfFault v none h s = none h
no_shelf c other v none h s = absurd (omega (arith, s))

no_desk : (c : Command) (e : Ending) (v : Seen) → ¬ UsesWorld c → Explains c e v → status_of e ≡ 13 → ⊥
no_desk c DeskFault v none h s = none h
no_desk c other v none h s = absurd (omega (arith, s))

module _ {K R L C X F : Type 0} (sight : Sight K L C) (plan_of : Plans R) (whole : History → Type 0) (talks : ClientSight X F) (words : List (List ℕ)) (s : ServerSeen K L C) (w : ClientSeen X F) (v : Seen) where
  keeper_of : (c : Option Command) (e : Ending) → ExplainsBy c e v → HasUsed sight plan_of whole talks c words s w v e → status_of e ≡ 6 → Rose s.loads s.loads_after
  keeper_of None e h u is = absurd (omega (arith, ap status_of h, is))
  keeper_of (Some (Serve port count)) e h u is = keeper_end s.faults s.faults_after s.loads s.loads_after u.0.result e u.0.ending u.0.caused is
  keeper_of (Some other) e h u is = absurd (no_keeper other e v (λ x. x) h is)

  exchange_of : (c : Option Command) (e : Ending) → ExplainsBy c e v → HasUsed sight plan_of whole talks c words s w v e → status_of e ≡ 10 → Rose w.talks w.talks_after
  exchange_of None e h u is = absurd (omega (arith, ap status_of h, is))
  exchange_of (Some (Sync port)) e h u is = exchange_end w.faults w.faults_after w.talks w.talks_after w.stores w.stores_after u.0.result e v.writes v.writes_after u.0.ending u.0.caused is
  exchange_of (Some other) e h u is = absurd (no_exchange other e v (λ x. x) h is)

  shelf_of : (c : Option Command) (e : Ending) → ExplainsBy c e v → HasUsed sight plan_of whole talks c words s w v e → status_of e ≡ 11 → Rose w.stores w.stores_after
  shelf_of None e h u is = absurd (omega (arith, ap status_of h, is))
  shelf_of (Some (Sync port)) e h u is = shelf_end w.faults w.faults_after w.talks w.talks_after w.stores w.stores_after u.0.result e v.writes v.writes_after u.0.ending u.0.caused is
  shelf_of (Some Show) e h u is = shelf_end w.faults w.faults_after w.talks w.talks_after w.stores w.stores_after u.0.result e v.writes v.writes_after u.0.ending u.0.caused is
  shelf_of (Some other) e h u is = absurd (no_shelf other e v (λ x. x) h is)

  desk_of : (c : Option Command) (e : Ending) → ExplainsBy c e v → HasUsed sight plan_of whole talks c words s w v e → status_of e ≡ 13 → WorldRose c s w
  desk_of None e h u is = absurd (omega (arith, ap status_of h, is))
  desk_of (Some (Serve port count)) e h u is = desk_end s.faults s.faults_after s.loads s.loads_after u.0.result e u.0.ending u.0.caused is
  desk_of (Some (Sync port)) e h u is = client_desk_end w.faults w.faults_after w.talks w.talks_after w.stores w.stores_after u.0.result e v.writes v.writes_after u.0.ending u.0.caused is
  desk_of (Some Show) e h u is = client_desk_end w.faults w.faults_after w.talks w.talks_after w.stores w.stores_after u.0.result e v.writes v.writes_after u.0.ending u.0.caused is
  desk_of (Some other) e h u is = absurd (no_desk other e v (λ x. x) h is)

  pub has_causes : (c : Option Command) (n : ℕ) (e : Ending) → n ≡ status_of e → ExplainsBy c e v → HasUsed sight plan_of whole talks c words s w v e → HasCauses c n s w v
  has_causes c n e is h u = record {
    read = read_of c e v n is h;
    write = write_of c e v n is h;
    keeper = λ same. keeper_of c e h u (sym is ∙ same);
    exchange = λ same. exchange_of c e h u (sym is ∙ same);
    shelf = λ same. shelf_of c e h u (sym is ∙ same);
    desk = λ same. desk_of c e h u (sym is ∙ same);
  }
