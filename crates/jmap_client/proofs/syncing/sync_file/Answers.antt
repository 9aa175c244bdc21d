use Rattle.std.proofs.Common.{refl, Ok, Err}
use Rattle.jm_edge.proofs.Known.{appends_none}
use Rattle.jmap_client.proofs.Caused.{caused_printing}
use Rattle.jmap_client.proofs.syncing.sync_file.Goals as goal

pub returns-in-Ok-clause-synced : goal.returns-in-Ok-clause-synced
returns-in-Ok-clause-synced g c =
    let brought = c.in-Ok.ensures.told in
    record {
      did = brought.0;
      ended = Ok c.in-Ok.cache;
      told_is = brought.1;
      brought = brought.2;
      printed = c.print_counts.ensures.printed;
    }

pub returns-in-Err-clause-synced : goal.returns-in-Err-clause-synced
returns-in-Err-clause-synced g c =
    let brought = c.in-Err.ensures.told in
    record {
      did = brought.0;
      ended = Err c.in-Err.fault;
      told_is = brought.1;
      brought = brought.2;
      printed = (refl, appends_none (g.O.Sink.held c.args.out.now));
    }

pub returns-in-Ok-clause-causes : goal.returns-in-Ok-clause-causes
returns-in-Ok-clause-causes g c =
    let w = g.W.ClientWorld in
    let before = c.args.world.now in
    let after = c.bring.new.world in
    caused_printing c.print_counts.result (g.O.Sink.faults c.args.out.now) (g.O.Sink.faults c.print_counts.new.out) (w.faults before) (w.faults after) (w.talk_faults before) (w.talk_faults after) (w.store_faults before) (w.store_faults after) c.print_counts.ensures.cause
