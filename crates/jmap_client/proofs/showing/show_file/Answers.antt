use Rattle.std.proofs.Common.{refl, Ok, Err}
use Rattle.jm_edge.proofs.Known.{appends_none}
use Rattle.jmap_client.proofs.Caused.{caused_printing}
use Rattle.jmap_client.proofs.showing.show_file.Goals as goal

pub returns-in-Ok-clause-shown : goal.returns-in-Ok-clause-shown
returns-in-Ok-clause-shown g c =
    let loaded = c.in-Ok.ensures.told in
    record {
      did = loaded.0;
      ended = Ok c.in-Ok.cache;
      told_is = loaded.1;
      loaded = loaded.2;
      printed = c.print_list.ensures.printed;
    }

pub returns-in-Err-clause-shown : goal.returns-in-Err-clause-shown
returns-in-Err-clause-shown g c =
    let loaded = c.in-Err.ensures.told in
    record {
      did = loaded.0;
      ended = Err c.in-Err.fault;
      told_is = loaded.1;
      loaded = loaded.2;
      printed = (refl, appends_none (g.O.Sink.held c.args.out.now));
    }

pub returns-in-Ok-clause-causes : goal.returns-in-Ok-clause-causes
returns-in-Ok-clause-causes g c =
    let w = g.W.ClientWorld in
    let before = c.args.world.now in
    let after = c.load_file.new.world in
    caused_printing c.print_list.result (g.O.Sink.faults c.args.out.now) (g.O.Sink.faults c.print_list.new.out) (w.faults before) (w.faults after) (w.talk_faults before) (w.talk_faults after) (w.store_faults before) (w.store_faults after) c.print_list.ensures.cause
