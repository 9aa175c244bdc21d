use Rattle.std.proofs.Common.{refl}
use Rattle.batch_lines.specs.Input.{seen}
use Rattle.jmap_commands.proofs.Messages.{begun_untold, written_begun, written_cause, unread_cause}
use Rattle.jm_edge.proofs.Known.{appends_none}
use Rattle.jmap_commands.proofs.read.read_message.Goals as goal

pub returns-in-Ok-clause-begun : goal.returns-in-Ok-clause-begun
returns-in-Ok-clause-begun g c =
    let v = (seen g.S.Source.left g.S.Source.faults c.args.source.now c.take_message.new.source g.O.Sink.held g.O.Sink.faults c.args.out.now c.write_message.new.out) in
    written_begun c.write_message.result v c.in-Ok.message c.in-Ok.ensures.ok.0 c.in-Ok.ensures.ok.2 c.write_message.ensures

pub returns-in-Ok-clause-cause : goal.returns-in-Ok-clause-cause
returns-in-Ok-clause-cause g c =
    let v = (seen g.S.Source.left g.S.Source.faults c.args.source.now c.take_message.new.source g.O.Sink.held g.O.Sink.faults c.args.out.now c.write_message.new.out) in
    written_cause c.write_message.result v c.in-Ok.message c.in-Ok.ensures.ok.0 c.in-Ok.ensures.ok.1 c.in-Ok.ensures.ok.2 c.write_message.ensures

pub returns-in-Err-clause-begun : goal.returns-in-Err-clause-begun
returns-in-Err-clause-begun g c =
    begun_untold (seen g.S.Source.left g.S.Source.faults c.args.source.now c.take_message.new.source g.O.Sink.held g.O.Sink.faults c.args.out.now c.args.out.now) c.in-Err.ensures.taken.0 c.in-Err.ensures.taken.1 (appends_none (g.O.Sink.held c.args.out.now))

pub returns-in-Err-clause-cause : goal.returns-in-Err-clause-cause
returns-in-Err-clause-cause g c =
    unread_cause c.in-Err.ending (seen g.S.Source.left g.S.Source.faults c.args.source.now c.take_message.new.source g.O.Sink.held g.O.Sink.faults c.args.out.now c.args.out.now) c.in-Err.ensures.taken.0 refl c.in-Err.ensures.taken.1 c.in-Err.ensures.reason
