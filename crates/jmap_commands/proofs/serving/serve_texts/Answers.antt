use Rattle.jmap_commands.proofs.Unserved.{fault_written}
use Rattle.jmap_commands.proofs.serving.serve_texts.Goals as goal

pub returns-in-Err-clause-written : goal.returns-in-Err-clause-written
returns-in-Err-clause-written g c = fault_written c.in-Err.fault c.find_serve_ending.result c.args.count (g.O.Sink.held c.args.out.now) (g.O.Sink.faults c.args.out.now) c.find_serve_ending.ensures
