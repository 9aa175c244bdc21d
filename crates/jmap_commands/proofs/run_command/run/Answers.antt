use Rattle.std.proofs.Common.{map, string_bytes}
use Rattle.jmap_commands.specs.Arguments.{command_of}
use Rattle.batch_lines.specs.Input.{seen}
use Rattle.jmap_server.specs.Lines.{sight_of}
use Rattle.jmap_client.specs.ClientSights.{client_sight_of}
use Rattle.jmap_commands.specs.Serving.{is_mail, mail_plan}
use Rattle.jmap_commands.specs.Worlds.{client_seen, server_seen}
use Rattle.jmap_commands.proofs.Causes.{has_causes}
use Rattle.jmap_commands.proofs.Ends.{done_of, fault_of, limit_of, usage_of}
use Rattle.jmap_commands.proofs.run_command.run.Goals as goal

pub returns-clause-done : goal.returns-clause-done
returns-clause-done g c =
    done_of (command_of (map string_bytes c.args.words.now)) c.perform.result (seen g.S.Source.left g.S.Source.faults c.args.source.now c.perform.new.source g.O.Sink.held g.O.Sink.faults c.args.out.now c.perform.new.out) c.say.result.0 c.say.ensures.status c.perform.ensures.cause

pub returns-clause-fault : goal.returns-clause-fault
returns-clause-fault g c =
    fault_of (command_of (map string_bytes c.args.words.now)) c.perform.result (seen g.S.Source.left g.S.Source.faults c.args.source.now c.perform.new.source g.O.Sink.held g.O.Sink.faults c.args.out.now c.perform.new.out) c.say.result.0 c.say.ensures.status c.perform.ensures.cause

pub returns-clause-limit : goal.returns-clause-limit
returns-clause-limit g c =
    limit_of (command_of (map string_bytes c.args.words.now)) c.perform.result (seen g.S.Source.left g.S.Source.faults c.args.source.now c.perform.new.source g.O.Sink.held g.O.Sink.faults c.args.out.now c.perform.new.out) c.say.result.0 c.say.ensures.status c.perform.ensures.cause

pub returns-clause-usage : goal.returns-clause-usage
returns-clause-usage g c =
    usage_of (command_of (map string_bytes c.args.words.now)) c.perform.result (seen g.S.Source.left g.S.Source.faults c.args.source.now c.perform.new.source g.O.Sink.held g.O.Sink.faults c.args.out.now c.perform.new.out) c.say.result.0 c.say.ensures.status c.perform.ensures.cause

pub returns-clause-causes : goal.returns-clause-causes
returns-clause-causes g c =
    has_causes (sight_of g.W.Line.Link.left g.W.Line.Link.held g.W.Line.Link.read_faults g.W.Line.Link.put_faults g.W.Time.Clock.times g.W.Keep.Keeper.kept g.W.Keep.Keeper.append_faults) mail_plan is_mail
    (client_sight_of g.C.Talk.Exchange.told g.C.Talk.Exchange.faults g.C.Store.Shelf.kept g.C.Store.Shelf.load_faults g.C.Store.Shelf.save_faults) (map string_bytes c.args.words.now)
    (server_seen g.W.World.told g.W.World.faults g.W.World.load_faults c.args.worlds.now.server c.perform.new.server) (client_seen g.C.ClientWorld.told g.C.ClientWorld.faults g.C.ClientWorld.talk_faults g.C.ClientWorld.store_faults c.args.worlds.now.client c.perform.new.client)
    (seen g.S.Source.left g.S.Source.faults c.args.source.now c.perform.new.source g.O.Sink.held g.O.Sink.faults c.args.out.now c.perform.new.out) (command_of (map string_bytes c.args.words.now)) c.say.result.0 c.perform.result c.say.ensures.status c.perform.ensures.cause c.perform.ensures.used

pub returns-clause-used : goal.returns-clause-used
returns-clause-used g c = (c.perform.result, c.say.ensures.status, c.say.ensures.text, c.perform.ensures.cause, c.perform.ensures.used)
