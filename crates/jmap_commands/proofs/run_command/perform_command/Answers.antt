use Rattle.std.proofs.Common.{[], slice_index_or, refl, sym, ap, ◌∙◌, subst, map, string_bytes, Some, arith}
use Rattle.std.proofs.lemmas.List.{length-map}
use Rattle.jm_edge.proofs.Known.{consumes_none}
use Rattle.jmap_server.specs.Lines.{sight_of}
use Rattle.jmap_client.specs.ClientSights.{client_sight_of}
use Rattle.jmap_commands.specs.Uses.{HasUsed}
use Rattle.jmap_commands.specs.Worlds.{client_seen, server_seen}
use Rattle.jmap_commands.proofs.CommandsNamed.{serve_count, serve_length, show_length, sync_length}
use Rattle.jmap_commands.proofs.Servings.{serve_begun, serve_cause}
use Rattle.jmap_commands.proofs.Synced.{show_begun, show_cause, sync_begun, sync_cause}
use Rattle.batch_lines.specs.Input.{seen}
use Rattle.jmap_commands.specs.Run.{HasBegun}
use Rattle.jmap_commands.specs.Endings.{Explains}
use Rattle.jmap_commands.specs.declared.arguments.Command.{Command}
use Rattle.jmap_commands.proofs.run_command.perform_command.Goals as goal

pub returns-in-Batch-clause-begun : goal.returns-in-Batch-clause-begun
returns-in-Batch-clause-begun g c =
    subst (λ (w : Command). HasBegun w (seen g.S.Source.left g.S.Source.faults c.args.source.now c.answer_batch.new.source g.O.Sink.held g.O.Sink.faults c.args.out.now c.answer_batch.new.out)) (sym c.in-Batch.is)
    c.answer_batch.ensures.begun

pub returns-in-Batch-clause-cause : goal.returns-in-Batch-clause-cause
returns-in-Batch-clause-cause g c =
    subst (λ (w : Command). Explains w c.answer_batch.result (seen g.S.Source.left g.S.Source.faults c.args.source.now c.answer_batch.new.source g.O.Sink.held g.O.Sink.faults c.args.out.now c.answer_batch.new.out)) (sym c.in-Batch.is)
    c.answer_batch.ensures.cause

pub returns-in-Read-clause-begun : goal.returns-in-Read-clause-begun
returns-in-Read-clause-begun g c =
    subst (λ (w : Command). HasBegun w (seen g.S.Source.left g.S.Source.faults c.args.source.now c.read_message.new.source g.O.Sink.held g.O.Sink.faults c.args.out.now c.read_message.new.out)) (sym c.in-Read.is)
    c.read_message.ensures.begun

pub returns-in-Read-clause-cause : goal.returns-in-Read-clause-cause
returns-in-Read-clause-cause g c =
    subst (λ (w : Command). Explains w c.read_message.result (seen g.S.Source.left g.S.Source.faults c.args.source.now c.read_message.new.source g.O.Sink.held g.O.Sink.faults c.args.out.now c.read_message.new.out)) (sym c.in-Read.is)
    c.read_message.ensures.cause

pub returns-in-Batch-clause-used : goal.returns-in-Batch-clause-used
returns-in-Batch-clause-used g c = subst (λ (w : Command). HasUsed (sight_of g.W.Line.Link.left g.W.Line.Link.held g.W.Line.Link.read_faults g.W.Line.Link.put_faults g.W.Time.Clock.times g.W.Keep.Keeper.kept g.W.Keep.Keeper.append_faults) g.F.Rules.Rules.plan_of (g.F.Rules.Rules.is_whole (g.F.RulesSource.rules c.args.rules.now)) (client_sight_of g.C.Talk.Exchange.told g.C.Talk.Exchange.faults g.C.Store.Shelf.kept g.C.Store.Shelf.load_faults g.C.Store.Shelf.save_faults) (Some w) (map string_bytes c.args.words.now) (server_seen g.W.World.told g.W.World.faults g.W.World.load_faults c.args.server.now c.args.server.now) (client_seen g.C.ClientWorld.told g.C.ClientWorld.faults g.C.ClientWorld.talk_faults g.C.ClientWorld.store_faults c.args.client.now c.args.client.now) (seen g.S.Source.left g.S.Source.faults c.args.source.now c.answer_batch.new.source g.O.Sink.held g.O.Sink.faults c.args.out.now c.answer_batch.new.out) c.answer_batch.result) (sym c.in-Batch.is) ((refl, refl, refl), (refl, refl, refl, refl))

pub returns-in-Read-clause-used : goal.returns-in-Read-clause-used
returns-in-Read-clause-used g c = subst (λ (w : Command). HasUsed (sight_of g.W.Line.Link.left g.W.Line.Link.held g.W.Line.Link.read_faults g.W.Line.Link.put_faults g.W.Time.Clock.times g.W.Keep.Keeper.kept g.W.Keep.Keeper.append_faults) g.F.Rules.Rules.plan_of (g.F.Rules.Rules.is_whole (g.F.RulesSource.rules c.args.rules.now)) (client_sight_of g.C.Talk.Exchange.told g.C.Talk.Exchange.faults g.C.Store.Shelf.kept g.C.Store.Shelf.load_faults g.C.Store.Shelf.save_faults) (Some w) (map string_bytes c.args.words.now) (server_seen g.W.World.told g.W.World.faults g.W.World.load_faults c.args.server.now c.args.server.now) (client_seen g.C.ClientWorld.told g.C.ClientWorld.faults g.C.ClientWorld.talk_faults g.C.ClientWorld.store_faults c.args.client.now c.args.client.now) (seen g.S.Source.left g.S.Source.faults c.args.source.now c.read_message.new.source g.O.Sink.held g.O.Sink.faults c.args.out.now c.read_message.new.out) c.read_message.result) (sym c.in-Read.is) ((refl, refl, refl), (refl, refl, refl, refl))

pub serve_words-requires-clause-words : goal.serve_words-requires-clause-words
serve_words-requires-clause-words g c = λ κs. omega (
  arith,
  serve_length (map string_bytes c.args.words.now) c.in-Serve.port c.in-Serve.count (c.requires ∙ ap (λ (w : Command). Some w) c.in-Serve.is),
  length-map c.args.words.now string_bytes,
)

pub serve_words-requires-clause-count : goal.serve_words-requires-clause-count
serve_words-requires-clause-count g c = λ κs. omega (
  arith,
  serve_count (map string_bytes c.args.words.now) c.in-Serve.port c.in-Serve.count (c.requires ∙ ap (λ (w : Command). Some w) c.in-Serve.is),
)

pub returns-in-Serve-clause-cause : goal.returns-in-Serve-clause-cause
returns-in-Serve-clause-cause g c =
    let v = (seen g.S.Source.left g.S.Source.faults c.args.source.now c.args.source.now g.O.Sink.held g.O.Sink.faults c.args.out.now c.serve_words.new.out) in
    subst (λ (w : Command). Explains w c.serve_words.result v) (sym c.in-Serve.is) (serve_cause c.serve_words.result c.in-Serve.port c.in-Serve.count v (consumes_none (g.S.Source.left c.args.source.now)) c.serve_words.ensures.written)

pub returns-in-Serve-clause-begun : goal.returns-in-Serve-clause-begun
returns-in-Serve-clause-begun g c =
    let v = (seen g.S.Source.left g.S.Source.faults c.args.source.now c.args.source.now g.O.Sink.held g.O.Sink.faults c.args.out.now c.serve_words.new.out) in
    subst (λ (w : Command). HasBegun w v) (sym c.in-Serve.is) (serve_begun c.serve_words.result c.in-Serve.port c.in-Serve.count v (consumes_none (g.S.Source.left c.args.source.now)) c.serve_words.ensures.written)

pub returns-in-Serve-clause-used : goal.returns-in-Serve-clause-used
returns-in-Serve-clause-used g c = subst (λ (w : Command). HasUsed (sight_of g.W.Line.Link.left g.W.Line.Link.held g.W.Line.Link.read_faults g.W.Line.Link.put_faults g.W.Time.Clock.times g.W.Keep.Keeper.kept g.W.Keep.Keeper.append_faults) g.F.Rules.Rules.plan_of (g.F.Rules.Rules.is_whole (g.F.RulesSource.rules c.args.rules.now)) (client_sight_of g.C.Talk.Exchange.told g.C.Talk.Exchange.faults g.C.Store.Shelf.kept g.C.Store.Shelf.load_faults g.C.Store.Shelf.save_faults) (Some w) (map string_bytes c.args.words.now) (server_seen g.W.World.told g.W.World.faults g.W.World.load_faults c.args.server.now c.serve_words.new.world) (client_seen g.C.ClientWorld.told g.C.ClientWorld.faults g.C.ClientWorld.talk_faults g.C.ClientWorld.store_faults c.args.client.now c.args.client.now) (seen g.S.Source.left g.S.Source.faults c.args.source.now c.args.source.now g.O.Sink.held g.O.Sink.faults c.args.out.now c.serve_words.new.out) c.serve_words.result) (sym c.in-Serve.is) (c.serve_words.ensures.served, (refl, refl, refl, refl))

pub sync_words-requires : goal.sync_words-requires
sync_words-requires g c = omega (
  arith,
  sync_length (map string_bytes c.args.words.now) c.in-Sync.port (c.requires ∙ ap (λ (w : Command). Some w) c.in-Sync.is),
  length-map c.args.words.now string_bytes,
)

pub show_words-requires : goal.show_words-requires
show_words-requires g c = omega (
  arith,
  show_length (map string_bytes c.args.words.now) (c.requires ∙ ap (λ (w : Command). Some w) c.in-Show.is),
  length-map c.args.words.now string_bytes,
)

pub returns-in-Sync-clause-used : goal.returns-in-Sync-clause-used
returns-in-Sync-clause-used g c = subst (λ (w : Command). HasUsed (sight_of g.W.Line.Link.left g.W.Line.Link.held g.W.Line.Link.read_faults g.W.Line.Link.put_faults g.W.Time.Clock.times g.W.Keep.Keeper.kept g.W.Keep.Keeper.append_faults) g.F.Rules.Rules.plan_of (g.F.Rules.Rules.is_whole (g.F.RulesSource.rules c.args.rules.now)) (client_sight_of g.C.Talk.Exchange.told g.C.Talk.Exchange.faults g.C.Store.Shelf.kept g.C.Store.Shelf.load_faults g.C.Store.Shelf.save_faults) (Some w) (map string_bytes c.args.words.now) (server_seen g.W.World.told g.W.World.faults g.W.World.load_faults c.args.server.now c.args.server.now) (client_seen g.C.ClientWorld.told g.C.ClientWorld.faults g.C.ClientWorld.talk_faults g.C.ClientWorld.store_faults c.args.client.now c.sync_words.new.world) (seen g.S.Source.left g.S.Source.faults c.args.source.now c.args.source.now g.O.Sink.held g.O.Sink.faults c.args.out.now c.sync_words.new.out) c.sync_words.result) (sym c.in-Sync.is) (c.sync_words.ensures, (refl, refl, refl))

pub returns-in-Sync-clause-cause : goal.returns-in-Sync-clause-cause
returns-in-Sync-clause-cause g c =
    let v = (seen g.S.Source.left g.S.Source.faults c.args.source.now c.args.source.now g.O.Sink.held g.O.Sink.faults c.args.out.now c.sync_words.new.out) in
    let h = c.sync_words.ensures in
    subst (λ (w : Command). Explains w c.sync_words.result v) (sym c.in-Sync.is) (sync_cause (g.C.ClientWorld.faults c.args.client.now) (g.C.ClientWorld.faults c.sync_words.new.world) (g.C.ClientWorld.talk_faults c.args.client.now) (g.C.ClientWorld.talk_faults c.sync_words.new.world) (g.C.ClientWorld.store_faults c.args.client.now) (g.C.ClientWorld.store_faults c.sync_words.new.world) h.synced.ended h.result c.sync_words.result c.in-Sync.port v (consumes_none (g.S.Source.left c.args.source.now)) h.synced.printed h.caused h.ending)

pub returns-in-Sync-clause-begun : goal.returns-in-Sync-clause-begun
returns-in-Sync-clause-begun g c =
    let v = (seen g.S.Source.left g.S.Source.faults c.args.source.now c.args.source.now g.O.Sink.held g.O.Sink.faults c.args.out.now c.sync_words.new.out) in
    let h = c.sync_words.ensures in
    subst (λ (w : Command). HasBegun w v) (sym c.in-Sync.is) (sync_begun h.synced.ended h.result c.in-Sync.port v (consumes_none (g.S.Source.left c.args.source.now)) h.synced.printed)

pub returns-in-Show-clause-used : goal.returns-in-Show-clause-used
returns-in-Show-clause-used g c = subst (λ (w : Command). HasUsed (sight_of g.W.Line.Link.left g.W.Line.Link.held g.W.Line.Link.read_faults g.W.Line.Link.put_faults g.W.Time.Clock.times g.W.Keep.Keeper.kept g.W.Keep.Keeper.append_faults) g.F.Rules.Rules.plan_of (g.F.Rules.Rules.is_whole (g.F.RulesSource.rules c.args.rules.now)) (client_sight_of g.C.Talk.Exchange.told g.C.Talk.Exchange.faults g.C.Store.Shelf.kept g.C.Store.Shelf.load_faults g.C.Store.Shelf.save_faults) (Some w) (map string_bytes c.args.words.now) (server_seen g.W.World.told g.W.World.faults g.W.World.load_faults c.args.server.now c.args.server.now) (client_seen g.C.ClientWorld.told g.C.ClientWorld.faults g.C.ClientWorld.talk_faults g.C.ClientWorld.store_faults c.args.client.now c.show_words.new.world) (seen g.S.Source.left g.S.Source.faults c.args.source.now c.args.source.now g.O.Sink.held g.O.Sink.faults c.args.out.now c.show_words.new.out) c.show_words.result) (sym c.in-Show.is) (c.show_words.ensures, (refl, refl, refl))

pub returns-in-Show-clause-cause : goal.returns-in-Show-clause-cause
returns-in-Show-clause-cause g c =
    let v = (seen g.S.Source.left g.S.Source.faults c.args.source.now c.args.source.now g.O.Sink.held g.O.Sink.faults c.args.out.now c.show_words.new.out) in
    let h = c.show_words.ensures in
    subst (λ (w : Command). Explains w c.show_words.result v) (sym c.in-Show.is) (show_cause (g.C.ClientWorld.faults c.args.client.now) (g.C.ClientWorld.faults c.show_words.new.world) (g.C.ClientWorld.talk_faults c.args.client.now) (g.C.ClientWorld.talk_faults c.show_words.new.world) (g.C.ClientWorld.store_faults c.args.client.now) (g.C.ClientWorld.store_faults c.show_words.new.world) (client_sight_of g.C.Talk.Exchange.told g.C.Talk.Exchange.faults g.C.Store.Shelf.kept g.C.Store.Shelf.load_faults g.C.Store.Shelf.save_faults) (slice_index_or (map string_bytes c.args.words.now) 1 []) (slice_index_or (map string_bytes c.args.words.now) 2 []) h.shown.did h.shown.ended h.result c.show_words.result v (consumes_none (g.S.Source.left c.args.source.now)) h.shown.loaded h.shown.printed h.caused h.ending)

pub returns-in-Show-clause-begun : goal.returns-in-Show-clause-begun
returns-in-Show-clause-begun g c =
    let v = (seen g.S.Source.left g.S.Source.faults c.args.source.now c.args.source.now g.O.Sink.held g.O.Sink.faults c.args.out.now c.show_words.new.out) in
    let h = c.show_words.ensures in
    subst (λ (w : Command). HasBegun w v) (sym c.in-Show.is) (show_begun (slice_index_or (map string_bytes c.args.words.now) 2 []) h.shown.ended h.result v (consumes_none (g.S.Source.left c.args.source.now)) h.shown.printed)
