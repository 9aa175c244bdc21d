use Rattle.std.proofs.Common.{refl}
use Rattle.client_sync.specs.Faults.{Explains}
use Rattle.client_sync.specs.declared.fault.SyncFault.{SyncFault}
use Rattle.client_sync.proofs.Handed.{handed}
use Rattle.client_sync.proofs.Settled.{explains_load, explains_round}
use Rattle.client_sync.proofs.caches.sync.Goals as goal

pub returns-in_err-cache-clause-fault : goal.returns-in_err-cache-clause-fault
returns-in_err-cache-clause-fault g c =
    let told = g.X.Exchange.told c.args.exchange.now in
    let faults = g.X.Exchange.faults c.args.exchange.now in
    let kept = g.F.Shelf.kept in
    let loads = g.F.Shelf.load_faults in
    let e = c.in_err-cache.field-0.0 in
    handed
    (λ (f : SyncFault). (x : g.row.F.Denot) × Explains told told faults faults (kept c.args.shelf.now) (kept x) (kept c.load_cache.new.shelf) f)
    c.from_residual.result e c.from_residual.ensures.1
    (c.load_cache.new.shelf, explains_load told told faults faults (kept c.args.shelf.now) (kept c.load_cache.new.shelf) (loads c.args.shelf.now) (loads c.load_cache.new.shelf) e refl c.in_err-cache.ensures.fault)

pub returns-in_err-settle-clause-fault : goal.returns-in_err-settle-clause-fault
returns-in_err-settle-clause-fault g c =
    let told = g.X.Exchange.told in
    let faults = g.X.Exchange.faults in
    let kept = g.F.Shelf.kept in
    let saves = g.F.Shelf.save_faults in
    let e = c.in_err-settle.field-0.0 in
    let before = c.args.exchange.now in
    let now = c.make_round-ended.new.exchange in
    handed
    (λ (f : SyncFault). (x : g.row.F.Denot) × Explains (told before) (told now) (faults before) (faults now) (kept c.args.shelf.now) (kept x) (kept c.settle.new.shelf) f)
    c.from_residual-in_err-settle.result e c.from_residual-in_err-settle.ensures.1 (
      c.load_cache.new.shelf,
      explains_round (told before) (told now) (faults before) (faults now) (kept c.args.shelf.now) (kept c.load_cache.new.shelf) (kept c.settle.new.shelf) c.in_ok-cache.cache c.make_round-ended.new.cache (saves c.load_cache.new.shelf) (saves c.settle.new.shelf) c.make_round-ended.result e
          c.in_ok-cache.ensures.ok c.make_round-ended.ensures.fault c.in_err-settle.ensures.fault,
    )
