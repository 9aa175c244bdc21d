use Rattle.std.proofs.Common.{◌≡◌, length, ap, arith}
use Rattle.jm_json.specs.Order.{put_all}
use Rattle.client_cache.specs.Caches.{KindView, kind_of}
use Rattle.client_cache.specs.Rounds.{Round}
use Rattle.client_cache.proofs.Kept.{puts_longer}
use Rattle.client_cache.proofs.changes.finish_get.Goals as goal

pub finish_changes-requires-clause-room : goal.finish_changes-requires-clause-room
finish_changes-requires-clause-room c =
    let kind = c.args.kind in
    let objects = c.args.plan.objects in
    let got = c.args.round.now.got in
    let same : length c.lend_kind.result.now.records ≡ length (kind_of kind c.args.cache.now).records = ap (λ (v : KindView). length v.records) c.lend_kind.ensures in
    let put : length c.apply_get.new.round.got ≡ length (put_all objects got) = ap (λ (r : Round). length r.got) c.apply_get.ensures in
    omega (arith, same, put, puts_longer objects got, c.in_ok-room.ensures.room)
