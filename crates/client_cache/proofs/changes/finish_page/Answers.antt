use Rattle.std.proofs.Common.{◌≡◌, not, length, ap, arith}
use Rattle.client_cache.specs.Caches.{KindView, kind_of}
use Rattle.client_cache.specs.Records.{is_among, records_but}
use Rattle.client_cache.specs.Rounds.{Round}
use Rattle.client_cache.proofs.Kept.{kept_shorter}
use Rattle.client_cache.proofs.changes.finish_page.Goals as goal

pub finish_changes-requires-clause-room : goal.finish_changes-requires-clause-room
finish_changes-requires-clause-room c =
    let kind = c.args.kind in
    let numbers = c.args.plan.named.items in
    let got = c.args.round.now.got in
    let same : length c.lend_kind.result.now.records ≡ length (kind_of kind c.args.cache.now).records = ap (λ (v : KindView). length v.records) c.lend_kind.ensures in
    let kept : length c.apply_page.new.round.got ≡ length (records_but kind numbers got) = ap (λ (r : Round). length r.got) c.apply_page.ensures in
    omega (arith, same, kept, kept_shorter (λ m. not (is_among kind numbers m)) got, c.in_ok-room.ensures.room)
