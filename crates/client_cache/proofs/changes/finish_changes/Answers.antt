use Rattle.std.proofs.Common.{◌≡◌, List, ℕ, not, length, ap, arith}
use Rattle.jm_json.specs.Tree.{Tree}
use Rattle.client_cache.specs.Caches.{KindView, kind_of}
use Rattle.client_cache.specs.Records.{is_among, records_but}
use Rattle.client_cache.proofs.Kept.{kept_shorter}
use Rattle.client_cache.proofs.changes.finish_changes.Goals as goal

pub merge-requires-clause-room : goal.merge-requires-clause-room
merge-requires-clause-room c =
    let kind = c.args.kind in
    let numbers = c.args.dropped.now in
    let records = c.replace_kind-records.result.records in
    let old : length records ≡ length (kind_of kind c.args.cache.now).records = ap (λ (v : KindView). length v.records) c.replace_kind-records.ensures.old in
    let kept : length c.remove.new.self ≡ length (records_but kind numbers records) = ap (λ (rs : List (List ℕ × Tree)). length rs) c.remove.ensures in
    let got : length c.replace-newer.result ≡ length c.args.round.now.got = ap (λ (rs : List (List ℕ × Tree)). length rs) c.replace-newer.ensures.value in
    omega (arith, old, kept, got, kept_shorter (λ m. not (is_among kind numbers m)) records, c.requires.room)
