use Rattle.std.proofs.Common.{◌≡◌, rules, sym, ap, arith}
use Rattle.jm_json.specs.Json.{tree_of}
use Rattle.jm_json.proofs.Values.{rise_next}
use Rattle.client_cache.proofs.writing.copy_records.Goals as goal

pub push-requires : goal.push-requires
push-requires c =
    let m = c.record-item.result in
    let named : c.in_ok-copy.field-0 ≡ m.name = search rules in
    let same : tree_of c.in_ok-copy-2.field-0 ≡ tree_of m.value = ap tree_of c.in_ok-copy-2.ensures in
    let next = rw (sym c.record-item.is) at (rise_next c.args.records.now c.loop-record.record-index m (omega arith) (search rules)) in
    rw (c.loop-record.invariant, named, same) next
