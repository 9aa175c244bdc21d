use Rattle.std.proofs.Common.{option_map}
use Rattle.blob_store.proofs.Searched.{next_text}
use Rattle.blob_store.proofs.authors.catch_up.Goals as goal

pub loop-alloc-preserved-in_ok-push : goal.loop-alloc-preserved-in_ok-push
loop-alloc-preserved-in_ok-push c =
    next_text c.loop-alloc.authors c.push.new.self (option_map (λ t. t.now) c.as_deref.result) (option_map (λ v. v.items) c.in_ok-text.text) c.args.blobs.now c.index-blobs-len.result c.as_slice.result.now
    c.len.result c.len-in-loop-alloc.result c.loop-alloc.invariant c.len.ensures c.loop-alloc-test.true c.len-in-loop-alloc.ensures c.index-blobs-len.is c.as_slice.ensures c.in_ok-text.ensures
    c.as_deref.ensures.value c.in_ok-push.ensures.ok

pub loop-alloc-preserved : goal.loop-alloc-preserved
loop-alloc-preserved c =
    next_text c.loop-alloc.authors c.push.new.self (option_map (λ t. t.now) c.as_deref.result) (option_map (λ v. v.items) c.in_ok-text.text) c.args.blobs.now c.index-blobs-len.result c.as_slice.result.now
    c.len.result c.len-in-loop-alloc.result c.loop-alloc.invariant c.len.ensures c.loop-alloc-test.true c.len-in-loop-alloc.ensures c.index-blobs-len.is c.as_slice.ensures c.in_ok-text.ensures
    c.as_deref.ensures.value c.in_ok-push.ensures.ok
