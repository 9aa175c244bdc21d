use Rattle.std.proofs.Common.{option_map}
use Rattle.copy_calls.proofs.Fetched.{items_step, messages_step}
use Rattle.copy_calls.proofs.fetch.carry_originals.Goals as goal

pub loop-create-preserved : goal.loop-create-preserved
loop-create-preserved c =
    let emails = c.args.content.now.content.emails in
    let blobs = c.args.blobs.now.blobs in
    let xs = c.args.creates.now in
    let i = c.loop-create.create-index in
    let o = option_map (λ e. e.now) c.find_original-original.result in
    record {
      emails = items_step emails xs i c.create-item.result o c.loop-create.carried.emails c.carry_original.new.carried.emails c.loop-create-test.true c.create-item.is c.find_original-original.ensures c.loop-create.invariant.emails c.in_ok-carry_original.ensures.emails;
      blobs = messages_step blobs emails xs i c.create-item.result o c.loop-create.carried.blobs c.carry_original.new.carried.blobs c.loop-create-test.true c.create-item.is c.find_original-original.ensures c.loop-create.invariant.blobs c.in_ok-carry_original.ensures.blobs;
    }
