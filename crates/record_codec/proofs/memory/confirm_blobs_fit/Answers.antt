use Rattle.std.proofs.Common.{subst}
use Rattle.record_codec.specs.Widths.{LengthFitsIn64Bits}
use Rattle.record_codec.specs.Offsets.{AreBytes}
use Rattle.record_codec.proofs.Wide.{all_more}
use Rattle.record_codec.proofs.memory.confirm_blobs_fit.Goals as goal

pub loop-blob-preserved : goal.loop-blob-preserved
loop-blob-preserved c = (
  all_more LengthFitsIn64Bits c.args.blobs.now c.loop-blob.blob-index c.blob-item.result c.loop-blob-test.true c.blob-item.is (subst LengthFitsIn64Bits c.as_slice.ensures c.confirm_bytes_fit.ensures.wide) c.loop-blob.invariant.0,
  all_more AreBytes c.args.blobs.now c.loop-blob.blob-index c.blob-item.result c.loop-blob-test.true c.blob-item.is (subst AreBytes c.as_slice.ensures c.confirm_bytes_fit.ensures.bytes) c.loop-blob.invariant.1,
)
