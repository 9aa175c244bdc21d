use Rattle.std.proofs.Common.{◌≡◌, ◌++◌, length, take}
use Rattle.std.specs.List.{flat_map}
use Rattle.record_codec.specs.Encoding.{number, blob}
use Rattle.record_codec.proofs.write_fields.write_blobs.Given as goal

abbrev pub invariant-loop-bytes : goal.invariant-loop-bytes
invariant-loop-bytes l = l.out.items ≡ l.fn.out.items ++ (number (length l.blobs) ++ flat_map blob (take l.bytes-index l.blobs))
