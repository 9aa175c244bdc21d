use Rattle.std.proofs.Common.{◌≡◌, ◌≤◌, take}
use Rattle.std.specs.List.{count_by}
use Rattle.mime_codec.specs.Base64.{is_letter}
use Rattle.mime_codec.proofs.size.count_block_letters.Given as goal

abbrev pub invariant-loop-byte : goal.invariant-loop-byte
invariant-loop-byte l = record {
  same : l.count ≡ count_by is_letter (take l.byte-index l.block);
  within : l.count ≤ l.byte-index;
}
