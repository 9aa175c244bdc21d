use Rattle.std.proofs.Common.{◌≡◌, ◌++◌, take}
use Rattle.mime_lines.specs.FieldOffsets.{lowered}
use Rattle.mime_type.proofs.characters.push_lowered.Given as goal

abbrev pub invariant-loop-byte : goal.invariant-loop-byte
invariant-loop-byte l = l.out.items ≡ l.fn.out.items ++ lowered (take l.byte-index l.text)
