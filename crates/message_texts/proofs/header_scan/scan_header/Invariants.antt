use Rattle.std.proofs.Common.{◌≡◌, length}
use Rattle.mime_lines.specs.Fields.{header}
use Rattle.mime_lines.specs.Lines.{lines}
use Rattle.message_texts.specs.Scan.{lines_have}
use Rattle.message_texts.proofs.header_scan.scan_header.Given as goal

abbrev pub invariant-loop-rest : goal.invariant-loop-rest
invariant-loop-rest l = lines_have l.name l.needle (header (lines l.rest)) ≡ lines_have l.name l.needle (header (lines l.bytes))

abbrev pub decreases-loop-rest : goal.decreases-loop-rest
decreases-loop-rest l = length l.rest
