use Rattle.std.proofs.Common.{◌≡◌, drop}
use Rattle.std.specs.Prelude.{find}
use Rattle.mime_lines.specs.FieldOffsets.{is_named}
use Rattle.mail_summary.proofs.received.find_first_value.Given as goal

abbrev pub invariant-loop-field : goal.invariant-loop-field
invariant-loop-field l = find (is_named l.bytes l.name) (drop l.field-index l.fields) ≡ find (is_named l.bytes l.name) l.fields
