use Rattle.std.proofs.Common.{◌≡◌, ◌++◌, map, drop}
use Rattle.std.specs.List.{flat_map}
use Rattle.mime_lines.specs.Written.{field_line}
use Rattle.draft_writer.specs.Fields.{field_of}
use Rattle.draft_writer.proofs.fields.push_fields.Given as goal

abbrev pub invariant-loop-field : goal.invariant-loop-field
invariant-loop-field l =
    l.out.items ++ flat_map field_line (map field_of (drop l.field-index l.fields)) ≡ l.fn.out.items ++ flat_map field_line (map field_of l.fn.fields)
