use Rattle.std.proofs.Common.{◌≡◌, map, drop, ◌++◌}
use Rattle.mail_view.specs.Headers.{field_tree}
use Rattle.mail_view.proofs.headers.write_fields.Given as goal

abbrev pub invariant-loop-field : goal.invariant-loop-field
invariant-loop-field l = map (field_tree l.bytes) l.fields ≡ l.objects ++ map (field_tree l.bytes) (drop l.field-index l.fields)
