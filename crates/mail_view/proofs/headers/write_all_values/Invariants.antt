use Rattle.std.proofs.Common.{◌≡◌, map, drop, ◌++◌}
use Rattle.header_forms.specs.Forms.{form_tree}
use Rattle.mail_view.specs.Headers.{values_of}
use Rattle.mail_view.proofs.headers.write_all_values.Given as goal

abbrev pub invariant-loop-field : goal.invariant-loop-field
invariant-loop-field l = map (form_tree l.form) (values_of l.bytes l.name l.fields) ≡ l.values ++ map (form_tree l.form) (values_of l.bytes l.name (drop l.field-index l.fields))
