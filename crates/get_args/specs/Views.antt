-- What contracts see of the code's own types.
use Rattle.std.specs.Prelude.{ℕ, List}
use denote.Ref.{Bor}
use Rattle.header_forms.specs.declared.form.Form.{Form}
use Rattle.get_args.specs.declared.header_names.FieldForm.{FieldForm}

abbrev pub halves : Bor (List ℕ) × Bor (List ℕ) → List ℕ × List ℕ
halves x = (x.0.now, x.1.now)

abbrev pub field_form_of : FieldForm → List ℕ × Form
field_form_of f = (f.field.now, f.form)
