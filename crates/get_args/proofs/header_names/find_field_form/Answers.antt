use Rattle.std.proofs.Common.{sym, ap, ◌∙◌, option_map}
use Rattle.get_args.specs.Views.{field_form_of}
use Rattle.get_args.proofs.Halves.{found_first, found_last, field_form_is}
use Rattle.get_args.proofs.header_names.find_field_form.Goals as goal

pub returns-in-Some : goal.returns-in-Some
returns-in-Some c = found_first _ _ _ _ (ap (option_map field_form_of) (sym c.in-Some.is) ∙ c.find_first_form.ensures) (field_form_is c.args.name.now)

pub returns-in-None : goal.returns-in-None
returns-in-None c = found_last _ _ _ _ (ap (option_map field_form_of) (sym c.in-None.is) ∙ c.find_first_form.ensures) c.find_last_form.ensures (field_form_is c.args.name.now)
