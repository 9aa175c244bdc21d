use Rattle.std.proofs.Common.{sym, ◌∙◌}
use Rattle.get_args.proofs.Halves.{found_first, found_last, form_named_is}
use Rattle.get_args.proofs.header_names.find_form.Goals as goal

pub returns-in-Some : goal.returns-in-Some
returns-in-Some c = found_first _ _ _ _ (sym c.in-Some.is ∙ c.find_text_or_address_form.ensures) (form_named_is c.args.text.now)

pub returns-in-None : goal.returns-in-None
returns-in-None c = found_last _ _ _ _ (sym c.in-None.is ∙ c.find_text_or_address_form.ensures) c.find_other_form.ensures (form_named_is c.args.text.now)
