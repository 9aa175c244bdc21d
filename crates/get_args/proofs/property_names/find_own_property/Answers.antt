use Rattle.std.proofs.Common.{sym, ◌∙◌}
use Rattle.get_args.proofs.Halves.{found_first, found_last, own_property_is}
use Rattle.get_args.proofs.property_names.find_own_property.Goals as goal

pub returns-in-Some : goal.returns-in-Some
returns-in-Some c = found_first _ _ _ _ (sym c.in-Some.is ∙ c.find_own_property_up_to_id.ensures) (own_property_is c.args.name.now)

pub returns-in-None : goal.returns-in-None
returns-in-None c = found_last _ _ _ _ (sym c.in-None.is ∙ c.find_own_property_up_to_id.ensures) c.find_own_property_after_id.ensures (own_property_is c.args.name.now)
