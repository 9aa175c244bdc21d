use Rattle.std.proofs.Common.{[], ◌∷◌, map, option_map, ap, ◌∙◌}
use Rattle.method_args.specs.Arguments.{form_of}
use Rattle.set_parts.specs.Arguments.{update_form}
use Rattle.set_parts.proofs.Rejecting.{invalid_first, invalid_later}
use Rattle.set_parts.proofs.outcomes.find_invalid_after.Goals as goal

pub returns-in-Some : goal.returns-in-Some
returns-in-Some c =
    invalid_first (map form_of c.args.own.now) (update_form ∷ []) c.args.members.now (option_map (λ s. s.now) c.find_invalid.result) c.in-Some.name.now (ap (option_map (λ s. s.now)) c.in-Some.is) c.find_invalid.ensures

pub returns-in-None : goal.returns-in-None
returns-in-None c =
    c.find_invalid-in-None.ensures
    ∙ invalid_later (map form_of c.args.own.now) (update_form ∷ []) c.args.members.now (option_map (λ s. s.now) c.find_invalid.result) (ap (option_map (λ s. s.now)) c.in-None.is) c.find_invalid.ensures
