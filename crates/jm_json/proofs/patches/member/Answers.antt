use Rattle.std.proofs.Common.{option_and_then, ap, ◌∙◌}
use Rattle.jm_json.proofs.Parts.{find_part}
use Rattle.jm_json.proofs.patches.member.Goals as goal

pub returns-in-Some : goal.returns-in-Some
returns-in-Some c =
    c.find_member.ensures ∙ ap (find_part c.args.part.now) c.as_slice.ensures.value ∙ ap (option_and_then (find_part c.args.part.now)) c.in-Some.ensures
