use Rattle.std.proofs.Common.{sym, ap, ◌∙◌}
use Rattle.jm_json.proofs.Lists.{pairs_of-fields_of}
use Rattle.jm_json.proofs.Parts.{find_part}
use Rattle.jm_json.proofs.paths.find_child.Goals as goal

pub returns-in-Object : goal.returns-in-Object
returns-in-Object c =
    rw c.in-Object.is (c.find_member.ensures ∙ ap (find_part c.args.part.now) (c.as_slice-in-Object.ensures.value ∙ sym (pairs_of-fields_of _)))
