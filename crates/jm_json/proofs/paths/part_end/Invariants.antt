use Rattle.jm_json.proofs.Parts.{HasNoSlash}
use Rattle.jm_json.proofs.paths.part_end.Given as goal

abbrev pub invariant-loop-i : goal.invariant-loop-i
invariant-loop-i l = HasNoSlash l.path l.i
