use Rattle.std.proofs.Common.{◌≡◌, ◌++◌, map, length}
use Rattle.jm_json.specs.Tree.{text}
use Rattle.header_forms.proofs.forms.show_texts.Given as goal

abbrev pub invariant-loop-text : goal.invariant-loop-text
invariant-loop-text l = l.items ++ map text l.rest.items ≡ map text l.fn.texts

abbrev pub decreases-loop-text : goal.decreases-loop-text
decreases-loop-text l = length l.rest.items
