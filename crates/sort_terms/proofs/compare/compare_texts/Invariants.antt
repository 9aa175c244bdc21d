use Rattle.std.proofs.Common.{◌≡◌, drop}
use Rattle.sort_terms.specs.Comparators.{text_cmp}
use Rattle.sort_terms.proofs.compare.compare_texts.Given as goal

abbrev pub invariant-loop-byte : goal.invariant-loop-byte
invariant-loop-byte l = text_cmp (drop l.byte-index l.left) l.rest ≡ text_cmp l.left l.right
