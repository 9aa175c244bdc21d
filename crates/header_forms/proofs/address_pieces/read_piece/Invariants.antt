use Rattle.std.proofs.Common.{◌≡◌, take, drop}
use Rattle.header_forms.specs.Groups.{slices_from}
use Rattle.header_forms.proofs.Cutting.{onto_all}
use Rattle.header_forms.proofs.address_pieces.read_piece.Given as goal

abbrev pub invariant-loop-i : goal.invariant-loop-i
invariant-loop-i l = onto_all (take l.i l.characters) (slices_from (drop l.i l.characters) l.in_group) ≡ slices_from l.characters l.in_group
