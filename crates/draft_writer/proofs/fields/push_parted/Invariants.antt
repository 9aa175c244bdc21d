use Rattle.std.proofs.Common.{◌≡◌, ◌∷◌, ◌++◌, map, length}
use Rattle.mime_lines.specs.Written.{fold, parted_by}
use Rattle.header_forms.specs.WrittenForms.{address_text}
use Rattle.draft_writer.proofs.fields.push_parted.Given as goal

abbrev pub invariant-loop-address : goal.invariant-loop-address
invariant-loop-address l = l.out.items ++ parted_by (44 ∷ fold) (map address_text l.rest) ≡ l.fn.out.items ++ parted_by (44 ∷ fold) (map address_text l.fn.addresses)

abbrev pub decreases-loop-address : goal.decreases-loop-address
decreases-loop-address l = length l.rest
