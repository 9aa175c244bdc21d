use Rattle.std.proofs.Common.{Some, refl}
use Rattle.std.specs.BTreeMap.{get_by}
use Rattle.std.specs.Ordering.{nat_cmp}
use Rattle.std.specs.Cmp.Lexicographic.{slice_cmp}
use Rattle.std.proofs.lemmas.Map.Text.{btree_map_updates_str}
use Rattle.set_parts.proofs.Knowing.{noted_text}
use Rattle.set_parts.proofs.created_texts.note_text.Goals as goal

pub returns : goal.returns
returns c =
    λ made x knows same named k.
    noted_text made x k c.args.creation.now c.args.id.now c.args.id (get_by (λ y. slice_cmp nat_cmp k y.now) c.args.texts.now.texts) _ same named refl
    (btree_map_updates_str c.args.creation.now c.args.texts.now.texts c.insert.new.self (Some c.args.id) c.in_ok-_earlier.ensures.updates k) (knows k)
