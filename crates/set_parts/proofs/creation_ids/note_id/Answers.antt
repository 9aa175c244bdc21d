use Rattle.std.proofs.Common.{Some}
use Rattle.std.proofs.lemmas.Map.Text.{btree_map_updates_str}
use Rattle.set_parts.specs.Views.{id_at}
use Rattle.set_parts.proofs.Knowing.{noted_at}
use Rattle.set_parts.proofs.creation_ids.note_id.Goals as goal

pub returns : goal.returns
returns c =
    λ made x knows same means k.
    noted_at made x k c.args.creation.now c.args.number (id_at c.args.ids.now k) _ same
    (btree_map_updates_str c.args.creation.now c.args.ids.now.numbers c.insert.new.self (Some c.args.number) c.in_ok-_earlier.ensures.updates k) means (knows k)
