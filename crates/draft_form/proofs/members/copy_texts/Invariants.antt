use Rattle.std.proofs.Common.{◌≡◌, ◌++◌, map, drop}
use Rattle.jm_json.specs.Json.{tree_of}
use Rattle.draft_form.specs.Members.{texts_in}
use Rattle.draft_form.proofs.members.copy_texts.Given as goal

abbrev pub invariant-loop-item : goal.invariant-loop-item
invariant-loop-item l =
    l.texts ++ texts_in (map tree_of (drop l.item-index l.items)) ≡ texts_in (map tree_of l.items)
