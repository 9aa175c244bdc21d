use Rattle.std.proofs.Common.{◌≡◌, map, drop, is_some}
use Rattle.jm_json.specs.Json.{tree_of}
use Rattle.jm_json.specs.Find.{texts_from}
use Rattle.method_args.proofs.form.are_strings.Given as goal

abbrev pub invariant-loop-item : goal.invariant-loop-item
invariant-loop-item l = is_some (texts_from (map tree_of l.items)) ≡ is_some (texts_from (map tree_of (drop l.item-index l.items)))
