use Rattle.std.proofs.Common.{◌≡◌, map, drop, ◌++◌}
use Rattle.jm_json.specs.Tree.{text}
use Rattle.mail_view.proofs.part.write_text_items.Given as goal

abbrev pub invariant-loop-text : goal.invariant-loop-text
invariant-loop-text l = map text l.texts ≡ l.items ++ map text (drop l.text-index l.texts)
