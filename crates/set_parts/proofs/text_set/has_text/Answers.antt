use Rattle.std.proofs.Common.{◌∙◌}
use Rattle.set_parts.proofs.Texts.{any_same, key_tested}
use Rattle.set_parts.specs.declared.text_set.Key.{Key}
use Rattle.set_parts.proofs.text_set.has_text.Goals as goal

pub returns : goal.returns
returns c = c.contains.ensures ∙ any_same _ _ (λ (k : Key). key_tested c.args.group k.group c.args.text.now k.text.now) c.args.set.now.keys.keys
