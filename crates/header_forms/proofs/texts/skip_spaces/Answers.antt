use Rattle.std.proofs.Common.{None, sym, ◌∙◌, lit<}
use Rattle.std.proofs.lemmas.Str.Pattern.{strip_prefix_char}
use Rattle.header_forms.proofs.Folds.{no_space}
use Rattle.header_forms.proofs.texts.skip_spaces.Goals as goal

pub returns : goal.returns
returns c =
    let other = strip_prefix_char 32 c.loop-after.rest.now None c.in_default.ensures.cases (lit< tt) in
    sym (no_space c.loop-after.rest.now other) ∙ c.loop-after.invariant.same
