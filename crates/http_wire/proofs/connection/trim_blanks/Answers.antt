use Rattle.std.proofs.Common.{ap, ◌∙◌, reverse, List, ℕ}
use Rattle.httparse.specs.Grammar.{skip_ows, trim_ows}
use Rattle.http_wire.proofs.connection.trim_blanks.Goals as goal

pub returns : goal.returns
unfolding trim_ows
returns c =
    c.cut_blanks.ensures ∙ ap (λ (z : List ℕ). reverse (skip_ows (reverse z))) c.skip_blanks.ensures
