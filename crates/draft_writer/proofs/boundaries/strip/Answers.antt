use Rattle.std.proofs.Common.{List, ℕ, Bor}
use Rattle.mime_cut.proofs.LineKindFacts.{strip_gives}
use Rattle.draft_writer.proofs.boundaries.strip.Goals as goal

pub returns : goal.returns
returns c = strip_gives (λ (x : Bor (List ℕ)). x.now) c.args.mark.now c.args.line.now c.strip_prefix.result c.strip_prefix.ensures.cases
