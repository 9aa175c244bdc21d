use Rattle.std.proofs.Common.{Bor, List, ℕ}
use Rattle.mime_cut.proofs.LineKindFacts.{strip_gives}
use Rattle.mime_cut.proofs.line_kind.strip.Goals as goal

pub returns : goal.returns
returns c = strip_gives (λ (x : Bor (List ℕ)). x.now) c.args.prefix.now c.args.bytes.now c.strip_prefix.result c.strip_prefix.ensures.cases
