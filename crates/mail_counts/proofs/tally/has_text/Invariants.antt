use Rattle.std.proofs.Common.{◌≡◌, bytes_eq, drop}
use Rattle.std.specs.List.{list_any}
use Rattle.mail_counts.proofs.tally.has_text.Given as goal

abbrev pub invariant-loop-own : goal.invariant-loop-own
invariant-loop-own l = list_any (λ own. bytes_eq own l.text) (drop l.own-index l.texts) ≡ list_any (λ own. bytes_eq own l.text) l.texts
