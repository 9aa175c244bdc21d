use Rattle.std.proofs.Common.{◌≡◌, drop}
use Rattle.std.specs.List.{list_all}
use Rattle.mail_counts.specs.Forms.{is_keyword}
use Rattle.tidy_check.proofs.keywords.has_only_keywords.Given as goal

abbrev pub invariant-loop-text : goal.invariant-loop-text
invariant-loop-text l = list_all is_keyword (drop l.text-index l.texts) ≡ list_all is_keyword l.texts
