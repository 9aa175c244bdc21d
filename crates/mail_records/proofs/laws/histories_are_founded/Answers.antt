use Rattle.mail_records.specs.Histories.{edits_of}
use Rattle.mail_records.proofs.Growth.{AreNumbered-after_edits, AreTables-after_edits, NextAtMost-founded}
use Rattle.mail_records.proofs.Prefixes.{IsFounded-account_after, IsFounded-empty, IsFounded-grown_by}
use Rattle.mail_records.proofs.laws.histories_are_founded.Goals as goal

pub returns : goal.returns
returns c = record {
  empty = IsFounded-empty;
  grown = IsFounded-grown_by;
  before = IsFounded-account_after;
  tables = λ h f. AreTables-after_edits (edits_of h) h.base f.tables;
  numbered = λ h f fit. AreNumbered-after_edits (edits_of h) h.base fit f.numbered;
  next = NextAtMost-founded;
}
