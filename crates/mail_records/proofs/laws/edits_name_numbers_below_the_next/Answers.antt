use Rattle.mail_records.proofs.NumbersNamed.{named_below_next}
use Rattle.mail_records.proofs.laws.edits_name_numbers_below_the_next.Goals as goal

pub returns : goal.returns
returns c = named_below_next
