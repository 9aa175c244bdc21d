use Rattle.reply_readers.proofs.EachOnce.{objects_read_back}
use Rattle.reply_readers.proofs.laws.show_that_written_objects_are_read.Goals as goal

pub returns : goal.returns
returns c = objects_read_back
