use Rattle.std.proofs.Common.{length}
use Rattle.mail_copies.proofs.place.perform_all.Goals as goal

pub perform_copies-requires-clause-numbers : goal.perform_copies-requires-clause-numbers
perform_copies-requires-clause-numbers c = record {
  numbers = c.in_ok-planner.ensures.numbers (length c.args.creates.now) c.requires.email c.requires.thread;
  counted = c.in_ok-planner.ensures.counted;
}
