use Rattle.std.proofs.Common.{◌≡◌, ◌+◌, ◌≤◌, length}
use Rattle.std.specs.List.{AllByRecursion}
use Rattle.mail_records.specs.Edits.{AllFit, HasNumbers, IsSmall, after_edits, email_puts}
use Rattle.mail_records.proofs.fitting.apply_all_ready.Given as goal

abbrev pub invariant-loop-edit : goal.invariant-loop-edit
invariant-loop-edit l = record {
  made : after_edits l.waiting.content l.rest.items ≡ after_edits l.fn.content.content l.fn.edits;
  fits : AllFit l.waiting.content l.rest.items;
  room : length l.rest.items ≤ l.waiting.spare;
  lowered : l.fn.content.spare + length l.rest.items ≤ l.waiting.spare + length l.fn.edits;
  email_room : email_puts l.rest.items ≤ l.waiting.email_spare;
  email_lowered : l.fn.content.email_spare + email_puts l.rest.items ≤ l.waiting.email_spare + email_puts l.fn.edits;
  next : HasNumbers (length l.rest.items) l.waiting.content;
  small : AllByRecursion IsSmall l.rest.items;
}

abbrev pub decreases-loop-edit : goal.decreases-loop-edit
decreases-loop-edit l = length l.rest.items
