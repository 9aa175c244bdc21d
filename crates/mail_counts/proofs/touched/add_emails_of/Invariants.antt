use Rattle.std.proofs.Common.{◌≡◌, ◌⊎◌, ℕ, true, Some, drop}
use Rattle.mail_records.specs.Contents.{email_at}
use Rattle.mail_records.specs.declared.records.Email.{Email}
use Rattle.mail_counts.specs.Touched.{is_one_of}
use Rattle.mail_counts.proofs.touched.add_emails_of.Given as goal

abbrev pub invariant-loop-thread : goal.invariant-loop-thread
invariant-loop-thread l = record {
  kept : (n : ℕ) → is_one_of l.fn.numbers.items n ≡ true → is_one_of l.numbers.items n ≡ true;
  added : (e : Email) → email_at l.content.content e.number ≡ Some e → is_one_of l.threads e.thread ≡ true
      → (is_one_of (drop l.thread-index l.threads) e.thread ≡ true) ⊎ (is_one_of l.numbers.items e.number ≡ true);
}
