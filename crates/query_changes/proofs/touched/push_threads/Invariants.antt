use Rattle.std.proofs.Common.{◌≡◌, ◌||◌, drop, ℕ}
use Rattle.jm_base.specs.Splices.{has}
use Rattle.query_changes.specs.Notes.{is_in_threads}
use Rattle.query_changes.proofs.touched.push_threads.Given as goal

abbrev pub invariant-loop-thread : goal.invariant-loop-thread
invariant-loop-thread l =
    (n : ℕ) → (has l.numbers.items n || is_in_threads (drop l.thread-index l.threads) l.content.content n) ≡ (has l.initial.numbers.items n || is_in_threads l.threads l.content.content n)
