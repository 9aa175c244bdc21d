use Rattle.std.proofs.Common.{◌≡◌, map, drop, ◌++◌}
use Rattle.get_calls.specs.Members.{thread_without}
use Rattle.get_calls.proofs.threads.write_threads.Given as goal

abbrev pub invariant-loop-thread : goal.invariant-loop-thread
invariant-loop-thread l =
    map (thread_without (map (λ h. h.now) l.hidden)) l.threads
    ≡ l.objects ++ map (thread_without (map (λ h. h.now) l.hidden)) (drop l.thread-index l.threads)
