use Rattle.std.proofs.Common.{◌≡◌, ◌⊎◌, true, ◌+◌, drop, map, subst}
use Rattle.std.proofs.lemmas.List.{drop_all, drop_more}
use Rattle.mail_records.specs.Orders.{threaded_owner}
use Rattle.mail_counts.specs.Touched.{is_one_of}
use Rattle.mail_counts.proofs.Entries.{kept_more, no_thread_left, one_thread_more}
use Rattle.mail_counts.proofs.touched.add_emails_of.Goals as goal

pub loop-thread-preserved : goal.loop-thread-preserved
loop-thread-preserved c =
    let threads = c.args.threads.now in
    let i = c.loop-thread.thread-index in
    let entries = c.find_in_thread.result.now in
    let old = c.loop-thread.numbers.items in
    let new = c.add_entries.new.numbers.items in
    record {
      kept = λ n h. kept_more n old (map threaded_owner entries) new c.in_ok-add_entries.ensures (c.loop-thread.invariant.kept n h);
      added = λ e there of.
          one_thread_more c.args.content.now.content _ (drop (i + 1) threads) entries old new c.find_in_thread.ensures c.in_ok-add_entries.ensures e there
          (subst (λ zs. (is_one_of zs e.thread ≡ true) ⊎ (is_one_of old e.number ≡ true)) (drop_more threads i _ c.loop-thread-test.true)
          (c.loop-thread.invariant.added e there of));
    }

pub returns-clause-kept : goal.returns-clause-kept
returns-clause-kept c = c.loop-thread.invariant.kept

pub returns-clause-added : goal.returns-clause-added
returns-clause-added c =
    λ e there of.
    no_thread_left e.thread e.number c.loop-thread.numbers.items
    (subst (λ zs. (is_one_of zs e.thread ≡ true) ⊎ (is_one_of c.loop-thread.numbers.items e.number ≡ true))
    (drop_all c.loop-thread.thread-index c.args.threads.now c.loop-thread-test.false) (c.loop-thread.invariant.added e there of))
