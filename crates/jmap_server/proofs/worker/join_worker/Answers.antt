use Rattle.std.proofs.Common.{suc, take, drop, ◌++◌, ◌∙◌, ℕ, ap, add-one, arith}
use Rattle.jmap_server.proofs.Workers.{split_at}
use Rattle.jmap_server.proofs.worker.join_worker.Goals as goal

pub returns-clause-joined : goal.returns-clause-joined
returns-clause-joined g c =
    let all = c.args.workers.now.items in
    let i = c.args.i in
    let one = c.remove-bit.result in
    record {
      earlier = take i all;
      one = one;
      later = drop (suc i) all;
      all_are = split_at all i one (omega (arith, c.requires, c.args.workers.now.ok.0)) c.remove-bit.ensures.value;
      rest_are = c.remove-bit.ensures.by_index.2 ∙ ap (λ (n : ℕ). take i all ++ drop n all) (add-one i);
      served = c.join-done.ensures;
    }
