use Rattle.std.proofs.Common.{ℕ, List, None, ap, ◌∙◌}
use Rattle.keep_port.specs.declared.kept.Kept.{Kept}
use Rattle.keep_port.specs.declared.memory.MemoryKeeper.{MemoryKeeper}
use Rattle.jmap_commands.proofs.Beginning.{begins_empty, only_memory}
use Rattle.jmap_commands.proofs.memory_book.begin_book.Goals as goal

pub returns-in-Ok-clause-fresh : goal.returns-in-Ok-clause-fresh
returns-in-Ok-clause-fresh g c = c.in-Ok.ensures.since

pub returns-in-Ok-clause-opened : goal.returns-in-Ok-clause-opened
returns-in-Ok-clause-opened g c =
    let kept_of : List (List ℕ) → Kept = λ rows. record { base = None; rows = rows } in
    c.in-Ok.ensures.all ∙ begins_empty c.new-2.result.kept c.in-Ok.book.keeper.kept c.in-Ok.book.history
    (ap (λ (m : MemoryKeeper). m.kept) c.new-2.ensures.opened ∙ ap kept_of c.new.ensures) c.in-Ok.ensures.opened

pub convert_start_fault-requires : goal.convert_start_fault-requires
convert_start_fault-requires g c =
    let kept_of : List (List ℕ) → Kept = λ rows. record { base = None; rows = rows } in
    let laws = g.met.R.Rules g.world.𝓛 g.world.𝓜 g.world.𝓡 ((λ s x. x), (λ x. x), (λ x. x), λ x. x) in
    record {
      only = only_memory _ c.kept_accounts_open_again.ensures.undamaged (laws.empty c.args.rules) c.new-2.result.kept c.in-Err.field-0-1.kept c.in-Err.fault
          (ap (λ (m : MemoryKeeper). m.kept) c.new-2.ensures.opened ∙ ap kept_of c.new.ensures) c.in-Err.ensures.cause;
    }
