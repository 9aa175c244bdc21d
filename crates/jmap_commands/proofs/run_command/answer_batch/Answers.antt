use Rattle.std.proofs.Common.{refl, arith}
use Rattle.keep_port.specs.declared.memory.MemoryKeeper.{MemoryKeeper}
use Rattle.mail_records.specs.Histories.{empty_history}
use Rattle.batch_lines.specs.Input.{seen}
use Rattle.batch_lines.proofs.Runs.{begun_none}
use Rattle.jmap_commands.specs.AccountAnswers.{account_answers, account_halts, account_stops, account_uploads}
use Rattle.jmap_commands.proofs.AloneSteps.{IsBatch, is_batch}
use Rattle.jmap_commands.proofs.Ends.{batch_cause}
use Rattle.jmap_commands.proofs.run_command.answer_batch.Goals as goal

pub returns-in-Ok-clause-cause : goal.returns-in-Ok-clause-cause
returns-in-Ok-clause-cause g c =
    let v = (seen g.S.Source.left g.S.Source.faults c.args.source.now c.answer_alone.new.source g.O.Sink.held g.O.Sink.faults c.args.out.now c.answer_alone.new.out) in
    let b : IsBatch c.answer_alone.result v =
    is_batch (λ (m : MemoryKeeper). 0) c.in-Ok.ensures.first.0 c.in-Ok.hall c.in-Ok.users c.in-Ok.passes c.answer_alone.result v (λ (m : MemoryKeeper). omega arith) c.in-Ok.ensures.users c.in-Ok.ensures.first.1 c.answer_alone.ensures in
    batch_cause c.answer_alone.result c.find_batch_ending.result v b.history c.find_batch_ending.ensures b.ok b.cause

pub returns-in-Ok-clause-begun : goal.returns-in-Ok-clause-begun
returns-in-Ok-clause-begun g c =
    let v = (seen g.S.Source.left g.S.Source.faults c.args.source.now c.answer_alone.new.source g.O.Sink.held g.O.Sink.faults c.args.out.now c.answer_alone.new.out) in
    let b : IsBatch c.answer_alone.result v =
    is_batch (λ (m : MemoryKeeper). 0) c.in-Ok.ensures.first.0 c.in-Ok.hall c.in-Ok.users c.in-Ok.passes c.answer_alone.result v (λ (m : MemoryKeeper). omega arith) c.in-Ok.ensures.users c.in-Ok.ensures.first.1 c.answer_alone.ensures in
    (b.history, b.begun)

pub returns-in-Err-clause-begun : goal.returns-in-Err-clause-begun
returns-in-Err-clause-begun g c =
    (empty_history, begun_none account_answers account_uploads account_stops account_halts (λ s x made. refl) (λ s bytes. refl) empty_history (seen g.S.Source.left g.S.Source.faults c.args.source.now c.args.source.now g.O.Sink.held g.O.Sink.faults c.args.out.now c.args.out.now) refl refl)
