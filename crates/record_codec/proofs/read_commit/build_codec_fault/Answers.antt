use Rattle.std.proofs.Common.{◌≡◌, Err, subst, arith}
use Rattle.record_codec.specs.Reading.{Fails}
use Rattle.record_codec.specs.Readers.{commit_at}
use Rattle.record_codec.proofs.Whole.{input_of, stuck_place}
use Rattle.record_codec.proofs.read_commit.build_codec_fault.Goals as goal

pub overflow_sub-result : goal.overflow_sub-result
overflow_sub-result c =
    let read : commit_at c.args.bytes.now ≡ Err c.in-Stuck.left = subst (λ f. Fails f (commit_at c.args.bytes.now)) c.in-Stuck.is c.requires.read in
    (stuck_place c.args.bytes.now c.in-Stuck.left (input_of c.args.bytes.now (λ i. omega (arith, c.type_inv.bytes i)) c.requires.short) read).0

pub returns-in-Stuck : goal.returns-in-Stuck
returns-in-Stuck c =
    let read : commit_at c.args.bytes.now ≡ Err c.in-Stuck.left = subst (λ f. Fails f (commit_at c.args.bytes.now)) c.in-Stuck.is c.requires.read in
    (stuck_place c.args.bytes.now c.in-Stuck.left (input_of c.args.bytes.now (λ i. omega (arith, c.type_inv.bytes i)) c.requires.short) read).1
