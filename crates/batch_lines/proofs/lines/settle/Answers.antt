use Rattle.std.proofs.Common.{ℕ, List, take, subst}
use Rattle.std.specs.Io.KnownBytes.{Appends}
use Rattle.batch_lines.proofs.Replies.{put_whole, put_part}
use Rattle.batch_lines.proofs.lines.settle.Goals as goal

pub returns-in-Err-fed-clause-err : goal.returns-in-Err-fed-clause-err
returns-in-Err-fed-clause-err g c =
    put_whole (g.O.Sink.held c.args.out.now) (g.O.Sink.held c.put_all.new.sink) c.args.replies.now
    (subst (Appends (g.O.Sink.held c.args.out.now) (g.O.Sink.held c.put_all.new.sink)) c.as_slice.ensures c.in-Ok.ensures.ok)

pub returns-in-Err-clause-err : goal.returns-in-Err-clause-err
returns-in-Err-clause-err g c =
    put_part (g.O.Sink.held c.args.out.now) (g.O.Sink.held c.put_all.new.sink) c.args.replies.now
    (subst (λ (bs : List ℕ). (n : ℕ) × Appends (g.O.Sink.held c.args.out.now) (g.O.Sink.held c.put_all.new.sink) (take n bs)) c.as_slice.ensures c.in-Err.ensures.err)
