use Rattle.std.proofs.Common.{ℕ, List, take, subst}
use Rattle.std.specs.Io.KnownBytes.{Appends}
use Rattle.batch_lines.proofs.Replies.{put_none, put_all_of, put_part}
use Rattle.batch_lines.proofs.lines.put_if_full.Goals as goal

pub returns-then-len-lt-REPLY_BUFFER_BYTES-clause-ok : goal.returns-then-len-lt-REPLY_BUFFER_BYTES-clause-ok
returns-then-len-lt-REPLY_BUFFER_BYTES-clause-ok g c = put_none (g.O.Sink.held c.args.out.now) c.args.replies.now

pub returns-in-Ok-clause-ok : goal.returns-in-Ok-clause-ok
returns-in-Ok-clause-ok g c =
    put_all_of (g.O.Sink.held c.args.out.now) (g.O.Sink.held c.put_all.new.sink) c.args.replies.now c.clear.new.self c.clear.ensures
    (subst (Appends (g.O.Sink.held c.args.out.now) (g.O.Sink.held c.put_all.new.sink)) c.as_slice.ensures c.in-Ok.ensures.ok)

pub returns-in-Err-clause-err : goal.returns-in-Err-clause-err
returns-in-Err-clause-err g c =
    put_part (g.O.Sink.held c.args.out.now) (g.O.Sink.held c.put_all.new.sink) c.args.replies.now
    (subst (λ (bs : List ℕ). (n : ℕ) × Appends (g.O.Sink.held c.args.out.now) (g.O.Sink.held c.put_all.new.sink) (take n bs)) c.as_slice.ensures c.in-Err.ensures.err)
