use Rattle.std.proofs.Common.{◌++◌}
use Rattle.http_wire.specs.Responses.{IsPrefixWritten}
use Rattle.http_wire.proofs.Appended.{on_err, cut_first, cut_later}
use Rattle.http_wire.proofs.responses.put_two.Goals as goal

pub returns-in-Ok-clause-err : goal.returns-in-Ok-clause-err
returns-in-Ok-clause-err g c =
    let held = g.L.Link.held in
    let a = held c.args.link.now in
    let b = held c.put_bytes.new.link in
    let d = held c.put_bytes-in-Ok.new.link in
    on_err c.put_bytes-in-Ok.result (λ e. IsPrefixWritten e b d c.args.more.now) (λ e. IsPrefixWritten e a d (c.args.bytes.now ++ c.args.more.now))
    (λ e h. cut_later e a b d c.args.bytes.now c.args.more.now c.in-Ok.ensures.ok h) c.put_bytes-in-Ok.ensures.err

pub returns-in-Err-clause-err : goal.returns-in-Err-clause-err
returns-in-Err-clause-err g c =
    cut_first c.in-Err.fault (g.L.Link.held c.args.link.now) (g.L.Link.held c.put_bytes.new.link) c.args.bytes.now c.args.more.now c.in-Err.ensures.err
