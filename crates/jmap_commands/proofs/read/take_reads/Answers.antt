use Rattle.std.proofs.Common.{◌≡◌, ◌+◌, ◌++◌, take, length, arith, sym, length-append}
use Rattle.jm_edge.proofs.Known.{consumes_on}
use Rattle.jmap_commands.proofs.read.take_reads.Goals as goal

pub returns-then-count-len-clause-taken : goal.returns-then-count-len-clause-taken
returns-then-count-len-clause-taken g c =
    (c.turns.message ++ take c.in-Ok.count c.read.new.room, consumes_on (g.S.Source.left c.args.source.now) (g.S.Source.left c.turns.source) (g.S.Source.left c.read.new.self) c.turns.message (take c.in-Ok.count c.read.new.room) c.turns.invariant.taken c.in-Ok.ensures.bytes.0)

pub returns-then-count-len-clause-reason : goal.returns-then-count-len-clause-reason
returns-then-count-len-clause-reason g c =
    let cut : length (take c.in-Ok.count c.read.new.room) ≡ c.in-Ok.count = sym c.in-Ok.ensures.bound.1 in
    let sum : length (c.turns.message ++ take c.in-Ok.count c.read.new.room) ≡ length c.turns.message + length (take c.in-Ok.count c.read.new.room) = length-append c.turns.message (take c.in-Ok.count c.read.new.room) in (
      c.turns.message ++ take c.in-Ok.count c.read.new.room,
      consumes_on (g.S.Source.left c.args.source.now) (g.S.Source.left c.turns.source) (g.S.Source.left c.read.new.self) c.turns.message (take c.in-Ok.count c.read.new.room) c.turns.invariant.taken c.in-Ok.ensures.bytes.0,
      omega (arith, cut, sum, c.if-count-len.true, c.len.ensures),
    )

pub returns-in-Err-append-clause-taken : goal.returns-in-Err-append-clause-taken
returns-in-Err-append-clause-taken g c =
    (c.turns.message ++ take c.in-Ok.count c.read.new.room, consumes_on (g.S.Source.left c.args.source.now) (g.S.Source.left c.turns.source) (g.S.Source.left c.read.new.self) c.turns.message (take c.in-Ok.count c.read.new.room) c.turns.invariant.taken c.in-Ok.ensures.bytes.0)
