use Rattle.std.proofs.Common.{◌≡◌, ℕ, List, [], ◌+◌, ◌-◌, take, length, arith, sym, subst}
use Rattle.std.specs.Io.KnownBytes.{Consumes}
use Rattle.batch_lines.specs.Input.{seen}
use Rattle.batch_lines.specs.declared.limits.TheConstants.{MAX_INPUT_BYTES}
use Rattle.batch_lines.proofs.Runs.{IsUnderWay, way_none, way_on, ended_kept, input_answered, limit_passed, begun_ended, begun_answered, begun_last, begun_part, begun_within, rose_later}
use Rattle.batch_lines.proofs.lines.answer_reads.Goals as goal

pub turns-init : goal.turns-init
turns-init g c = record {
  way =
      subst (λ (line : List ℕ). IsUnderWay g.P.Port.answers g.P.UploadPort.uploads c.args.port.now c.args.port.now (g.S.Source.left c.args.source.now) (g.S.Source.left c.args.source.now) (g.O.Sink.held c.args.out.now) (g.O.Sink.held c.args.out.now) line 0) (sym c.new-line.ensures)
      (way_none g.P.Port.answers g.P.UploadPort.uploads c.args.port.now (g.S.Source.left c.args.source.now) (g.O.Sink.held c.args.out.now));
  small = omega arith;
  turns = omega arith;
  reads = omega arith;
  writes = omega arith;
}

pub returns-in-Err-clause-cause : goal.returns-in-Err-clause-cause
returns-in-Err-clause-cause g c = (
  rose_later (g.S.Source.faults c.args.source.now) (g.S.Source.faults c.turns.source) (g.S.Source.faults c.read.new.self) c.turns.invariant.reads c.in-Err.ensures.cause.failed,
  ended_kept g.P.Port.answers g.P.UploadPort.uploads c.args.port.now c.turns.port (seen g.S.Source.left g.S.Source.faults c.args.source.now c.read.new.self g.O.Sink.held g.O.Sink.faults c.args.out.now c.turns.out) (g.S.Source.left c.turns.source) c.turns.line c.turns.total c.turns.invariant.way c.in-Err.ensures.bytes,
)

pub returns-in-Err-clause-begun : goal.returns-in-Err-clause-begun
returns-in-Err-clause-begun g c =
    begun_ended g.P.Port.answers g.P.UploadPort.uploads g.P.Port.stops g.P.UploadPort.halts g.met.P.Port.stays g.met.P.UploadPort.rests c.args.port.now c.turns.port (seen g.S.Source.left g.S.Source.faults c.args.source.now c.read.new.self g.O.Sink.held g.O.Sink.faults c.args.out.now c.turns.out) (returns-in-Err-clause-cause g c).1

pub returns-in-Ok-answer_last_line-clause-ok : goal.returns-in-Ok-answer_last_line-clause-ok
returns-in-Ok-answer_last_line-clause-ok g c =
    let none : Consumes (g.S.Source.left c.turns.source) (g.S.Source.left c.read.new.self) [] = rw c.if-count-eq0.true at c.in-Ok.ensures.bytes.0 in
    input_answered g.P.Port.answers g.P.UploadPort.uploads c.args.port.now c.turns.port c.answer_last_line.new.port (seen g.S.Source.left g.S.Source.faults c.args.source.now c.read.new.self g.O.Sink.held g.O.Sink.faults c.args.out.now c.answer_last_line.new.out) (g.S.Source.left c.turns.source) (g.O.Sink.held c.turns.out)
    c.turns.line c.turns.total c.turns.invariant.way c.turns.invariant.small none (c.in-Ok.ensures.bytes.1 c.if-count-eq0.true (grind arith)) c.in-Ok-answer_last_line.ensures.ok

pub returns-in-Ok-answer_last_line-clause-begun : goal.returns-in-Ok-answer_last_line-clause-begun
returns-in-Ok-answer_last_line-clause-begun g c =
    begun_answered g.P.Port.answers g.P.UploadPort.uploads g.P.Port.stops g.P.UploadPort.halts g.met.P.Port.stays g.met.P.UploadPort.rests c.args.port.now c.answer_last_line.new.port (seen g.S.Source.left g.S.Source.faults c.args.source.now c.read.new.self g.O.Sink.held g.O.Sink.faults c.args.out.now c.answer_last_line.new.out) (returns-in-Ok-answer_last_line-clause-ok g c)

pub returns-in-Err-answer_last_line-clause-begun : goal.returns-in-Err-answer_last_line-clause-begun
returns-in-Err-answer_last_line-clause-begun g c =
    let none : Consumes (g.S.Source.left c.turns.source) (g.S.Source.left c.read.new.self) [] = rw c.if-count-eq0.true at c.in-Ok.ensures.bytes.0 in
    begun_last g.P.Port.answers g.P.UploadPort.uploads g.P.Port.stops g.P.UploadPort.halts g.met.P.Port.stays g.met.P.UploadPort.rests c.args.port.now c.turns.port c.answer_last_line.new.port (seen g.S.Source.left g.S.Source.faults c.args.source.now c.read.new.self g.O.Sink.held g.O.Sink.faults c.args.out.now c.answer_last_line.new.out) (g.S.Source.left c.turns.source) (g.O.Sink.held c.turns.out)
    c.turns.line c.turns.total c.turns.invariant.way none (c.in-Ok.ensures.bytes.1 c.if-count-eq0.true (grind arith)) c.in-Err-answer_last_line.ensures.err

pub returns-in-Ok-answer_piece-clause-cause : goal.returns-in-Ok-answer_piece-clause-cause
returns-in-Ok-answer_piece-clause-cause g c =
    let cut : length (take c.in-Ok.count c.read.new.room) ≡ c.in-Ok.count = sym c.in-Ok.ensures.bound.1 in
    limit_passed g.P.Port.answers g.P.UploadPort.uploads c.args.port.now c.turns.port c.answer_piece.new.port (seen g.S.Source.left g.S.Source.faults c.args.source.now c.read.new.self g.O.Sink.held g.O.Sink.faults c.args.out.now c.answer_piece.new.out) (g.S.Source.left c.turns.source) (g.O.Sink.held c.turns.out)
    c.turns.line c.answer_piece.new.line c.read.new.room c.turns.total c.in-Ok.count c.turns.invariant.way c.turns.invariant.small c.if-count-allowed.true cut c.in-Ok.ensures.bytes.0 c.in-Ok-answer_piece.ensures.ok

pub returns-in-Ok-answer_piece-clause-begun : goal.returns-in-Ok-answer_piece-clause-begun
returns-in-Ok-answer_piece-clause-begun g c =
    begun_within g.P.Port.answers g.P.UploadPort.uploads g.P.Port.stops g.P.UploadPort.halts g.met.P.Port.stays g.met.P.UploadPort.rests c.args.port.now c.answer_piece.new.port (seen g.S.Source.left g.S.Source.faults c.args.source.now c.read.new.self g.O.Sink.held g.O.Sink.faults c.args.out.now c.answer_piece.new.out) (returns-in-Ok-answer_piece-clause-cause g c)

pub returns-in-Err-answer_piece-clause-begun : goal.returns-in-Err-answer_piece-clause-begun
returns-in-Err-answer_piece-clause-begun g c =
    begun_part g.P.Port.answers g.P.UploadPort.uploads g.P.Port.stops g.P.UploadPort.halts g.met.P.Port.stays g.met.P.UploadPort.rests c.args.port.now c.turns.port c.answer_piece.new.port (seen g.S.Source.left g.S.Source.faults c.args.source.now c.read.new.self g.O.Sink.held g.O.Sink.faults c.args.out.now c.answer_piece.new.out) (g.S.Source.left c.turns.source) (g.O.Sink.held c.turns.out)
    c.turns.line c.read.new.room (MAX_INPUT_BYTES - c.turns.total) c.in-Ok.count c.turns.total c.turns.invariant.way c.in-Ok.ensures.bytes.0 (omega (arith, c.if-count-allowed.true)) c.in-Err-answer_piece.ensures.err

pub returns-in-Err-answer_piece-2-clause-begun : goal.returns-in-Err-answer_piece-2-clause-begun
returns-in-Err-answer_piece-2-clause-begun g c =
    begun_part g.P.Port.answers g.P.UploadPort.uploads g.P.Port.stops g.P.UploadPort.halts g.met.P.Port.stays g.met.P.UploadPort.rests c.args.port.now c.turns.port c.answer_piece-in-turns.new.port (seen g.S.Source.left g.S.Source.faults c.args.source.now c.read.new.self g.O.Sink.held g.O.Sink.faults c.args.out.now c.answer_piece-in-turns.new.out) (g.S.Source.left c.turns.source) (g.O.Sink.held c.turns.out)
    c.turns.line c.read.new.room c.in-Ok.count c.in-Ok.count c.turns.total c.turns.invariant.way c.in-Ok.ensures.bytes.0 (omega arith) c.in-Err-answer_piece-2.ensures.err

pub turns-preserved : goal.turns-preserved
turns-preserved g c =
    let cut : length (take c.in-Ok.count c.read.new.room) ≡ c.in-Ok.count = sym c.in-Ok.ensures.bound.1 in
    record {
      way = way_on g.P.Port.answers g.P.UploadPort.uploads c.args.port.now c.turns.port c.answer_piece-in-turns.new.port (g.S.Source.left c.args.source.now) (g.S.Source.left c.turns.source) (g.S.Source.left c.read.new.self) (g.O.Sink.held c.args.out.now) (g.O.Sink.held c.turns.out) (g.O.Sink.held c.answer_piece-in-turns.new.out)
          c.turns.line c.answer_piece-in-turns.new.line (take c.in-Ok.count c.read.new.room) c.turns.total (c.turns.total + c.in-Ok.count) c.turns.invariant.way c.in-Ok.ensures.bytes.0 c.in-Ok-answer_piece-2.ensures.ok (omega (arith, cut));
      small = omega (arith, c.turns.invariant.small, c.if-count-allowed.false);
      turns = omega (arith, c.turns.invariant.turns, c.if-count-eq0.false);
      reads = omega (arith, c.turns.invariant.reads, c.in-Ok.ensures.cause.later);
      writes = omega (arith, c.turns.invariant.writes, c.in-Ok-answer_piece-2.ensures.later);
    }
