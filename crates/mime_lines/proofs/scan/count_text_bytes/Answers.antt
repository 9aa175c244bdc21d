use Rattle.std.proofs.Common.{inl, inr}
use Rattle.mime_lines.proofs.LineFacts.{text_by_none, text_by_lf, text_by_crlf}
use Rattle.mime_lines.proofs.scan.count_text_bytes.Goals as goal
use Rattle.mime_lines.proofs.scan.count_text_bytes.Goals.{then-len-eq0-via-then-len-eq0, then-len-eq0-via-else-len-eq0+then-line-len-ne10, then-len-eq1-via-then-len-eq1, then-len-eq1-via-else-len-eq1+then-line-len-ne13}

pub returns-then-len-eq0-clause-value : goal.returns-then-len-eq0-clause-value
returns-then-len-eq0-clause-value c = text_by_none c.args.line.now (elim c.then-len-eq0.branch [
  | then-len-eq0-via-then-len-eq0 w ↦ inl w.if-len-eq0.true
  | then-len-eq0-via-else-len-eq0+then-line-len-ne10 w ↦ inr w.if-line-len-ne10.true
])

pub returns-then-len-eq1-clause-value : goal.returns-then-len-eq1-clause-value
returns-then-len-eq1-clause-value c = text_by_lf c.args.line.now c.if-len-eq0.false c.if-line-len-ne10.false (elim c.then-len-eq1.branch [
  | then-len-eq1-via-then-len-eq1 w ↦ inl w.if-len-eq1.true
  | then-len-eq1-via-else-len-eq1+then-line-len-ne13 w ↦ inr w.if-line-len-ne13.true
])

pub returns-clause-value : goal.returns-clause-value
returns-clause-value c = text_by_crlf c.args.line.now c.if-len-eq0.false c.if-len-eq1.false c.if-line-len-ne10.false c.if-line-len-ne13.false
