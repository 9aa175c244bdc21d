use Rattle.std.proofs.Common.{◌≡◌, ◌-◌, ◌+◌, ◌*◌, length, ap, sym, ◌∙◌}
use Rattle.mime_lines.specs.Lines.{text}
use Rattle.mime_codec.specs.Quoted.{without_end_blanks, quoted_line}
use Rattle.mime_codec.specs.Escapes.{escapes}
use Rattle.mime_codec.proofs.Cuts.{cut_soft, cut_plain}
use Rattle.mime_codec.proofs.size.count_cut.Goals as goal

pub returns-then-has_soft_line_break : goal.returns-then-has_soft_line_break
returns-then-has_soft_line_break c =
    let line = c.args.line.now in
    let front : c.split_at.result.0.now ≡ text line = c.split_at.ensures.front ∙ sym c.count_text_bytes.ensures.value in
    cut_soft line c.trim_end-front.result.now (c.trim_end-front.ensures ∙ ap without_end_blanks front) (sym c.has_soft_line_break.ensures ∙ c.if-has_soft_line_break.true)

pub returns : goal.returns
returns c =
    let line = c.args.line.now in
    let t = c.trim_end-front.result.now in
    let front : c.split_at.result.0.now ≡ text line = c.split_at.ensures.front ∙ sym c.count_text_bytes.ensures.value in
    ap (λ n. length (quoted_line line) + 2 * escapes line + (n - length t)) (ap length front)
    ∙ cut_plain line t (c.trim_end-front.ensures ∙ ap without_end_blanks front) (sym c.has_soft_line_break.ensures ∙ c.if-has_soft_line_break.false)
