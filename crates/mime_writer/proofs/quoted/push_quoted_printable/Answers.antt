use Rattle.std.proofs.Common.{◌++◌, sym, ap, ◌∙◌, append_assoc}
use Rattle.mime_lines.specs.Written.{crlf}
use Rattle.mime_codec.specs.QuotedText.{line_text, quoted_printable_text}
use Rattle.mime_writer.proofs.QuotedLines.{text_more}
use Rattle.mime_writer.proofs.quoted.push_quoted_printable.Goals as goal

pub loop-line-preserved : goal.loop-line-preserved
loop-line-preserved c =
    let out = c.loop-line.out.items in
    let line = c.in-Some.line.now in
    let more = c.in-Some.more.now in
    let later = quoted_printable_text more in
    ap (λ t. t ++ later) (c.in_ok-extend_from_slice.ensures.items ∙ ap (λ t. c.push_line.new.out.items ++ t) c.as_bytes.ensures.value)
    ∙ append_assoc c.push_line.new.out.items crlf later ∙ ap (λ t. t ++ (crlf ++ later)) c.in_ok-push_line.ensures
    ∙ append_assoc out (line_text line) (crlf ++ later) ∙ ap (λ t. out ++ t) (sym (text_more line more c.loop-line.rest.now c.in-Some.ensures.value)) ∙ c.loop-line.invariant
