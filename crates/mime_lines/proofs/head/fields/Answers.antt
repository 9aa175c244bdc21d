use Rattle.std.proofs.Common.{◌≡◌, ◌+◌, ◌∷◌, ◌++◌, length, false, sym, ap, ◌∙◌, arith, length-append, append_assoc}
use Rattle.mime_lines.specs.Lines.{lines, is_line_end}
use Rattle.mime_lines.specs.Fields.{spans, joined, header, body_at}
use Rattle.std.proofs.Common.{[]}
use Rattle.mime_lines.specs.Scan.{followers, others}
use Rattle.mime_lines.proofs.ScanFacts.{header_step, body_step, spans_split}
use Rattle.mime_lines.proofs.SpanFacts.{first_within}
use Rattle.mime_lines.proofs.head.fields.Goals as goal

pub loop-rest-preserved : goal.loop-rest-preserved
loop-rest-preserved c =
    let rest = c.loop-rest.rest.now in
    let field = c.split_field.result.0.now in
    let more = c.split_field.result.1.now in
    let at = c.loop-rest.at in
    let full : is_line_end c.split_line.result.0.now ≡ false = cc in
    let tail = joined (header (lines more)) in
    let line = c.split_line.result.0.now in
    let after = c.split_line.result.1.now in
    let step : joined (header (lines rest)) ≡ field ∷ tail =
    header_step (lines rest) (lines after) line c.split_line.ensures.first full
    ∙ ap (λ t. t ∷ joined (header (others (lines after)))) (sym c.split_field.ensures.front)
    ∙ ap (λ t. field ∷ joined (header t)) (sym c.split_field.ensures.back) in
    record {
      size = omega (arith, length-append field more, ap length c.split_field.ensures.whole);
      fields = ap (λ t. t ++ spans (at + length field) tail) c.in_ok-push_field.ensures
          ∙ append_assoc (c.loop-rest.fields) (spans at (field ∷ [])) (spans (at + length field) tail)
          ∙ ap (λ t. c.loop-rest.fields ++ t) (sym (spans_split at field tail) ∙ ap (spans at) (sym step))
          ∙ c.loop-rest.invariant.fields;
      body = ap (λ t. body_at (at + length t) (lines more)) c.split_field.ensures.front
          ∙ ap (λ t. body_at (at + length (line ++ followers (lines after))) t) c.split_field.ensures.back
          ∙ sym (body_step at (lines rest) (lines after) line c.split_line.ensures.first full)
          ∙ c.loop-rest.invariant.body;
    }

pub returns-then-is_line_end-clause-within : goal.returns-then-is_line_end-clause-within
returns-then-is_line_end-clause-within c =
    first_within c.args.bytes.now c.loop-rest.fields (spans c.loop-rest.at (joined (header (lines c.loop-rest.rest.now)))) c.loop-rest.invariant.fields

pub returns-clause-within : goal.returns-clause-within
returns-clause-within c =
    first_within c.args.bytes.now c.loop-rest.fields (spans c.loop-rest.at (joined (header (lines c.loop-rest.rest.now)))) c.loop-rest.invariant.fields
