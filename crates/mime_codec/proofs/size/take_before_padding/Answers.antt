use Rattle.std.proofs.Common.{sym, ap, ◌∙◌, arith}
use Rattle.std.specs.List.{count_by}
use Rattle.mime_lines.proofs.LineFacts.{not_true}
use Rattle.mime_codec.specs.Base64.{is_letter}
use Rattle.mime_codec.proofs.Letters.{count_before, count_all}
use Rattle.mime_codec.proofs.size.take_before_padding.Goals as goal

pub returns-in-Some-clause-value : goal.returns-in-Some-clause-value
returns-in-Some-clause-value c =
    count_before c.args.bytes.now c.in-Some.i c.in-Some.ensures.0.high (λ k low. not_true _ (c.in-Some.ensures.0.before k (omega arith) low)) c.in-Some.ensures.1
    ∙ ap (count_by is_letter) (sym c.split_at.ensures.front)

pub returns-in-None-clause-value : goal.returns-in-None-clause-value
returns-in-None-clause-value c = count_all c.args.bytes.now (λ k low. not_true _ (c.in-None.ensures k (omega arith) low))
