use Rattle.std.proofs.Common.{◌+◌, drop, sym, ap, ◌∙◌}
use Rattle.mime_codec.specs.Escapes.{escapes}
use Rattle.mime_codec.proofs.Escapes.{escapes_split}
use Rattle.mime_codec.proofs.size.split_window.Goals as goal

pub returns-clause-value : goal.returns-clause-value
returns-clause-value c =
    escapes_split 255 c.args.text.now ∙ ap (λ t. escapes t + escapes (drop 255 c.args.text.now)) (sym c.split_at-2.ensures.front)
    ∙ ap (λ t. escapes c.split_at-2.result.0.now + escapes t) (sym c.split_at-3.ensures.back)
