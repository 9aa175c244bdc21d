use Rattle.std.proofs.Common.{◌∷◌, suc, drop, sym, ap, ◌∙◌, add-one}
use Rattle.std.specs.List.{slice_split}
use Rattle.mime_codec.specs.QuotedText.{is_lf}
use Rattle.mime_writer.proofs.QuotedSplits.{split_here, split_nowhere}
use Rattle.mime_writer.proofs.quoted.split_line.Goals as goal

pub returns-in-Some-clause-value : goal.returns-in-Some-clause-value
returns-in-Some-clause-value c =
    split_here c.in-Some.at c.args.bytes.now c.in-Some.ensures.0.high c.in-Some.ensures.0.before c.in-Some.ensures.1
    ∙ ap (λ t. t ∷ slice_split is_lf (drop (suc c.in-Some.at) c.args.bytes.now)) (sym c.split_at.ensures.front)
    ∙ ap (λ t. c.split_at.result.0.now ∷ slice_split is_lf t) (ap (λ n. drop n c.args.bytes.now) (sym (add-one c.in-Some.at)) ∙ sym c.split_at-in-Some.ensures.back)

pub returns-in-None-clause-value : goal.returns-in-None-clause-value
returns-in-None-clause-value c = split_nowhere c.args.bytes.now c.in-None.ensures
