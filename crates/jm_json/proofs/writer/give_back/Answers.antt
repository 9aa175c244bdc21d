use Rattle.std.proofs.Common.{◌++◌, take, ap, ◌∙◌}
use Rattle.std.proofs.Math.Seq.{take-append_seam}
use Rattle.json.specs.Print.{print}
use Rattle.jm_json.proofs.writer.give_back.Goals as goal

pub returns-in-Err-clause-err : goal.returns-in-Err-clause-err
returns-in-Err-clause-err c =
    c.from_vec-in-Err.ensures ∙ c.truncate.ensures.items ∙ ap (take c.args.before) c.into_inner-bytes.ensures.items ∙ ap (λ n. take n (c.args.writer.before ++ print c.args.writer.tokens)) c.requires
    ∙ take-append_seam c.args.writer.before (print c.args.writer.tokens)
