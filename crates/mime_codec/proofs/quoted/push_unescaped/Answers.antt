use Rattle.std.proofs.Common.{◌-◌, ◌++◌, length, take, ap, ◌∙◌, arith}
use Rattle.std.proofs.lemmas.List.{length-drop}
use Rattle.mime_codec.specs.Quoted.{unescaped}
use Rattle.mime_codec.proofs.Runs.{left_of}
use Rattle.mime_codec.proofs.quoted.push_unescaped.Goals as goal

pub loop-left-preserved : goal.loop-left-preserved
loop-left-preserved c =
    let rest = c.loop-left.rest.now in
    let n = c.in_ok-size.size in
    let left = c.loop-left.left in
    let back = c.split_at.ensures.back in
    record {
      within = omega (arith, c.loop-left.invariant.within, ap length back, length-drop n rest);
      text = ap (λ t. c.push_some.new.out.items ++ unescaped t) (ap (take (left - n)) back ∙ left_of rest n left c.in_ok-size.ensures.within)
          ∙ c.in_ok-size.ensures.text
          ∙ c.loop-left.invariant.text;
    }
