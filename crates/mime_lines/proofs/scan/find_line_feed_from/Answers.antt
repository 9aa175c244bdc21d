use Rattle.std.proofs.Common.{eqb, length, get_or, ap, sym, subst, ◌∙◌, arith}
use Rattle.std.proofs.lemmas.List.{get_or-drop, length-drop}
use Rattle.memchr.specs.Find.{Nowhere, Passes, is_byte}
use Rattle.mime_lines.proofs.Feeds.{none_then}
use Rattle.mime_lines.proofs.scan.find_line_feed_from.Goals as goal

pub returns-in-Some : goal.returns-in-Some
returns-in-Some c =
    let text = c.args.text.now in
    let at = c.args.at in
    let i = c.in-Some.i in
    let rest = c.split_at.result.1.now in
    let back = c.split_at.ensures.back in (
      record {
        low = omega arith;
        high = omega (arith, c.in-Some.ensures.0.high, ap length back, length-drop at text);
        before = none_then text at i c.requires.before (subst (λ t. Nowhere (Passes (is_byte 10) t) 0 i) back c.in-Some.ensures.0.before);
      },
      ap (λ b. eqb b 10) (sym (ap (λ t. get_or t i 0) back ∙ get_or-drop at text i 0)) ∙ c.in-Some.ensures.1,
    )

pub returns-in-None : goal.returns-in-None
returns-in-None c =
    let text = c.args.text.now in
    let at = c.args.at in
    let rest = c.split_at.result.1.now in
    let back = c.split_at.ensures.back in
    λ k low high. none_then text at (length rest) c.requires.before
    (subst (λ t. Nowhere (Passes (is_byte 10) t) 0 (length rest)) back c.in-None.ensures)
    k low (omega (arith, high, ap length back, length-drop at text))
