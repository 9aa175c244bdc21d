use Rattle.std.proofs.Common.{◌≡◌, ◌∷◌, ◌++◌, ◌+◌, take, length, append_assoc, sym, ap, ◌∙◌, arith}
use Rattle.std.proofs.lemmas.List.{take-append-drop, length-take-le}
use Rattle.std.proofs.Math.Seq.{take-append-add}
use Rattle.mail_summary.specs.Texts.{with_line_feeds}
use Rattle.mail_summary.specs.declared.texts_lines.TheConstants.{BLOCK_BYTES}
use Rattle.mail_summary.proofs.LineEnds.{lines_front, at_return}
use Rattle.mail_summary.proofs.texts_lines.push_block.Goals as goal

pub returns-in_default-clause-text : goal.returns-in_default-clause-text
returns-in_default-clause-text c =
    let out = c.args.out.now.items in
    let text = c.args.text.now in
    let block = c.split_at.result.0.now in
    let rest = c.split_at.result.1.now in
    let whole : block ++ rest ≡ text =
    ap (λ t. t ++ rest) c.split_at.ensures.front ∙ ap (λ t. take BLOCK_BYTES text ++ t) c.split_at.ensures.back ∙ take-append-drop BLOCK_BYTES text in
    let size : length block ≡ BLOCK_BYTES = ap length c.split_at.ensures.front ∙ length-take-le BLOCK_BYTES text c.requires in
    ap (λ t. t ++ with_line_feeds rest) c.in_ok-extend_from_slice.ensures.items ∙ append_assoc out block (with_line_feeds rest)
    ∙ ap (λ t. out ++ t) (sym (ap with_line_feeds (sym whole) ∙ lines_front block rest (λ k low. c.in_default.ensures.none k (omega (arith, low, size)))))

pub returns-clause-text : goal.returns-clause-text
returns-clause-text c =
    let out = c.args.out.now.items in
    let text = c.args.text.now in
    let block = c.split_at.result.0.now in
    let i = c.in-Some.i in
    let after = c.split_at-2.result.1.now in
    let cut : c.truncate.new.self.items ≡ out ++ take i block =
    c.truncate.ensures.items ∙ ap (take (length c.as_slice-len.result.now + i)) c.in_ok-extend_from_slice.ensures.items
    ∙ ap (λ t. take (length t + i) (out ++ block)) c.as_slice-len.ensures.value ∙ take-append-add out block i in
    c.in_ok-push_return.ensures ∙ ap (λ t. t ++ with_line_feeds (13 ∷ after)) cut ∙ append_assoc out (take i block) (with_line_feeds (13 ∷ after))
    ∙ ap (λ t. out ++ t) (ap (λ t. take i block ++ with_line_feeds (13 ∷ t)) c.split_at-2.ensures.back
    ∙ sym (at_return text block BLOCK_BYTES i c.split_at.ensures.front c.in-Some.ensures.within c.requires c.in-Some.ensures.some c.in-Some.ensures.before))
