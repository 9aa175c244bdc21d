use Rattle.std.proofs.Common.{◌≡◌, true, string_bytes, sym, ap, subst, ◌∙◌}
use Rattle.std.specs.Str.{IsCharBoundary}
use Rattle.mail_summary.specs.Texts.{is_cut}
use Rattle.mail_summary.proofs.Cuts.{cut_taken}
use Rattle.mail_summary.proofs.body_value.cut.Goals as goal

pub returns-then-is_cut : goal.returns-then-is_cut
returns-then-is_cut c =
    let most = c.args.most in
    let bytes = string_bytes c.args.text.now in
    let end = c.floor_char_boundary-end in
    let same = c.as_str-then-is_cut.ensures.value in
    let is : is_cut most bytes ≡ true = sym (c.is_cut.ensures ∙ ap (is_cut most) c.as_str.ensures.value) ∙ c.if-is_cut.true in
    c.truncate.ensures.bytes
    ∙ sym (cut_taken most bytes end.result is end.ensures.bound (subst (λ t. IsCharBoundary t end.result) same end.ensures.boundary)
    (λ j p q. subst (λ t. ¬ (IsCharBoundary t j)) same (end.ensures.nearest j p q)))
