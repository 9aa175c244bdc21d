use Rattle.std.proofs.Common.{◌≡◌, ap, sym, subst, ◌∙◌}
use Rattle.std.specs.Str.{IsAscii}
use Rattle.mime_codec.specs.Decoded.{decoded}
use Rattle.mail_summary.specs.Texts.{Begins, brief, one_spaced}
use Rattle.mail_summary.proofs.Fronts.{chars_begin, carried}
use Rattle.mail_summary.proofs.preview.build_early_preview.Goals as goal

pub returns-in-Ok : goal.returns-in-Ok
returns-in-Ok c =
    let front = c.in-Ok.text.now in
    let whole = decoded c.args.coding c.args.body.now in
    let same : front ≡ c.as_slice.result.now = c.in-Ok.ensures.cases.0 ∙ c.as_slice-2.ensures ∙ sym c.as_slice.ensures in
    let is : front ≡ decoded c.args.coding c.take_encoded_prefix.result.now = c.in-Ok.ensures.cases.0 ∙ c.as_slice-2.ensures ∙ c.in_ok-bytes.ensures in
    let ascii : IsAscii front = subst IsAscii (sym same) c.if-not-is_ascii.ensures.cases in
    let begins : Begins front whole = subst (λ t. Begins t whole) (sym is) c.take_encoded_prefix.ensures in
    carried _ _ (λ t held charset.
    let found = chars_begin charset front whole ascii begins in
    held found.0 ∙ ap (λ cs. brief (one_spaced cs)) (sym found.1)) c.find_settled_brief.result c.find_settled_brief.ensures
