use Rattle.std.proofs.Common.{[], ◌∷◌, ◌++◌, None, Some, string_bytes, sym, ap, ◌∙◌, lit<, append_assoc, append-nil}
use Rattle.std.proofs.lemmas.Str.Pattern.{split_parts}
use Rattle.mail_summary.specs.Texts.{without_tags}
use Rattle.mail_summary.proofs.Tags.{tag_closed, tag_open}
use Rattle.mail_summary.proofs.texts_tags.push_tag.Goals as goal

pub returns-in_ok-push-in-Some-clause-value : goal.returns-in_ok-push-in-Some-clause-value
returns-in_ok-push-in-Some-clause-value c =
    let out = string_bytes c.args.out.now in
    let later = c.in-Some.later.now in
    let parts = split_parts 62 c.args.after.now (Some (c.in-Some.field-0-0, c.in-Some.later)) c.in-Some.ensures.cases (lit< tt) in
    ap (λ t. t ++ without_tags later) (c.in_ok-push-in-Some.ensures.bytes ∙ ap (λ t. out ++ t) (c.in_ok-push-in-Some.ensures.ascii (lit< tt)))
    ∙ append_assoc out (32 ∷ []) (without_tags later)
    ∙ ap (λ t. out ++ t) (sym (ap (λ t. without_tags (60 ∷ t)) parts.0 ∙ tag_closed c.in-Some.field-0-0.now later parts.1))

pub returns-in_ok-push_str-in-None-clause-value : goal.returns-in_ok-push_str-in-None-clause-value
returns-in_ok-push_str-in-None-clause-value c =
    let out = string_bytes c.args.out.now in
    let after = c.args.after.now in
    let none = split_parts 62 after None c.in-None.ensures.cases (lit< tt) in
    append-nil (string_bytes c.push_str.new.self) ∙ c.in_ok-push_str-in-None.ensures.bytes
    ∙ ap (λ t. t ++ after) (c.in_ok-push-in-None.ensures.bytes ∙ ap (λ t. out ++ t) (c.in_ok-push-in-None.ensures.ascii (lit< tt)))
    ∙ append_assoc out (60 ∷ []) after ∙ ap (λ t. out ++ t) (sym (tag_open after none))
