use Rattle.std.proofs.Common.{◌≡◌, ◌++◌, ℕ, List, OnOk, subst, ap, ◌∙◌}
use Rattle.std.specs.Prelude.{option_map}
use Rattle.mime_writer.specs.Heads.{cid_field, disposition_field, head_text, language_field, location_field}
use Rattle.mime_writer.proofs.HeadFields.{head_steps}
use Rattle.mime_writer.proofs.heads.push_head.Goals as goal

pub returns : goal.returns
returns c =
    let h = head_text c.args.head.now (option_map (λ t. t.now) c.args.boundary) c.args.coding in
    subst (λ (t : List ℕ). OnOk c.push_coding.result (c.push_coding.new.out.items ≡ t))
    (head_steps h c.args.out.now.items c.push_type.new.out.items c.push_disposition.new.out.items c.push_cid.new.out.items c.push_language.new.out.items c.push_location.new.out.items
    c.in_ok-push_type.ensures
    (c.in_ok-push_disposition.ensures ∙ ap (λ o. c.push_type.new.out.items ++ disposition_field o (option_map (λ t. t.now) c.as_ref-2.result)) c.as_ref.ensures.value
    ∙ ap (λ o. c.push_type.new.out.items ++ disposition_field c.args.head.now.disposition o) c.as_ref-2.ensures.value)
    (c.in_ok-push_cid.ensures ∙ ap (λ o. c.push_disposition.new.out.items ++ cid_field o) c.as_ref-3.ensures.value)
    (c.in_ok-push_language.ensures ∙ ap (λ o. c.push_cid.new.out.items ++ language_field o) c.as_ref-4.ensures.value)
    (c.in_ok-push_location.ensures ∙ ap (λ o. c.push_language.new.out.items ++ location_field o) c.as_ref-5.ensures.value))
    c.push_coding.ensures
