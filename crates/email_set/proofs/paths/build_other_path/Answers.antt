use Rattle.std.proofs.Common.{Bor, ◌≡◌, ◌∙◌, List, ℕ, Some, codes, option_map, sym, ap}
use Rattle.jm_json.specs.Pointer.{stripped}
use Rattle.jm_json.specs.declared.invocation.Created.{Created}
use Rattle.set_parts.specs.Views.{HoldTexts}
use Rattle.email_set.specs.Patches.{meant_in_mailboxes}
use Rattle.email_set.proofs.Results.{ok_map}
use Rattle.email_set.proofs.paths.build_other_path.Goals as goal

pub returns-in-Some : goal.returns-in-Some
returns-in-Some c =
    let found : Some c.in-Some.part.now ≡ stripped (codes "mailboxIds/") c.args.path.now =
    ap (option_map (λ (r : Bor (List ℕ)). r.now)) (sym c.in-Some.is) ∙ (c.strip_prefix.ensures ∙ ap (stripped (codes "mailboxIds/")) c.as_bytes.ensures.value) in
    ok_map c.build_mailbox_path.result _ _
    (λ path is (made : List Created) (h : HoldTexts c.args.texts.now made). is made h ∙ ap (meant_in_mailboxes made c.args.path.now) found)
    c.build_mailbox_path.ensures
