use Rattle.std.proofs.Common.{◌≡◌, ℕ, Bool, true, ◌&&◌, not, Some, is_some, sym, ap, ◌∙◌}
use Rattle.mail_records.specs.Contents.{mailbox_at, mailbox_number}
use Rattle.mail_records.specs.Tables.{lookup}
use Rattle.mail_records.specs.declared.records.Mailbox.{Mailbox}
use Rattle.mailbox_updates.specs.Updates.{is_chain_broken, is_name_shared, is_role_shared, keeps_rules_at}
use Rattle.mailbox_updates.proofs.Breaking.{chain_there, none_broken, number_at}
use Rattle.mailbox_updates.proofs.rules.keeps_rules_at.Goals as goal

pub returns-in-Some : goal.returns-in-Some
returns-in-Some c =
    λ d shows count.
    let n = c.args.number in
    let m : Mailbox = c.in-Some.mailbox.now in
    let at : mailbox_at d n ≡ Some m = sym (c.in-Some.ensures d shows) in
    let there : is_some (mailbox_at d m.number) ≡ true = ap (λ (k : ℕ). is_some (lookup mailbox_number k d.mailboxes)) (number_at d m n at) ∙ ap is_some at in
    c.breaks_none.ensures d shows count there
    ∙ (ap (λ (b : Bool). (not (is_name_shared d m) && not b) && not (is_role_shared d m)) (chain_there d m n shows.table at)
    ∙ (sym (none_broken (is_name_shared d m) (is_chain_broken d m) (is_role_shared d m)) ∙ sym (ap (keeps_rules_at d) at)))

pub returns-in-None : goal.returns-in-None
returns-in-None c = λ d shows count. sym (ap (keeps_rules_at d) (sym (c.in-None.ensures d shows)))
