use Rattle.std.proofs.Common.{◌≡◌, Some, sym, ap, ◌∙◌}
use Rattle.mail_records.specs.declared.records.Mailbox.{Mailbox}
use Rattle.mailbox_set.specs.Destroys.{destroy_of}
use Rattle.mailbox_creates.specs.Properties.{mailbox_meant}
use Rattle.mailbox_updates.proofs.Showing.{both_ways, meant_there}
use Rattle.mailbox_set.proofs.Tracking.{to_destroy}
use Rattle.mailbox_set.proofs.destroys.check_destroy.Goals as goal

pub returns-in-Some : goal.returns-in-Some
returns-in-Some c =
    let id = c.args.id.now in
    let remove = c.args.setting.now.removes_emails in
    let m : Mailbox = c.in-Some.mailbox.now in
    both_ways c.check_there.result _ _ _ _
    (λ n h made d are shows.
    let meant : mailbox_meant made d id ≡ Some m = sym (c.in-Some.ensures made d are shows) in
    let there = meant_there made d id m meant in
    to_destroy n m made remove d id meant there h.0 (h.1 d shows there))
    (λ e h made d are shows.
    let meant : mailbox_meant made d id ≡ Some m = sym (c.in-Some.ensures made d are shows) in
    ap (destroy_of remove d) meant ∙ h d shows (meant_there made d id m meant))
    c.check_there.ensures
