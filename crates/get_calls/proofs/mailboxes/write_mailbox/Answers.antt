use Rattle.std.proofs.Common.{◌∙◌, ap, map}
use Rattle.jm_json.specs.Tree.{object, fields_of}
use Rattle.mail_counts.specs.Views.{mailbox_members}
use Rattle.get_calls.specs.Members.{remove_all}
use Rattle.get_calls.proofs.HiddenMembers.{all_taken, members_rise}
use Rattle.get_calls.proofs.mailboxes.write_mailbox.Goals as goal

pub returns : goal.returns
returns c =
    let hidden = map (λ h. h.now) c.args.hidden.now in
    let m = c.args.mailbox.now in
    ap (λ ms. object (fields_of ms)) (c.remove_members.ensures ∙ ap (remove_all hidden) c.in_ok-view.ensures ∙ all_taken hidden (mailbox_members c.args.read_only m) (members_rise c.args.read_only m))
