use Rattle.std.proofs.Common.{◌∙◌, ap, map}
use Rattle.jm_json.specs.Tree.{object, fields_of}
use Rattle.mail_view.specs.Threads.{thread_members}
use Rattle.get_calls.specs.Members.{remove_all}
use Rattle.get_calls.proofs.HiddenMembers.{all_taken, thread_members_rise}
use Rattle.get_calls.proofs.threads.write_thread.Goals as goal

pub returns : goal.returns
returns c =
    let hidden = map (λ h. h.now) c.args.hidden.now in
    let t = c.args.thread.now in
    ap (λ ms. object (fields_of ms)) (c.remove_members.ensures ∙ ap (remove_all hidden) c.in_ok-members.ensures ∙ all_taken hidden (thread_members t) (thread_members_rise t))
