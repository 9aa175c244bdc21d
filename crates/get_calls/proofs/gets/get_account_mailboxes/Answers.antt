use Rattle.std.proofs.Common.{◌≡◌, ◌∙◌, subst, ap₂, IfOk, IfErr}
use Rattle.jm_base.specs.declared.identifiers.Kind.TheVariants.{Mailbox}
use Rattle.jm_json.specs.Json.{tree_of}
use Rattle.mail_records.specs.States.{state_of}
use Rattle.mail_records.specs.Histories.{content_of}
use Rattle.state_log.proofs.Agreement.{state_of-log}
use Rattle.get_calls.specs.Faults.{GetFails}
use Rattle.mail_view.specs.Gets.{get_mailboxes, got}
use Rattle.get_calls.proofs.gets.get_account_mailboxes.Goals as goal

pub returns : goal.returns
returns c =
    let h = c.args.account.now.history in
    let t = tree_of c.args.args.now in
    let state : c.state_of-state.result ≡ state_of h Mailbox = c.state_of-state.ensures.state ∙ state_of-log h c.log.result.now Mailbox c.log.ensures in
    let same : get_mailboxes c.content.result.now.content c.state_of-state.result t c.args.read_only ≡ get_mailboxes (content_of h) (state_of h Mailbox) t c.args.read_only =
    ap₂ (λ content n. get_mailboxes content n t c.args.read_only) c.content.ensures.content state in
    record {
      ok = subst (λ g. IfOk c.get_mailboxes.result (λ t. g ≡ got (tree_of t))) same c.get_mailboxes.ensures.ok;
      err = subst (λ g. IfErr c.get_mailboxes.result (λ fault. GetFails fault g)) same c.get_mailboxes.ensures.err;
    }
