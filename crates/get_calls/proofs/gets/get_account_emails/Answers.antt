use Rattle.std.proofs.Common.{◌≡◌, ◌∙◌, subst, ap, ap₂, IfOk, IfErr}
use Rattle.jm_base.specs.declared.identifiers.Kind.TheVariants.{Email}
use Rattle.jm_json.specs.Json.{tree_of}
use Rattle.mail_records.specs.States.{state_of}
use Rattle.mail_records.specs.Histories.{blobs_of, content_of}
use Rattle.state_log.proofs.Agreement.{state_of-log}
use Rattle.get_calls.specs.Faults.{GetFails}
use Rattle.mail_view.specs.Gets.{get_emails, got}
use Rattle.get_calls.proofs.gets.get_account_emails.Goals as goal

pub returns : goal.returns
returns c =
    let h = c.args.account.now.history in
    let t = tree_of c.args.args.now in
    let state : c.state_of-state.result ≡ state_of h Email = c.state_of-state.ensures.state ∙ state_of-log h c.log.result.now Email c.log.ensures in
    let same : get_emails c.content.result.now.content c.blobs.result.now.blobs c.state_of-state.result t ≡ get_emails (content_of h) (blobs_of h) (state_of h Email) t =
    ap₂ (λ content n. get_emails content c.blobs.result.now.blobs n t) c.content.ensures.content state ∙ ap (λ b. get_emails (content_of h) b (state_of h Email) t) c.blobs.ensures.blobs in
    record {
      ok = subst (λ g. IfOk c.get_emails.result (λ t. g ≡ got (tree_of t))) same c.get_emails.ensures.ok;
      err = subst (λ g. IfErr c.get_emails.result (λ fault. GetFails fault g)) same c.get_emails.ensures.err;
    }
