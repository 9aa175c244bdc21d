use Rattle.std.proofs.Common.{◌≡◌, ◌∙◌, subst, ap₂, IfOk, IfErr}
use Rattle.jm_base.specs.declared.identifiers.Kind.TheVariants.{Thread}
use Rattle.jm_json.specs.Json.{tree_of}
use Rattle.mail_records.specs.States.{state_of}
use Rattle.mail_records.specs.Histories.{content_of}
use Rattle.state_log.proofs.Agreement.{state_of-log}
use Rattle.get_calls.specs.Faults.{GetFails}
use Rattle.mail_view.specs.Gets.{get_threads, got}
use Rattle.get_calls.proofs.gets.get_account_threads.Goals as goal

pub returns : goal.returns
returns c =
    let h = c.args.account.now.history in
    let t = tree_of c.args.args.now in
    let state : c.state_of-state.result ≡ state_of h Thread = c.state_of-state.ensures.state ∙ state_of-log h c.log.result.now Thread c.log.ensures in
    let same : get_threads c.content.result.now.content c.state_of-state.result t ≡ get_threads (content_of h) (state_of h Thread) t =
    ap₂ (λ content n. get_threads content n t) c.content.ensures.content state in
    record {
      ok = subst (λ g. IfOk c.get_threads.result (λ t. g ≡ got (tree_of t))) same c.get_threads.ensures.ok;
      err = subst (λ g. IfErr c.get_threads.result (λ fault. GetFails fault g)) same c.get_threads.ensures.err;
    }
