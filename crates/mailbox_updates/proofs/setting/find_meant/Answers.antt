use Rattle.std.proofs.Common.{List, Some, None, sym, ◌∙◌, subst}
use Rattle.mail_records.specs.Contents.{Content}
use Rattle.set_parts.specs.CreationIds.{identifier}
use Rattle.set_parts.specs.Views.{MeansIfAny}
use Rattle.jm_json.specs.declared.invocation.Created.{Created}
use Rattle.mailbox_updates.proofs.Showing.{meant_nothing, meant_some}
use Rattle.mailbox_updates.proofs.setting.find_meant.Goals as goal

pub returns-in-Some : goal.returns-in-Some
returns-in-Some c =
    λ (made : List Created) (d : Content) are shows.
    let at : MeansIfAny (identifier made c.as_bytes.result.now) (Some c.in-Some.number) = c.in-Some.ensures made are.ids in
    let means : MeansIfAny (identifier made c.args.id.now) (Some c.in-Some.number) = subst (λ s. MeansIfAny (identifier made s) (Some c.in-Some.number)) c.as_bytes.ensures.value at in
    c.find_present.ensures d shows ∙ sym (meant_some d.mailboxes (identifier made c.args.id.now) c.in-Some.number means)

pub returns-in-None : goal.returns-in-None
returns-in-None c =
    λ (made : List Created) (d : Content) are shows.
    let at : MeansIfAny (identifier made c.as_bytes.result.now) None = c.in-None.ensures made are.ids in
    let means : MeansIfAny (identifier made c.args.id.now) None = subst (λ s. MeansIfAny (identifier made s) None) c.as_bytes.ensures.value at in
    sym (meant_nothing d.mailboxes (identifier made c.args.id.now) means)
