use Rattle.std.proofs.Common.{◌≡◌, true, false, Some, None, cond, is_some, option_map, sym, ap, ◌∙◌, subst}
use Rattle.mail_records.specs.Contents.{mailbox_at}
use Rattle.set_parts.specs.CreationIds.{identifier}
use Rattle.set_parts.specs.Views.{MeansIfAny}
use Rattle.mailbox_updates.proofs.Breaking.{some_map}
use Rattle.mailbox_creates.proofs.Naming.{named_nothing, named_some}
use Rattle.mailbox_updates.proofs.patches.find_parent.Goals as goal

pub returns-then-is_some : goal.returns-then-is_some
returns-then-is_some c =
    λ made d are shows.
    let n = c.in-Some.number in
    let at : MeansIfAny (identifier made c.as_bytes.result.now) (Some n) = c.in-Some.ensures made are.ids in
    let means : MeansIfAny (identifier made c.args.text.now) (Some n) = subst (λ s. MeansIfAny (identifier made s) (Some n)) c.as_bytes.ensures.value at in
    let there : is_some (mailbox_at d n) ≡ true = sym (ap is_some (c.find_present.ensures d shows)) ∙ (some_map (λ r. r.now) c.find_present.result ∙ (sym c.is_some.ensures ∙ c.if-is_some.true)) in
    sym (ap (option_map Some) (named_some d (identifier made c.args.text.now) n means ∙ ap (λ b. cond b (Some n) None) there))

pub returns-else-is_some : goal.returns-else-is_some
returns-else-is_some c =
    λ made d are shows.
    let n = c.in-Some.number in
    let at : MeansIfAny (identifier made c.as_bytes.result.now) (Some n) = c.in-Some.ensures made are.ids in
    let means : MeansIfAny (identifier made c.args.text.now) (Some n) = subst (λ s. MeansIfAny (identifier made s) (Some n)) c.as_bytes.ensures.value at in
    let there : is_some (mailbox_at d n) ≡ false = sym (ap is_some (c.find_present.ensures d shows)) ∙ (some_map (λ r. r.now) c.find_present.result ∙ (sym c.is_some.ensures ∙ c.if-is_some.false)) in
    sym (ap (option_map Some) (named_some d (identifier made c.args.text.now) n means ∙ ap (λ b. cond b (Some n) None) there))

pub returns-in-None : goal.returns-in-None
returns-in-None c =
    λ made d are shows.
    let at : MeansIfAny (identifier made c.as_bytes.result.now) None = c.in-None.ensures made are.ids in
    let means : MeansIfAny (identifier made c.args.text.now) None = subst (λ s. MeansIfAny (identifier made s) None) c.as_bytes.ensures.value at in
    sym (ap (option_map Some) (named_nothing d (identifier made c.args.text.now) means))
