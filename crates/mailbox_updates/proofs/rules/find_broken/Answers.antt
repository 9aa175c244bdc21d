use Rattle.std.proofs.Common.{Bool, ◌++◌, sym, ap, ap₂, ◌∙◌}
use Rattle.std.specs.Prelude.{codes}
use Rattle.mailbox_updates.specs.Updates.{name_if}
use Rattle.mailbox_updates.proofs.Breaking.{role_after, shared_after}
use Rattle.mailbox_updates.proofs.rules.find_broken.Goals as goal

pub returns : goal.returns
returns c =
    λ d shows count there.
    let m = c.args.mailbox.now in
    let name = c.is_name_shared.ensures d shows ∙ sym (shared_after d m shows.table) in
    let chain = c.is_chain_broken.ensures d shows count there in
    let role = c.is_role_shared.ensures d shows ∙ sym (role_after d m shows.table) in
    c.in_ok-add_if-3.ensures
    ∙ ap₂ (λ xs ys. xs ++ ys)
    (c.in_ok-add_if-2.ensures
    ∙ ap₂ (λ xs ys. xs ++ ys) (c.in_ok-add_if.ensures ∙ ap₂ (λ xs ys. xs ++ ys) c.new-names.ensures (ap (λ (b : Bool). name_if b (codes "name")) name)) (ap (λ (b : Bool). name_if b (codes "parentId")) chain))
    (ap (λ (b : Bool). name_if b (codes "role")) role)
