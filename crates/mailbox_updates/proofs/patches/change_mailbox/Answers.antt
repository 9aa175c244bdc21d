use Rattle.std.proofs.Common.{◌≡◌, sym, ap, ◌∙◌}
use Rattle.jm_json.specs.Json.{tree_of}
use Rattle.jm_json.specs.Patch.{patched, patching}
use Rattle.jm_json.specs.Tree.{fields_of, object}
use Rattle.mailbox_creates.specs.Properties.{sent_properties}
use Rattle.mailbox_updates.specs.Updates.{changed_by, changed_to, mailbox_tree}
use Rattle.mailbox_updates.proofs.Showing.{if_more}
use Rattle.mailbox_updates.proofs.patches.change_mailbox.Goals as goal

pub returns-in-Some-clause-after : goal.returns-in-Some-clause-after
returns-in-Some-clause-after c =
    if_more c.change_to.result _ _
    (λ x all made d are shows.
    let m = c.args.mailbox.now in
    let changes = tree_of c.args.changes.now in
    let is : patching (mailbox_tree m) changes ≡ patched (tree_of c.in-Some.tree) = ap (λ ms. patching (object (fields_of ms)) changes) (sym c.in_ok-view.ensures) ∙ (rw c.in-Some.is at c.in_ok-tree.ensures) in
    all made d are shows ∙ (ap (λ ms. changed_to m ms (sent_properties d made ms)) c.into_members-after.ensures ∙ sym (ap (changed_by d made m) is)))
    c.change_to.ensures.after

pub returns-in-None-clause-after : goal.returns-in-None-clause-after
returns-in-None-clause-after c =
    λ made d are shows.
    let m = c.args.mailbox.now in
    let changes = tree_of c.args.changes.now in
    sym (ap (changed_by d made m) (ap (λ ms. patching (object (fields_of ms)) changes) (sym c.in_ok-view.ensures) ∙ (rw c.in-None.is at c.in_ok-tree.ensures).1))
