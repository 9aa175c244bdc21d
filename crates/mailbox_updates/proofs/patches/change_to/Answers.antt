use Rattle.std.proofs.Common.{ℕ, List, ap, ap₂, ◌∙◌}
use Rattle.std.specs.Map.{keys_of}
use Rattle.mailbox_creates.specs.Properties.{SentProperties}
use Rattle.mailbox_updates.specs.Updates.{bad_after, changed_unless, value_faults, with_properties}
use Rattle.mailbox_updates.proofs.Showing.{if_more}
use Rattle.mailbox_updates.proofs.patches.change_to.Goals as goal

pub returns-clause-after : goal.returns-clause-after
returns-clause-after c =
    if_more c.change_unless.result _ _
    (λ x all made d are shows.
    let m = c.args.mailbox.now in
    let after = c.args.after.now in
    let same = c.read_properties-properties.ensures made d are shows in
    let faults = c.find_value_faults-faults.ensures ∙ ap value_faults same in
    let bad = c.in_ok-bad.ensures ∙ ap₂ (λ f ms. bad_after f ms after) faults c.in_ok-before.ensures in
    all ∙ ap₂ (λ (ns : List (List ℕ)) (a : SentProperties). changed_unless ns (with_properties a m)) (c.in_ok-names.ensures ∙ ap keys_of bad) same)
    c.change_unless.ensures.after
