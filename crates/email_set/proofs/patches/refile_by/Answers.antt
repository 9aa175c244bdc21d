use Rattle.std.proofs.Common.{◌≡◌, ◌∙◌, List, map, sym}
use Rattle.jm_json.specs.Json.{member_of, tree_of}
use Rattle.jm_json.specs.Patch.{patched, patching_by}
use Rattle.jm_json.specs.declared.invocation.Created.{Created}
use Rattle.jm_json.specs.declared.tree.Json.{Json}
use Rattle.set_parts.specs.Views.{AreMade}
use Rattle.email_set.specs.declared.filing.Filing.{Filing}
use Rattle.email_set.proofs.Results.{decided, ok_map, some_of}
use Rattle.email_set.proofs.patches.refile_by.Goals as goal

pub returns : goal.returns
returns g c =
    let own : Filing = record { mailboxes = c.args.mailboxes.now; keywords = c.args.keywords.now } in
    let before = tree_of c.in_ok-tree.tree in
    let changed : Json = c.in-Some-2.changed in
    let is_patched : patching_by c.in-Some.meant before ≡ patched (tree_of changed) =
    some_of c.in_ok-changed.field-0 _ (λ (t : Json). patching_by c.in-Some.meant before ≡ patched (tree_of t)) changed c.in-Some-2.is c.in_ok-changed.ensures in
    ok_map c.decide.result _ _
    (λ r is (made : List Created) (m : AreMade c.args.created.now made).
    decided (g.N.MailboxNumbers.numbers c.args.numbers.now) made own (map member_of c.args.changes.now) c.in-Some.meant (tree_of changed) before
    c.in_ok-values.values.keywords c.in_ok-values.values.mailboxes r is c.in_ok-values.ensures.keywords (c.in_ok-values.ensures.mailboxes made m) is_patched c.in_ok-tree.ensures
    (sym c.in-Some.is ∙ c.in_ok-meant.ensures made m.texts))
    c.decide.ensures
