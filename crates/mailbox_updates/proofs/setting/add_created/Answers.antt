use Rattle.std.proofs.Common.{◌≡◌, ◌++◌, ◌+◌, [], ◌∷◌, List, take, sym, ap, ◌∙◌, subst, append_assoc, arith}
use Rattle.std.proofs.lemmas.List.{take_all}
use Rattle.jm_json.specs.declared.invocation.Created.{Created}
use Rattle.set_parts.specs.Views.{AreMade, HoldIds, HoldTexts, Means}
use Rattle.mailbox_updates.proofs.Showing.{took}
use Rattle.mailbox_updates.proofs.setting.add_created.Goals as goal

pub loop-created-preserved : goal.loop-created-preserved
loop-created-preserved c =
    λ made are.
    let xs = c.args.fresh.now in
    let i = c.loop-created.created-index in
    let x = c.created-item.result in
    let was = c.loop-created.invariant made are in
    let before : List Created = made ++ take i xs in
    let more : before ++ x ∷ [] ≡ made ++ take (i + 1) xs = append_assoc made (take i xs) (x ∷ []) ∙ ap (λ (ys : List Created). made ++ ys) (sym (took xs i x c.loop-created-test.true c.created-item.is)) in
    let means : Means x.id c.read_mailbox_number.result = subst (λ s. Means s c.read_mailbox_number.result) c.as_bytes-in-loop-created-2.ensures.value c.read_mailbox_number.ensures in
    record {
      texts = subst (HoldTexts c.note_text.new.texts) more (c.in_ok-note_text.ensures before x was.texts (sym c.as_bytes.ensures.value) (sym c.as_str.ensures));
      ids = subst (HoldIds c.note_id.new.ids) more (c.in_ok-note_id.ensures before x was.ids (sym c.as_bytes-in-loop-created.ensures.value) means);
    }

pub returns : goal.returns
returns c =
    λ made are.
    let xs = c.args.fresh.now in
    let i = c.loop-created.created-index in
    subst (λ (ys : List Created). AreMade c.loop-created.records (made ++ ys)) (take_all i xs (omega (arith, c.loop-created-test.false))) (c.loop-created.invariant made are)
