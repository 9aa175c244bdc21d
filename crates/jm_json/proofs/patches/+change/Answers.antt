use Rattle.std.proofs.Common.{◌≡◌, ◌-◌, length, take, drop, Some, None, sym, ap, ap₂, ◌∙◌, arith, take_all, length-drop}
use Rattle.jm_json.specs.Json.{tree_of}
use Rattle.jm_json.specs.Find.{find}
use Rattle.jm_json.specs.Order.{put}
use Rattle.jm_json.specs.Pointer.{cut, name_of}
use Rattle.jm_json.specs.Tree.{null}
use Rattle.jm_json.specs.Patch.{changed}
use Rattle.jm_json.proofs.Patched.{IsCut, changed_from, changed_none}
use Rattle.jm_json.proofs.Puts.{put_twice}
use Rattle.jm_json.proofs.patches.+change.Goals as goal

pub change-returns-in_ok-change_member-in-Some : goal.change-returns-in_ok-change_member-in-Some
change-returns-in_ok-change_member-in-Some t c =
    let path = c.args.path.now in
    let n = c.part_end.result in
    let is : IsCut path n = (c.part_end.ensures.within, c.part_end.ensures.last, c.part_end.ensures.more) in
    let name : name_of (take n path) ≡ Some c.in-Some.name = ap name_of (sym c.split_at.ensures.front) ∙ sym c.in_ok-name-in-Object.ensures ∙ c.in-Some.is in
    let done = c.in_ok-change_member-in-Some.ensures in
    rw c.in-Object.is (changed_from path n c.in-Some.name (tree_of c.args.value.now) c.in-Object.members c.in_ok-change_member-in-Some.field-0 is name
    (rw c.split_at.ensures.back at done.last) (rw c.split_at.ensures.back at done.inner))

pub change-returns-in-None : goal.change-returns-in-None
change-returns-in-None t c =
    let path = c.args.path.now in
    let n = c.part_end.result in
    let is : IsCut path n = (c.part_end.ensures.within, c.part_end.ensures.last, c.part_end.ensures.more) in
    let none : name_of (take n path) ≡ None = ap name_of (sym c.split_at.ensures.front) ∙ sym c.in_ok-name-in-Object.ensures ∙ c.in-None.is in
    rw c.in-Object.is (changed_none path n (tree_of c.args.value.now) c.in-Object.members is none)

pub change_member-returns-in_ok-put-in-Some-clause-inner : goal.change_member-returns-in_ok-put-in-Some-clause-inner
change_member-returns-in_ok-put-in-Some-clause-inner t c = λ some.
    let k = c.args.name in
    let ms = c.args.members in
    let v = tree_of c.args.value.now in
    let more = c.args.more.now in
    let u = tree_of c.in-Some.inner in
    let found : find k ms ≡ Some u = ap (λ s. find s ms) (sym c.as_str.ensures) ∙ sym c.in-Some.ensures.value in
    let rest = take_all (length more - 1) (drop 1 more) (omega (arith, length-drop 1 more)) in
    let inner : tree_of c.in_ok-inner-in-Some.inner ≡ changed (cut (drop 1 more)) v u = c.in_ok-inner-in-Some.ensures ∙ ap (λ s. changed (cut s) v u) rest in
    let empty : c.take_value.new.self ≡ put k null ms = c.in-Some.ensures.rest ∙ ap (λ s. put s null ms) c.as_str.ensures in
    rw found (c.in_ok-put-in-Some.ensures.ok ∙ ap₂ (put k) inner empty ∙ put_twice k null (changed (cut (drop 1 more)) v u) ms)

pub change_member-returns-in-None-clause-inner : goal.change_member-returns-in-None-clause-inner
change_member-returns-in-None-clause-inner t c = λ some.
    let k = c.args.name in
    let ms = c.args.members in
    let none : find k ms ≡ None = ap (λ s. find s ms) (sym c.as_str.ensures) ∙ sym c.in-None.ensures.value in
    rw none c.in-None.ensures.rest
