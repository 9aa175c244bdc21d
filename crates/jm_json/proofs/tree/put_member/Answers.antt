use Rattle.std.proofs.Common.{◌≡◌, ◌≤◌, [], ◌∷◌, ◌++◌, map, length, take, drop, take_all, refl, sym, ap, ap₂, ◌∙◌, arith}
use Rattle.std.proofs.lemmas.List.{drop_all}
use Rattle.jm_json.specs.Json.{tree_of, member_of}
use Rattle.jm_json.specs.declared.tree.Member.{Member}
use Rattle.jm_json.proofs.Puts.{written, inserted}
use Rattle.jm_json.proofs.tree.put_member.Goals as goal

pub returns-in-Held-clause-ok : goal.returns-in-Held-clause-ok
returns-in-Held-clause-ok c =
    written c.args.name (tree_of c.args.value) c.args.members.now.items c.in-Held.at (record { name = c.args.name; value = c.args.value }) refl
    (rw (c.as_slice.ensures.value, c.as_bytes.ensures.value) at c.in-Held.ensures)

pub returns-in_ok-insert-in-New-clause-ok : goal.returns-in_ok-insert-in-New-clause-ok
returns-in_ok-insert-in-New-clause-ok c =
    rw (c.in_ok-insert-in-New.ensures.items) (inserted c.args.name (tree_of c.args.value) c.args.members.now.items c.in-New.at (record { name = c.args.name; value = c.args.value }) refl
    (rw (c.as_slice.ensures.value, c.as_bytes.ensures.value) at c.in-New.ensures))

pub returns-then-at-len-clause-ok : goal.returns-then-at-len-clause-ok
returns-then-at-len-clause-ok c =
    let ms = c.args.members.now.items in
    let at = c.in-New.at in
    let m : Member = record { name = c.args.name; value = c.args.value } in
    let last : length ms ≤ at = omega arith in
    let ends : take at ms ++ m ∷ drop at ms ≡ ms ++ m ∷ [] = ap₂ (λ xs ys. xs ++ m ∷ ys) (take_all at ms last) (drop_all at ms last) in
    ap (map member_of) (c.in_ok-push-in-New.ensures.items ∙ sym ends)
    ∙ inserted c.args.name (tree_of c.args.value) ms at m refl (rw (c.as_slice.ensures.value, c.as_bytes.ensures.value) at c.in-New.ensures)
