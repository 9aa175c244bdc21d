use Rattle.std.proofs.Common.{◌≡◌, ◌+◌, [], ◌∷◌, map, drop, true, false, bytes_eq, sym, ap, ◌∙◌, arith}
use Rattle.std.proofs.lemmas.List.{drop_more, drop_all}
use Rattle.jm_json.specs.Integers.{pointer_part}
use Rattle.jm_json.specs.Json.{member_of}
use Rattle.jm_json.proofs.Parts.{find_part, found_none, found_here, found_later}
use Rattle.jm_json.proofs.paths.find_escaped_member.Goals as goal

pub returns-then-is_written : goal.returns-then-is_written
returns-then-is_written c =
    let l = c.loop-member in
    let xs = c.args.members.now in
    let p = c.args.part.now in
    let m = c.member-item.result in
    let here : drop l.member-index xs ≡ m ∷ drop (l.member-index + 1) xs = drop_more xs l.member-index m (omega arith) ∙ ap (λ y. y ∷ drop (l.member-index + 1) xs) (sym c.member-item.is) in
    let written : bytes_eq (pointer_part m.name) p ≡ true = ap (λ s. bytes_eq (pointer_part s) p) (sym c.as_bytes.ensures.value) ∙ sym c.is_written.ensures ∙ c.if-is_written.true in
    sym (l.invariant ∙ ap (λ ys. find_part p (map member_of ys)) here ∙ found_here p (member_of m) (map member_of (drop (l.member-index + 1) xs)) written)

pub loop-member-preserved : goal.loop-member-preserved
loop-member-preserved c =
    let l = c.loop-member in
    let xs = c.args.members.now in
    let p = c.args.part.now in
    let m = c.member-item.result in
    let here : drop l.member-index xs ≡ m ∷ drop (l.member-index + 1) xs = drop_more xs l.member-index m (omega arith) ∙ ap (λ y. y ∷ drop (l.member-index + 1) xs) (sym c.member-item.is) in
    let written : bytes_eq (pointer_part m.name) p ≡ false = ap (λ s. bytes_eq (pointer_part s) p) (sym c.as_bytes.ensures.value) ∙ sym c.is_written.ensures ∙ c.if-is_written.false in
    l.invariant ∙ ap (λ ys. find_part p (map member_of ys)) here ∙ found_later p (member_of m) (map member_of (drop (l.member-index + 1) xs)) written

pub returns : goal.returns
returns c =
    let l = c.loop-member in
    let xs = c.args.members.now in
    let none : drop l.member-index xs ≡ [] = drop_all l.member-index xs (omega arith) in
    sym (l.invariant ∙ ap (λ ys. find_part c.args.part.now (map member_of ys)) none ∙ found_none c.args.part.now)
