use Rattle.std.proofs.Common.{ℕ, List, ◌≡◌, ◌+◌, ◌-◌, Some, None, take, drop, length, sym, subst, arith}
use Rattle.std.proofs.lemmas.List.{length-drop, take_all}
use Rattle.filter_terms.specs.Contains.{IsAfterFirst}
use Rattle.filter_terms.proofs.FirstByte.{after_found, first_in_case, none_found}
use Rattle.filter_terms.proofs.containment.find_after.Goals as goal

pub returns-in-Some : goal.returns-in-Some
returns-in-Some c =
    let text = c.args.text.now in
    let k = c.in-Some.index + 1 in
    let whole : take (length text - k) (drop k text) ≡ drop k text = take_all (length text - k) (drop k text) (omega (arith, length-drop k text)) in
    subst (λ (after : List ℕ). IsAfterFirst c.args.byte text after) (sym whole)
    (after_found c.args.byte text c.in-Some.index
    (first_in_case c.args.byte c.to_ascii_lowercase.result c.to_ascii_uppercase.result text (Some c.in-Some.index) c.to_ascii_lowercase.ensures.value c.to_ascii_uppercase.ensures.value c.in-Some.ensures))

pub returns-in-None : goal.returns-in-None
returns-in-None c =
    none_found c.args.byte c.args.text.now
    (first_in_case c.args.byte c.to_ascii_lowercase.result c.to_ascii_uppercase.result c.args.text.now None c.to_ascii_lowercase.ensures.value c.to_ascii_uppercase.ensures.value c.in-None.ensures)
