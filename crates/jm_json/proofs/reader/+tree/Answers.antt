use Rattle.std.proofs.Common.{rules, ◌≡◌, [], ◌∷◌, ◌++◌, map, sym, ap, ◌∙◌, subst, append_assoc, arith, string_bytes}
use Rattle.std.proofs.lemmas.Grind.{common_steps}
use Rattle.std.specs.List.Sorted.{IsStrictlySortedBy}
use Rattle.std.specs.Map.{keys_of}
use Rattle.std.specs.String.{string_cmp}
use Rattle.serde_json.specs.View as view
use Rattle.serde_json.proofs.Views.{Entry}
use Rattle.jm_json.specs.Json.{tree_of}
use Rattle.jm_json.specs.JsonValues.{data_of}
use Rattle.jm_json.proofs.Values.{items_as_list, same_members, rises, pairs_more}
use Rattle.jm_json.proofs.reader.+tree.Goals as goal

pub build_items-returns-clause-ok : goal.build_items-returns-clause-ok
build_items-returns-clause-ok t c =
    let e : map data_of c.loop-value.items ≡ map view.view c.args.values.items = grind (arith, common_steps) in
    items_as_list c.loop-value.items ∙ ap view.items_of e

pub build_members-push-requires : goal.build_members-push-requires
build_members-push-requires t c =
    let l = c.loop-name in
    let e : Entry = (c.in-Some.name, c.in-Some.value) in
    let left = c.next.new.self in
    let all : c.args.values.entries ≡ l.yielded ++ e ∷ left = sym l.invariant.0 ∙ ap (λ es. l.yielded ++ es) c.in-Some.ensures.steps in
    let named : c.from_string.result ≡ string_bytes e.0 = search rules in
    rises _ (l.yielded ++ e ∷ []) left (pairs_more l.members l.yielded c.from_string.result (tree_of c.in-Ok.tree) e l.invariant.1 named c.in-Ok.ensures.ok)
    (subst (λ es. IsStrictlySortedBy string_cmp (keys_of es)) (all ∙ sym (append_assoc l.yielded (e ∷ []) left)) c.into_iter-name-iterator.ensures.into_iter_gives.5)

pub build_members-returns-clause-ok : goal.build_members-returns-clause-ok
build_members-returns-clause-ok t c =
    let l = c.loop-name in
    let all : l.yielded ≡ c.args.values.entries = grind (arith, common_steps) in
    same_members l.members l.yielded (l.invariant.1) ∙ ap view.members_view all
