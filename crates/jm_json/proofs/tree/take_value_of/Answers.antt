use Rattle.std.proofs.Common.{◌≡◌, ◌<◌, Some, map, length, sym, ap, ap₂, ◌∙◌, arith}
use Rattle.std.proofs.lemmas.List.{length-map}
use Rattle.jm_json.specs.Tree.{null}
use Rattle.jm_json.specs.Json.{tree_of, member_of}
use Rattle.jm_json.specs.KeyIndices.{IsKeyIndex}
use Rattle.jm_json.specs.declared.tree.KeyIndex.TheVariants.{Held, New}
use Rattle.jm_json.proofs.Puts.{found, not_found, written}
use Rattle.jm_json.proofs.Merging.{name_at}
use Rattle.jm_json.proofs.tree.take_value_of.Goals as goal

pub returns-in-Held-clause-value : goal.returns-in-Held-clause-value
returns-in-Held-clause-value c =
    let ms = c.args.members.now.items in
    let place : IsKeyIndex (Held c.in-Held.at) c.args.name.now (map member_of ms) = rw (c.as_slice.ensures.value) at c.in-Held.ensures in
    let inside : c.in-Held.at < length ms = omega (arith, place.0, length-map ms member_of) in
    ap (λ j. Some (tree_of j)) c.replace.ensures.value ∙ sym (found c.args.name.now ms c.in-Held.at c.index_mut.result.now inside c.index_mut.ensures.value place)

pub returns-in-Held-clause-rest : goal.returns-in-Held-clause-rest
returns-in-Held-clause-rest c =
    let ms = c.args.members.now.items in
    let place : IsKeyIndex (Held c.in-Held.at) c.args.name.now (map member_of ms) = rw (c.as_slice.ensures.value) at c.in-Held.ensures in
    let inside : c.in-Held.at < length ms = omega (arith, place.0, length-map ms member_of) in
    let name : c.index_mut.result.now.name ≡ c.args.name.now = name_at c.args.name.now ms c.in-Held.at c.index_mut.result.now inside c.index_mut.ensures.value place in
    written c.args.name.now null ms c.in-Held.at (record { name = c.index_mut.result.now.name; value = c.replace.new.dest })
    (ap₂ (λ n j. (n, tree_of j)) name c.replace.ensures.after) place

pub returns-in-New-clause-value : goal.returns-in-New-clause-value
returns-in-New-clause-value c =
    let place : IsKeyIndex (New c.in-New.field-0) c.args.name.now (map member_of c.args.members.now.items) = rw (c.as_slice.ensures.value) at c.in-New.ensures in
    sym (not_found c.args.name.now _ _ place)
