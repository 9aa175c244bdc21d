use Rattle.std.proofs.Common.{map, sym, ap, ◌∙◌, arith}
use Rattle.std.proofs.lemmas.List.{length-map}
use Rattle.jm_json.specs.Json.{member_of}
use Rattle.jm_json.specs.KeyIndices.{IsKeyIndex}
use Rattle.jm_json.specs.declared.tree.KeyIndex.TheVariants.{Held, New}
use Rattle.jm_json.proofs.Puts.{found, not_found, taken, not_taken}
use Rattle.jm_json.proofs.tree.remove_member.Goals as goal

pub returns-in-Held-clause-value : goal.returns-in-Held-clause-value
returns-in-Held-clause-value c =
    let ms = c.args.members.now.items in
    let place : IsKeyIndex (Held c.in-Held.at) c.args.name.now (map member_of ms) = rw (c.as_slice.ensures.value) at c.in-Held.ensures in
    sym (found c.args.name.now ms c.in-Held.at c.remove-value.result (omega (arith, place.0, length-map ms member_of)) c.remove-value.ensures.value place)

pub returns-in-Held-clause-rest : goal.returns-in-Held-clause-rest
returns-in-Held-clause-rest c =
    let ms = c.args.members.now.items in
    let place : IsKeyIndex (Held c.in-Held.at) c.args.name.now (map member_of ms) = rw (c.as_slice.ensures.value) at c.in-Held.ensures in
    ap (map member_of) c.remove-value.ensures.items
    ∙ sym (taken c.args.name.now ms c.in-Held.at c.remove-value.result (omega (arith, place.0, length-map ms member_of)) c.remove-value.ensures.value place)

pub returns-in-New-clause-value : goal.returns-in-New-clause-value
returns-in-New-clause-value c =
    let place : IsKeyIndex (New c.in-New.field-0) c.args.name.now (map member_of c.args.members.now.items) = rw (c.as_slice.ensures.value) at c.in-New.ensures in
    sym (not_found c.args.name.now _ _ place)

pub returns-in-New-clause-rest : goal.returns-in-New-clause-rest
returns-in-New-clause-rest c =
    let place : IsKeyIndex (New c.in-New.field-0) c.args.name.now (map member_of c.args.members.now.items) = rw (c.as_slice.ensures.value) at c.in-New.ensures in
    sym (not_taken c.args.name.now _ _ place)
