use Rattle.std.proofs.Common.{◌≡◌, ◌+◌, map, Some, decimal, sym, ap, ◌∙◌, arith}
use Rattle.std.proofs.lemmas.List.{get_or-map, length-map}
use Rattle.jm_json.specs.Json.{tree_of}
use Rattle.jm_json.proofs.Parts.{item_absent, item_present, item_past}
use Rattle.jm_json.proofs.paths.find_item.Goals as goal

pub returns-then-index-items : goal.returns-then-index-items
returns-then-index-items c =
    let ts = map tree_of c.args.items.now in
    let n = c.in-Some.index in
    let start : 0 + n ≡ n = omega arith in
    let found = item_present 0 n c.args.part.now ts (tree_of c.index-items-index.result) (omega (arith, length-map c.args.items.now tree_of)) (ap decimal start ∙ c.in-Some.ensures) (omega (arith, length-map c.args.items.now tree_of)) in
    ap Some (ap tree_of c.index-items-index.is ∙ sym (get_or-map tree_of c.args.items.now n c.index-items-index.result (tree_of c.index-items-index.result) c.if-index-items.true)) ∙ sym found

pub returns-else-index-items : goal.returns-else-index-items
returns-else-index-items c =
    let n = c.in-Some.index in
    let start : 0 + n ≡ n = omega arith in
    sym (item_past 0 n c.args.part.now (map tree_of c.args.items.now) (omega arith) (ap decimal start ∙ c.in-Some.ensures) (omega (arith, length-map c.args.items.now tree_of)))

pub returns-in-None : goal.returns-in-None
returns-in-None c = sym (item_absent 0 c.args.part.now (map tree_of c.args.items.now) (omega (arith, length-map c.args.items.now tree_of)) c.in-None.ensures)
