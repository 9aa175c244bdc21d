use Rattle.std.proofs.Common.{◌++◌, sym, ap, ◌∙◌}
use Rattle.std.proofs.lemmas.Result.{on_ok_weaker}
use Rattle.jm_json.proofs.Lists.{list_of-trees_of}
use Rattle.jm_json.specs.Json.{tree_of}
use Rattle.result_refs.specs.References.{own_items}
use Rattle.result_refs.proofs.path.add.Goals as goal

pub returns-in-List : goal.returns-in-List
returns-in-List c =
    on_ok_weaker c.append.result (λ e.
    e ∙ ap (λ ts. c.args.found.now ++ ts) (sym (list_of-trees_of c.in-List.items)) ∙ ap (λ v. c.args.found.now ++ own_items (tree_of v)) (sym c.in-List.is))
    c.append.ensures.ok
