use Rattle.jm_json.specs.Json.{tree_of}
use Rattle.query_engine.proofs.Within.{received_by_one}
use Rattle.query_engine.proofs.walks.read_received_order.Goals as goal

pub returns-in-len1 : goal.returns-in-len1
returns-in-len1 c =
    received_by_one _ tree_of c.as_list.result c.in-Some.items (tree_of c.args.sort.now) c.as_slice.result.now c.only-item.result c.read_received_comparator.result
    c.as_list.ensures c.in-Some.is c.as_slice.ensures c.in-len1.len_at_least c.in-len1.len_below c.only-item.is c.read_received_comparator.ensures
