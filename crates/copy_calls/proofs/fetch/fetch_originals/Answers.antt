use Rattle.jm_json.specs.Json.{tree_of}
use Rattle.copy_calls.proofs.Fetched.{fault_of, fetched_of}
use Rattle.copy_calls.proofs.fetch.fetch_originals.Goals as goal

pub returns-clause-fetched : goal.returns-clause-fetched
returns-clause-fetched c =
    fetched_of c.args.account.now.history c.content.result.now.content c.blobs.result.now.blobs c.find_state-state.result (tree_of c.args.args.now) c.fetch_originals_from.result c.content.ensures.content c.blobs.ensures.blobs c.find_state-state.ensures
    c.fetch_originals_from.ensures.fetched

pub returns-clause-fault : goal.returns-clause-fault
returns-clause-fault c = fault_of c.args.account.now.history c.find_state-state.result (tree_of c.args.args.now) c.fetch_originals_from.result c.find_state-state.ensures c.fetch_originals_from.ensures.fault
