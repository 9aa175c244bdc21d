use Rattle.jm_json.specs.Json.{tree_of}
use Rattle.client_cache.proofs.ReadBack.{reads_back}
use Rattle.client_cache.proofs.writing.cache_bytes.Goals as goal

pub returns-clause-reads_back : goal.returns-clause-reads_back
returns-clause-reads_back c = reads_back c.write.result (tree_of c.in_ok-tree.tree) c.args.cache.now c.in_ok-tree.ensures c.write.ensures.reads_back
