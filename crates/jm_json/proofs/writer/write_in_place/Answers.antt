use Rattle.std.proofs.Common.{length, sym, ap, ◌∙◌}
use Rattle.jm_json.specs.Json.{tree_of}
use Rattle.jm_json.specs.JsonValues.{data_of}
use Rattle.jm_json.proofs.Writings.{given_if_ok, given_if_err}
use Rattle.jm_json.proofs.writer.write_in_place.Goals as goal

pub give_back-requires : goal.give_back-requires
give_back-requires c = c.len-before.ensures ∙ ap length (sym (c.put_tree-written.ensures.before ∙ c.take_writer-writer.ensures.before))

pub returns-clause-ok : goal.returns-clause-ok
returns-clause-ok c =
    given_if_ok c.give_back.result c.put_tree-written.result _ _ c.args.out.now _ _ (data_of (tree_of c.args.tree.now)) c.give_back.ensures.same c.give_back.ensures.ok c.put_tree-written.ensures.tokens
    (c.put_tree-written.ensures.before ∙ c.take_writer-writer.ensures.before) c.take_writer-writer.ensures.tokens

pub returns-clause-err : goal.returns-clause-err
returns-clause-err c = given_if_err c.give_back.result _ _ c.args.out.now c.give_back.ensures.err (c.put_tree-written.ensures.before ∙ c.take_writer-writer.ensures.before)
