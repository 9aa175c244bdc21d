use Rattle.std.proofs.Common.{length, map, sym, ap, ◌∙◌}
use Rattle.jm_json.specs.Invocations.{call_of}
use Rattle.jm_json.specs.Responses.{responses_tree}
use Rattle.jm_json.specs.JsonValues.{data_of}
use Rattle.jm_json.proofs.Writings.{given_if_ok, given_if_err}
use Rattle.jm_json.proofs.responses.write_responses_in_place.Goals as goal

pub give_back-requires : goal.give_back-requires
give_back-requires c = c.len-before.ensures ∙ ap length (sym (c.put_responses-written.ensures.before ∙ c.take_writer-writer.ensures.before))

pub returns-clause-ok : goal.returns-clause-ok
returns-clause-ok c =
    given_if_ok c.give_back.result c.put_responses-written.result _ _ c.args.out.now _ _ (data_of (responses_tree (map call_of c.args.responses.now) c.args.state.now)) c.give_back.ensures.same c.give_back.ensures.ok c.put_responses-written.ensures.tokens
    (c.put_responses-written.ensures.before ∙ c.take_writer-writer.ensures.before) c.take_writer-writer.ensures.tokens

pub returns-clause-err : goal.returns-clause-err
returns-clause-err c = given_if_err c.give_back.result _ _ c.args.out.now c.give_back.ensures.err (c.put_responses-written.ensures.before ∙ c.take_writer-writer.ensures.before)
