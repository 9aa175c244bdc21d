use Rattle.query_engine.proofs.Results.{is_the_result, there_is_one}
use Rattle.query_engine.proofs.laws.queries_have_one_result.Goals as goal

pub returns : goal.returns
returns c = record { is_result = is_the_result; one = there_is_one }
