use Rattle.jm_json.proofs.CallsBack.{requested, responded}
use Rattle.jm_json.proofs.laws.show_that_calls_are_read_as_written.Goals as goal

pub returns-clause-request : goal.returns-clause-request
returns-clause-request c capabilities calls objects = requested capabilities calls objects

pub returns-clause-response : goal.returns-clause-response
returns-clause-response c responses state objects = responded responses state objects
