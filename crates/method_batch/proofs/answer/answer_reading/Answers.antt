use Rattle.jm_json.specs.Reading.{reading_of}
use Rattle.method_batch.proofs.Together.{reading_not_begun}
use Rattle.method_batch.proofs.answer.answer_reading.Goals as goal

pub returns-clause-begun : goal.returns-clause-begun
returns-clause-begun g c = reading_not_begun g.P.Port.answers g.P.Port.stops g.met.P.Port.stays c.args.port.now (reading_of c.args.request.now)
