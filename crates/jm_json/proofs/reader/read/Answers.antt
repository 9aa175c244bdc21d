use Rattle.jm_json.proofs.Readings.{refused}
use Rattle.jm_json.proofs.reader.read.Goals as goal

pub returns-in-Err-clause-reading : goal.returns-in-Err-clause-reading
returns-in-Err-clause-reading c = refused c.args.bytes.now (λ utf8. absurd (c.in-Err.ensures.cases.0 utf8))
