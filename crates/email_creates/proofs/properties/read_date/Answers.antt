use Rattle.std.proofs.Common.{ap, option_map}
use Rattle.jm_base.proofs.DateTests.{dated, undated}
use Rattle.email_creates.specs.Properties.{date_of}
use Rattle.email_creates.proofs.properties.read_date.Goals as goal

pub returns-in-Ok-clause-date : goal.returns-in-Ok-clause-date
returns-in-Ok-clause-date c = ap (option_map date_of) (dated c.args.text.now c.in-Ok.date c.in-Ok.ensures.ok)

pub returns-in-Err-clause-date : goal.returns-in-Err-clause-date
returns-in-Err-clause-date c = ap (option_map date_of) (undated c.args.text.now c.in-Err.ensures.err)
