use Rattle.std.proofs.Common.{[], sym, append-nil}
use Rattle.mail_summary.proofs.preview.take_first_bytes.Goals as goal

pub returns : goal.returns
returns c = ([], sym (append-nil c.args.body.now))
