use Rattle.record_codec.proofs.Lengths.{edit_bytes-append, edit_bytes-least, edit_bytes-part}
use Rattle.record_codec.proofs.laws.edits_take_their_bytes.Goals as goal

pub returns-clause-adds : goal.returns-clause-adds
returns-clause-adds c = edit_bytes-append

pub returns-clause-least : goal.returns-clause-least
returns-clause-least c = edit_bytes-least

pub returns-clause-part : goal.returns-clause-part
returns-clause-part c = edit_bytes-part
