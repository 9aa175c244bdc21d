use Rattle.std.proofs.Common.{rules, codes}
use Rattle.http_wire.proofs.Appended.{as_line}
use Rattle.http_wire.proofs.responses.push_line.Goals as goal

pub returns : goal.returns
returns c = as_line c.args.bytes.now.items c.push_bytes.new.bytes.items c.push_bytes-2.new.bytes.items c.push_bytes-3.new.bytes.items c.args.name.now c.args.value.now (codes "\r\n") (search rules) (search rules) (search rules)
