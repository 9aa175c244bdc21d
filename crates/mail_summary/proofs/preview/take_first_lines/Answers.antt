use Rattle.std.proofs.Common.{◌++◌, ap, sym}
use Rattle.mime_codec.specs.Quoted.{quoted_printable}
use Rattle.mail_summary.proofs.Fronts.{quoted_begins}
use Rattle.mail_summary.proofs.preview.take_first_lines.Goals as goal

pub returns-in-Some : goal.returns-in-Some
returns-in-Some c =
    quoted_begins c.take_first_bytes-first.result.now c.args.body.now _ c.in-Some.i c.in-Some.ensures.0.high c.in-Some.ensures.1 c.split_at.ensures.front
    c.take_first_bytes-first.ensures

pub returns-in-None : goal.returns-in-None
returns-in-None c =
    let whole = quoted_printable c.args.body.now in
    (whole, ap (λ t. quoted_printable t ++ whole) (sym c.split_at-in-None.ensures.front))
