use Rattle.std.proofs.Common.{sym, subst}
use Rattle.mime_codec.specs.Decoded.{decoded}
use Rattle.mail_summary.specs.Texts.{Begins}
use Rattle.mail_summary.proofs.Fronts.{base64_begins}
use Rattle.mail_summary.proofs.preview.take_encoded_prefix.Goals as goal

pub returns-in-Base64 : goal.returns-in-Base64
returns-in-Base64 c =
    let front = c.take_first_bytes-in-Base64.result.now in
    let body = c.args.body.now in
    subst (λ k. Begins (decoded k front) (decoded k body)) (sym c.in-Base64.is) (base64_begins front body c.take_first_bytes-in-Base64.ensures)
