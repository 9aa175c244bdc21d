use Rattle.std.proofs.Common.{sym, ap, subst, ◌∙◌, Some}
use Rattle.base64.specs.Engines.{standard}
use Rattle.base64.specs.GeneralPurpose.{IsDecodeFailure}
use Rattle.base64.specs.declared.decode.DecodeAllocError.{DecodeAllocError}
use Rattle.batch_lines.proofs.Uploads.{bytes_read, bytes_missed}
use Rattle.batch_lines.proofs.upload.read_base64.Goals as goal

pub returns-in-Ok : goal.returns-in-Ok
returns-in-Ok c = ap Some c.from_vec.ensures ∙ sym (bytes_read c.args.string.now c.in-Ok.items.items c.in-Ok.ensures.ok)

pub returns-in-Err-DecodeError : goal.returns-in-Err-DecodeError
returns-in-Err-DecodeError c =
    let failed = subst (λ (e : DecodeAllocError). IsDecodeFailure standard c.args.string.now e) c.in-Err-DecodeError.field-0-is c.in-Err-DecodeError.ensures.err in
    sym (bytes_missed c.args.string.now c.in-Err-DecodeError.field-0-0 failed)
