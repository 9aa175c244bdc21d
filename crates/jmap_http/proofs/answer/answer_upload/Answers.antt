use Rattle.std.proofs.Common.{ap₂, refl}
use Rattle.jmap_http.specs.Responses.{upload_response}
use Rattle.jmap_http.proofs.Answered.{ok_as}
use Rattle.jmap_http.proofs.answer.answer_upload.Goals as goal

pub returns-in-Ok-clause-ok : goal.returns-in-Ok-clause-ok
returns-in-Ok-clause-ok g c =
    ok_as c.write_upload.result _ _ _ c.write_upload.ensures (ap₂ (λ m n. upload_response c.args.account.now.id m n c.in-Ok.stored) c.in_ok-media.ensures c.len-size.ensures) (c.begin.new.self, c.begin.ensures.begun, (c.in-Ok.stored, c.in-Ok.ensures.answer, refl))
