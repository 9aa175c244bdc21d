use Rattle.std.proofs.Common.{◌≡◌, sym, subst}
use Rattle.std.specs.Result.{IfOk}
use Rattle.jmap_http.specs.Responses.{upload_response}
use Rattle.jmap_http.proofs.answer.write_upload.Goals as goal

pub returns-in-Full : goal.returns-in-Full
returns-in-Full c =
    subst (λ s. IfOk c.write_limit.result (λ r. r ≡ upload_response c.args.account.now.id c.args.media c.args.size s)) (sym c.in-Full.is) c.write_limit.ensures
