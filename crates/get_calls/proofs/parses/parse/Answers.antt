use Rattle.std.proofs.Common.{◌≡◌, subst, ap, IfOk, IfErr}
use Rattle.jm_json.specs.Json.{tree_of}
use Rattle.get_calls.specs.Faults.{GetFails}
use Rattle.mail_view.specs.Gets.{got}
use Rattle.mail_view.specs.Parses.{parse_emails}
use Rattle.get_calls.proofs.parses.parse.Goals as goal

pub returns : goal.returns
returns c =
    let t = tree_of c.args.args.now in
    let same = ap (λ b. parse_emails b t) c.blobs.ensures.blobs in
    record {
      ok = subst (λ g. IfOk c.parse_emails.result (λ t. g ≡ got (tree_of t))) same c.parse_emails.ensures.ok;
      err = subst (λ g. IfErr c.parse_emails.result (λ fault. GetFails fault g)) same c.parse_emails.ensures.err;
    }
