use Rattle.std.proofs.Common.{◌≡◌, ◌+◌, ◌-◌, ◌∙◌, length, sym, subst, arith}
use Rattle.email_creates.specs.Emails.{Progress}
use Rattle.mail_import.specs.Imports.{after_import}
use Rattle.set_parts.specs.Views.{create_of}
use Rattle.email_creates.specs.Views.{HasNumbersFor}
use Rattle.mail_import.proofs.Following.{imports_step}
use Rattle.mail_import.proofs.import.perform_imports.Goals as goal

pub loop-i-preserved : goal.loop-i-preserved
loop-i-preserved c =
    let blobs = c.args.setting.now.blobs.now.blobs in
    let moment = c.args.setting.now.moment in
    let imports = c.args.imports.now in
    let lt = c.loop-i-test.true in
    let left : length imports - c.loop-i.i ≡ (length imports - (c.loop-i.i + 1)) + 1 = omega (arith, lt) in
    record {
      numbers = c.in_ok-perform_import.ensures.numbers (length imports - (c.loop-i.i + 1)) (subst (λ n. HasNumbersFor n c.loop-i.planner) left c.loop-i.invariant.numbers);
      follows = λ (s : Progress) f.
          let was = c.loop-i.invariant.follows s f in (
            after_import blobs moment was.0 (create_of c.index-imports-i.result),
            c.in_ok-perform_import.ensures.follows was.0 was.1,
            sym (imports_step blobs moment was.0 imports c.loop-i.i c.index-imports-i.result lt c.index-imports-i.is) ∙ was.2,
          );
    }
