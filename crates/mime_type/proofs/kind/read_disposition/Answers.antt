use Rattle.std.proofs.Common.{◌≡◌, List, ℕ, Option, None, Some, option_map, IfSome, sym}
use Rattle.std.specs.Str.{IsUtf8}
use Rattle.std.proofs.lemmas.Result.{IfOk-weaker}
use Rattle.mime_type.specs.declared.kind.Kind.{Kind}
use Rattle.mime_type.specs.Grammar.{disposition_at}
use Rattle.mime_type.specs.Texts.{IsText}
use Rattle.mime_type.specs.Views.{kind_of}
use Rattle.mime_type.proofs.Utf8.{disposition_at-text}
use Rattle.mime_type.proofs.kind.read_disposition.Goals as goal

is_text : (text : List ℕ) → IsUtf8 text → (r : Option Kind) → option_map kind_of r ≡ disposition_at text → IfSome r (λ k. IsText (kind_of k))
is_text text u None e = tt
is_text text u (Some k) e = disposition_at-text text (kind_of k) u (sym e)

pub returns-in-Some-clause-texts : goal.returns-in-Some-clause-texts
returns-in-Some-clause-texts c =
    let text = c.as_bytes.result.now in
    IfOk-weaker c.take_disposition.result (λ r. option_map kind_of r ≡ disposition_at text) (λ r. IfSome r (λ k. IsText (kind_of k))) (is_text text c.as_bytes.ensures.utf8) c.take_disposition.ensures
