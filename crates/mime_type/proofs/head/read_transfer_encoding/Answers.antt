use Rattle.std.proofs.Common.{◌≡◌, IfOk, subst}
use Rattle.mime_type.specs.Content.{coding_of}
use Rattle.mime_type.proofs.head.read_transfer_encoding.Goals as goal

pub returns : goal.returns
returns c =
    subst (λ t. IfOk c.read_coding.result (λ r. r ≡ coding_of t)) c.in_ok-text.ensures c.read_coding.ensures
