use Rattle.std.proofs.Common.{◌≡◌, Some, option_map, sym, ap, ◌∙◌}
use Rattle.mime_type.specs.Grammar.{type_at}
use Rattle.mime_type.specs.Views.{kind_of}
use Rattle.mime_type.proofs.Utf8.{type_at-text}
use Rattle.mime_type.proofs.kind.read_type.Goals as goal

pub returns-in-Some-2-clause-texts : goal.returns-in-Some-2-clause-texts
returns-in-Some-2-clause-texts c =
    let found : type_at c.as_bytes.result.now ≡ Some (kind_of c.in-Some-2.kind) = sym c.in_ok-kind.ensures ∙ ap (option_map kind_of) c.in-Some-2.is in
    type_at-text c.as_bytes.result.now (kind_of c.in-Some-2.kind) c.as_bytes.ensures.utf8 found
