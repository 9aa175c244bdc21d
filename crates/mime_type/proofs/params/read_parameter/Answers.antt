use Rattle.std.proofs.Common.{◌≡◌, Some, sym}
use Rattle.std.specs.Str.{IsUtf8}
use Rattle.mime_lines.specs.FieldOffsets.{lowered}
use Rattle.mime_type.specs.Grammar.{params_of, first_named}
use Rattle.mime_type.specs.Views.{leading_value}
use Rattle.mime_type.proofs.Utf8.{first_named-utf8}
use Rattle.mime_type.proofs.params.read_parameter.Goals as goal

pub into_text-requires : goal.into_text-requires
into_text-requires c =
    let found : first_named (lowered c.args.name.now) (params_of c.args.params.now).found ≡ Some (leading_value c.in-Some.value.now) = sym c.in-Some.ensures in
    let utf8 : IsUtf8 (leading_value c.in-Some.value.now) = first_named-utf8 (lowered c.args.name.now) (params_of c.args.params.now).found (leading_value c.in-Some.value.now) c.requires found in
    rw c.in_ok-copy_value-in-Some.ensures utf8
