use Rattle.std.proofs.Common.{map}
use Rattle.std.specs.Bool.{one_answer}
use Rattle.std.specs.Char.{to_ascii_lowercase}
use Rattle.std.specs.Str.{bytes_eq}
use Rattle.std.proofs.lemmas.Slice.Eq.{bytes_eq-Decides}
use Rattle.http_wire.proofs.fields.is_same_word.Goals as goal

pub returns : goal.returns
returns c =
    let a = map to_ascii_lowercase c.args.word.now in
    let b = map to_ascii_lowercase c.args.other.now in
    one_answer c.eq_ignore_ascii_case.result (bytes_eq a b) c.eq_ignore_ascii_case.ensures.test (bytes_eq-Decides a b)
