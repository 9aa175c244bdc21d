use Rattle.std.proofs.Common.{◌≡◌, Err, decimal, IsUtf8, true, refl, sym, ap, ◌∙◌, subst, true≢false}
use Rattle.std.specs.Str.{bytes_eq}
use Rattle.std.proofs.lemmas.Str.{IsUtf8-from_ascii}
use Rattle.std.proofs.lemmas.Fmt.{IsAscii-decimal, parse-decimal}
use Rattle.std.proofs.lemmas.Slice.Eq.{bytes_eq-Decides}
use Rattle.jm_json.proofs.Parts.{not_read, read_same}
use Rattle.jm_json.proofs.paths.index_of.Goals as goal

pub returns-in_default : goal.returns-in_default
returns-in_default c = λ n small e. c.in_default.ensures.cases.0 (subst IsUtf8 e (IsUtf8-from_ascii (decimal n) (IsAscii-decimal n small)))

pub returns-in-Err : goal.returns-in-Err
returns-in-Err c = λ n small e.
    not_read (Err c.in-Err.field-0) c.in-Err.field-0 n refl (parse-decimal 64 n c.in-Ok.text.now _ small small (c.in-Ok.ensures.cases.0 ∙ sym e) c.in-Err.ensures.value.0)

pub returns-else-eq : goal.returns-else-eq
returns-else-eq c = λ n small e.
    let same = read_same c.parse.result c.in-Ok-parse.n n c.in-Ok-parse.is (parse-decimal 64 n c.in-Ok.text.now c.parse.result small small (c.in-Ok.ensures.cases.0 ∙ sym e) c.parse.ensures.value.0) in
    let written : c.as_bytes.result.now ≡ c.args.part.now = c.as_bytes.ensures.value ∙ c.format.ensures.text ∙ ap decimal same ∙ e in
    let equal : bytes_eq c.as_bytes.result.now c.args.part.now ≡ true = (bytes_eq-Decides c.as_bytes.result.now c.args.part.now).1 written in
    true≢false (sym equal ∙ sym c.eq.ensures ∙ c.if-eq.false)
