use Rattle.std.proofs.Common.{arith, sym, ◌∙◌, ◌≡◌}
use Rattle.std.proofs.lemmas.Fmt.{decimal_injective}
use Rattle.jm_base.proofs.id_texts.read_number.Goals as goal

pub returns-else-number-lt-NUMBER_LIMIT : goal.returns-else-number-lt-NUMBER_LIMIT
returns-else-number-lt-NUMBER_LIMIT c n is =
    let lt = is.0 in
    let small = c.in-Some.ensures.0 in
    let same : n ≡ c.in-Some.number = decimal_injective n c.in-Some.number (omega (arith, lt)) small (sym is.1 ∙ c.in-Some.ensures.1) in
    omega (arith, lt, same)

pub returns-in-None : goal.returns-in-None
returns-in-None c n is = let lt = is.0 in c.in-None.ensures n (omega (arith, lt), is.1)
