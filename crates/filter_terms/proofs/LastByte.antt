-- A text that begins with a needle has the needle's last byte, in either case, where the needle has it.
use Rattle.std.proofs.Common.{◌≡◌, ℕ, zero, suc, ◌<◌, true, eqb, List, [], ◌∷◌, get_or, length, sym, arith}
use Rattle.std.specs.Char.{to_ascii_lowercase}
use Rattle.std.proofs.lemmas.Bool.{and_parts, eqb-true, true≢false}
use Rattle.filter_terms.specs.Contains.{begins_with}

pub has_each : (needle text : List ℕ) (k : ℕ) → begins_with needle text ≡ true → k < length needle → (k < length text) × (to_ascii_lowercase (get_or text k 0) ≡ to_ascii_lowercase (get_or needle k 0))
has_each [] text k h low = absurd (omega (arith, low))
has_each (n ∷ ns) [] k h low = absurd (true≢false (sym h))
has_each (n ∷ ns) (x ∷ xs) zero h low =
    let both = and_parts (eqb (to_ascii_lowercase x) (to_ascii_lowercase n)) (begins_with ns xs) h in
    (omega arith, eqb-true (to_ascii_lowercase x) (to_ascii_lowercase n) both.0)
has_each (n ∷ ns) (x ∷ xs) (suc k) h low =
    let both = and_parts (eqb (to_ascii_lowercase x) (to_ascii_lowercase n)) (begins_with ns xs) h in
    let rest = has_each ns xs k both.1 (omega (arith, low)) in
    (omega (arith, rest.0), rest.1)
