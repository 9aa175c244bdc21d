-- Bytes that are appended one after the other.
use Rattle.std.proofs.Common.{◌≡◌, ◌⊎◌, ◌<◌, ◌≤◌, ◌+◌, ℕ, List, [], ◌++◌, length, take, Option, Result, Ok, Err, inl, inr, IfErr, sym, ap, ◌∙◌, subst, arith, append_assoc}
use Rattle.std.proofs.lemmas.Bool.{cases_lt}
use Rattle.std.proofs.lemmas.List.{take-append-le, take_all}
use Rattle.std.proofs.Math.Seq.{take-append-add, take-append_seam}
use Rattle.std.specs.Io.KnownBytes.{Appends}
use Rattle.jm_edge.proofs.Known.{appends_on}
use Rattle.http_parts.specs.declared.fault.WireFault.{WireFault}
use Rattle.http_wire.specs.Responses.{IsPrefixWritten, http_line}

-- a line of a name, a value and a line end
pub as_line : (a b c d name value end : List ℕ) → b ≡ a ++ name → c ≡ b ++ value → d ≡ c ++ end → d ≡ a ++ ((name ++ value) ++ end)
as_line a b c d name value end p q r =
    r ∙ ap (λ (z : List ℕ). z ++ end) (q ∙ ap (λ (z : List ℕ). z ++ value) p)
    ∙ append_assoc (a ++ name) value end ∙ append_assoc a name (value ++ end)
    ∙ ap (λ (z : List ℕ). a ++ z) (sym (append_assoc name value end))

-- a line whose value is known
pub line_as : (a b name value known : List ℕ) → b ≡ a ++ http_line (name ++ value) → value ≡ known → b ≡ a ++ http_line (name ++ known)
line_as a b name value known is same = is ∙ ap (λ (z : List ℕ). a ++ http_line (name ++ z)) same

-- four pieces after nothing
pub as_four : (n h i j k a b c d : List ℕ) → n ≡ [] → h ≡ n ++ a → i ≡ h ++ b → j ≡ i ++ c → k ≡ j ++ d → k ≡ a ++ b ++ c ++ d
as_four n h i j k a b c d o p q r s =
    s ∙ ap (λ (z : List ℕ). z ++ d) (r ∙ ap (λ (z : List ℕ). z ++ c) (q ∙ ap (λ (z : List ℕ). z ++ b) (p ∙ ap (λ (z : List ℕ). z ++ a) o)))

-- more is known of an error
pub on_err : {T E : Type 0} (r : Result T E) (P Q : E → Type 0) → ((e : E) → P e → Q e) → IfErr r P → IfErr r Q
on_err (Ok a) P Q f h = tt
on_err (Err e) P Q f h = f e h

-- a prefix of the first of two pieces is one of both
pub cut_first : (e : WireFault) (a b : Option (List ℕ)) (xs ys : List ℕ) → IsPrefixWritten e a b xs → IsPrefixWritten e a b (xs ++ ys)
cut_first e a b xs ys h = let r = as_prefix h.1 h.2 (cases_lt h.1 (length xs)) in (h.0, r.0, r.1)
  where
    as_prefix : (n : ℕ) → Appends a b (take n xs) → (n < length xs) ⊎ (length xs ≤ n) → (m : ℕ) × Appends a b (take m (xs ++ ys))
    as_prefix n g (inl l) = (n, subst (λ (z : List ℕ). Appends a b z) (sym (take-append-le n xs ys (omega arith))) g)
    as_prefix n g (inr l) = (length xs, subst (λ (z : List ℕ). Appends a b z) (take_all n xs l ∙ sym (take-append_seam xs ys)) g)

-- the first of two pieces and a prefix of the second
pub cut_later : (e : WireFault) (a b c : Option (List ℕ)) (xs ys : List ℕ) → Appends a b xs → IsPrefixWritten e b c ys → IsPrefixWritten e a c (xs ++ ys)
cut_later e a b c xs ys g h =
    (h.0, length xs + h.1, subst (λ (z : List ℕ). Appends a c z) (sym (take-append-add xs ys h.1)) (appends_on a b c xs (take h.1 ys) g h.2))
