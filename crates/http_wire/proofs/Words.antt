-- Lists of words in the values of fields.
use Rattle.std.proofs.Common.{◌≡◌, ◌<◌, ◌+◌, ℕ, zero, suc, Bool, true, false, cond, eqb, List, [], ◌∷◌, ◌++◌, length, take, drop, get_or, reverse, Option, None, Some, refl, sym, ap, ◌∙◌, arith, add-one}
use Rattle.std.proofs.lemmas.List.{reverse-append, reverse-reverse}
use Rattle.std.specs.List.{onto_first}
use Rattle.std.specs.Option.{MatchOption}
use Rattle.httparse.specs.Grammar.{skip_ows, is_ows}
use Rattle.memchr.specs.Find.{IsFirstByte, is_byte}
use Rattle.mime_lines.proofs.LineFacts.{not_true}
use Rattle.http_wire.specs.Fields.{parts_of}

parts_whole : (xs : List ℕ) → ((k : ℕ) → k < length xs → eqb (get_or xs k 0) 44 ≡ false) → parts_of xs ≡ xs ∷ []
parts_whole [] none = refl
parts_whole (b ∷ bs) none =
    rw (none 0 (omega arith)) (ap (onto_first b) (parts_whole bs (λ k low. none (suc k) (omega arith))))

parts_at : (xs : List ℕ) (i : ℕ) → i < length xs → ((k : ℕ) → k < i → eqb (get_or xs k 0) 44 ≡ false) → eqb (get_or xs i 0) 44 ≡ true
    → parts_of xs ≡ take i xs ∷ parts_of (drop (suc i) xs)
parts_at [] i inside before here = absurd (omega arith)
parts_at (b ∷ bs) zero inside before here = rw here refl
parts_at (b ∷ bs) (suc i) inside before here =
    rw (before 0 (omega arith)) (ap (onto_first b) (parts_at bs i (omega arith) (λ k low. before (suc k) (omega arith)) here))

pub comma_found : (bytes : List ℕ) (o : Option ℕ) → IsFirstByte (is_byte 44) bytes o
    → MatchOption o (parts_of bytes ≡ bytes ∷ []) (λ i. (parts_of bytes ≡ take i bytes ∷ parts_of (drop (i + 1) bytes)) × (i < length bytes))
comma_found bytes None none = parts_whole bytes (λ k low. not_true _ (none k (omega arith) low))
comma_found bytes (Some i) some = (
  parts_at bytes i some.0.high (λ k low. not_true _ (some.0.before k (omega arith) low)) some.1 ∙ ap (λ (n : ℕ). take i bytes ∷ parts_of (drop n bytes)) (sym (add-one i)),
  some.0.high,
)

-- the blanks at the end, the last one first
back_by : (b : ℕ) (front : List ℕ) (v : Bool) → is_ows b ≡ v → reverse (cond v (skip_ows (reverse front)) (b ∷ reverse front)) ≡ cond v (reverse (skip_ows (reverse front))) (front ++ b ∷ [])
back_by b front true h = refl
back_by b front false h = ap reverse (sym (reverse-append front (b ∷ []))) ∙ reverse-reverse (front ++ b ∷ [])

pub back_is : (rest front : List ℕ) (b : ℕ) → rest ≡ front ++ b ∷ [] → reverse (skip_ows (reverse rest)) ≡ cond (is_ows b) (reverse (skip_ows (reverse front))) rest
back_is rest front b is =
    ap (λ (z : List ℕ). reverse (skip_ows (reverse z))) is ∙ ap (λ (z : List ℕ). reverse (skip_ows z)) (reverse-append front (b ∷ []))
    ∙ back_by b front (is_ows b) refl ∙ ap (λ (z : List ℕ). cond (is_ows b) (reverse (skip_ows (reverse front))) z) (sym is)

pub back_no : (rest front : List ℕ) (b : ℕ) → rest ≡ front ++ b ∷ [] → is_ows b ≡ false → reverse (skip_ows (reverse rest)) ≡ rest
back_no rest front b is no_blank =
    back_is rest front b is ∙ ap (λ (t : Bool). cond t (reverse (skip_ows (reverse front))) rest) no_blank

pub back_yes : (rest front : List ℕ) (b : ℕ) → rest ≡ front ++ b ∷ [] → is_ows b ≡ true → reverse (skip_ows (reverse rest)) ≡ reverse (skip_ows (reverse front))
back_yes rest front b is blank =
    back_is rest front b is ∙ ap (λ (t : Bool). cond t (reverse (skip_ows (reverse front))) rest) blank
