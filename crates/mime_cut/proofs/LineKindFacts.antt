-- What follows two prefixes, one after the other.
use Rattle.std.proofs.Common.{◌≡◌, ℕ, true, false, cond, eqb, ◌&&◌, List, [], ◌∷◌, ◌++◌, length, take, drop, Option, None, Some, refl, ap, sym, ◌∙◌, ◌+◌}
use Rattle.std.specs.Prelude.{MatchOption}
use Rattle.std.specs.Cmp.Lexicographic.{pointwise}
use Rattle.mime_lines.specs.Lines.{text}
use Rattle.mime_cut.specs.declared.line_kind.LineKind.TheVariants.{Other}
use Rattle.mime_cut.specs.DelimiterLines.{after_prefix, dashes, line_kind, kind_by_rest}

strip_none : (prefix bytes : List ℕ) → pointwise eqb (take (length prefix) bytes) prefix ≡ false → after_prefix prefix bytes ≡ None
strip_none [] [] h = cc
strip_none [] (b ∷ bs) h = cc
strip_none (f ∷ fs) [] h = refl
strip_none (f ∷ fs) (b ∷ bs) h = elim (eqb b f) as (λ v. (v && pointwise eqb (take (length fs) bs) fs) ≡ false → cond v (after_prefix fs bs) None ≡ None) [
  | true ↦ λ h. strip_none fs bs h
  | false ↦ λ h. refl
] h

strip_some : (prefix bytes : List ℕ) → pointwise eqb (take (length prefix) bytes) prefix ≡ true → after_prefix prefix bytes ≡ Some (drop (length prefix) bytes)
strip_some [] bytes h = refl
strip_some (f ∷ fs) [] h = cc
strip_some (f ∷ fs) (b ∷ bs) h = elim (eqb b f) as (λ v. (v && pointwise eqb (take (length fs) bs) fs) ≡ true → cond v (after_prefix fs bs) None ≡ Some (drop (length fs) bs)) [
  | true ↦ λ h. strip_some fs bs h
  | false ↦ λ h. cc
] h

-- what `strip_prefix` gives is what follows the prefix
pub strip_gives : {R : Type 0} (now : R → List ℕ) → (prefix bytes : List ℕ) (result : Option R)
    → MatchOption result (pointwise eqb (take (length prefix) bytes) prefix ≡ false)
    (λ x. (pointwise eqb (take (length prefix) bytes) prefix ≡ true) × (now x ≡ drop (length prefix) bytes) × (length (now x) + length prefix ≡ length bytes))
    → MatchOption result (after_prefix prefix bytes ≡ None) (λ x. after_prefix prefix bytes ≡ Some (now x))
strip_gives now prefix bytes None h = strip_none prefix bytes h
strip_gives now prefix bytes (Some x) h = strip_some prefix bytes h.0 ∙ ap Some (sym h.1)

pub after_both : (a b xs rest : List ℕ) → after_prefix a xs ≡ Some rest → after_prefix (a ++ b) xs ≡ after_prefix b rest
after_both [] b xs rest h = let e : xs ≡ rest = cc in ap (after_prefix b) e
after_both (f ∷ fs) b [] rest h = cc
after_both (f ∷ fs) b (x ∷ xs) rest h = elim (eqb x f) as (λ v. cond v (after_prefix fs xs) None ≡ Some rest → cond v (after_prefix (fs ++ b) xs) None ≡ after_prefix b rest) [
  | true ↦ λ h. after_both fs b xs rest h
  | false ↦ λ h. cc
] h

pub not_after_both : (a b xs : List ℕ) → after_prefix a xs ≡ None → after_prefix (a ++ b) xs ≡ None
not_after_both [] b xs h = cc
not_after_both (f ∷ fs) b [] h = refl
not_after_both (f ∷ fs) b (x ∷ xs) h = elim (eqb x f) as (λ v. cond v (after_prefix fs xs) None ≡ None → cond v (after_prefix (fs ++ b) xs) None ≡ None) [
  | true ↦ λ h. not_after_both fs b xs h
  | false ↦ λ h. refl
] h

-- a line that begins with the dashes and the boundary
pub line_kind_some : (b line rest : List ℕ) → after_prefix (dashes ++ b) (text line) ≡ Some rest → line_kind b line ≡ kind_by_rest rest
line_kind_some b line rest h =
    let closes : after_prefix (dashes ++ (b ++ dashes)) (text line) ≡ after_prefix dashes rest = after_both (dashes ++ b) dashes (text line) rest h in
    rw (h, closes) refl

-- and one that does not
pub line_kind_none : (b line : List ℕ) → after_prefix (dashes ++ b) (text line) ≡ None → line_kind b line ≡ Other
line_kind_none b line h =
    let closes : after_prefix (dashes ++ (b ++ dashes)) (text line) ≡ None = not_after_both (dashes ++ b) dashes (text line) h in
    rw (h, closes) refl
