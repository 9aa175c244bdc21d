-- What follows from the port's clauses for a content that a caller knows.
use Rattle.std.proofs.Common.{◌≡◌, ◌⊎◌, inl, inr, List, ℕ, Option, Some, None, Result, Ok, Err, OnOk, OnErr, IfOk, refl, sym, ap, ◌∙◌}
use Rattle.jm_edge.specs.declared.fault.EdgeFault.{EdgeFault}
use Rattle.keep_port.specs.declared.kept.Kept.{Kept}
use Rattle.keep_port.specs.Keeping.{IsContent, IsUnknownOr, content_after, content_loaded, with_row, with_row_if, MayLeave}

or_else : Kept → Option Kept → Kept
or_else d None = d
or_else d (Some k) = k

some_same : (a b : Kept) → Some a ≡ Some b → a ≡ b
unfolding or_else
some_same a b e = ap (or_else a) e

-- a row added to a known content
pub row_content : (row : List ℕ) (told : Option Kept) (k left : Kept) → IsContent told k → with_row_if row told ≡ Some left → left ≡ with_row row k
row_content row None k left is e = absurd (cc e)
row_content row (Some t) k left is e = sym (some_same (with_row row t) left e) ∙ ap (with_row row) (sym (is t refl))

module _ {T : Type 0} where
  pub added : (r : Result T EdgeFault) (row : List ℕ) (old now : Option Kept) (k : Kept) → IsUnknownOr (content_after r (with_row_if row old) old) now → IsContent old k → OnOk r (IsContent now (with_row row k))
  added (Err e) row old now k after is = tt
  added (Ok x) row old now k after is = λ t told. sym (row_content row old k t is (after t told))

  pub only_row : (r : Result T EdgeFault) (row : List ℕ) (old : Option Kept) (before after : Kept → Type 0) (k : Kept) → MayLeave r (with_row_if row old) before after → IsContent old k
      → OnOk r ((left : Kept) → after left → left ≡ with_row row k)
  only_row (Err e) row old before after k may is = tt
  only_row (Ok x) row old before after k may is = λ left has. row_content row old k left is (may left has)

  pub or_row : (r : Result T EdgeFault) (row : List ℕ) (old : Option Kept) (before after : Kept → Type 0) (k : Kept) → MayLeave r (with_row_if row old) before after → IsContent old k
      → OnErr r ((left : Kept) → after left → before left ⊎ (left ≡ with_row row k))
  or_row (Ok x) row old before after k may is = tt
  or_row (Err e) row old before after k may is = λ left has. elim (may left has) as (λ _. before left ⊎ (left ≡ with_row row k)) [ inl b ↦ inl b | inr n ↦ inr (row_content row old k left is n) ]

  -- after an error the content is as it was
  pub same : (r : Result T EdgeFault) (next old now : Option Kept) (k : Kept) → IsUnknownOr (content_after r next old) now → IsContent old k → OnErr r (IsContent now k)
  same (Ok x) next old now k after is = tt
  same (Err e) next old now k after is = λ t told. is t (after t told)

  -- after Ok the content is the new one
  pub is_whole : (r : Result T EdgeFault) (whole : Kept) (old now : Option Kept) → IsUnknownOr (content_after r (Some whole) old) now → OnOk r (IsContent now whole)
  is_whole (Err e) whole old now after = tt
  is_whole (Ok x) whole old now after = λ t told. some_same whole t (after t told)

  pub only_whole : (r : Result T EdgeFault) (whole : Kept) (before after : Kept → Type 0) → MayLeave r (Some whole) before after → OnOk r ((left : Kept) → after left → left ≡ whole)
  only_whole (Err e) whole before after may = tt
  only_whole (Ok x) whole before after may = λ left has. sym (some_same whole left (may left has))

  pub or_whole : (r : Result T EdgeFault) (whole : Kept) (before after : Kept → Type 0) → MayLeave r (Some whole) before after → OnErr r ((left : Kept) → after left → before left ⊎ (left ≡ whole))
  or_whole (Ok x) whole before after may = tt
  or_whole (Err e) whole before after may = λ left has. elim (may left has) as (λ _. before left ⊎ (left ≡ whole)) [ inl b ↦ inl b | inr n ↦ inr (sym (some_same whole left n)) ]

pub loaded_left : (r : Result Kept EdgeFault) (now : Option Kept) (before after : Kept → Type 0) → IfOk r (IsContent now) → ((left : Kept) → after left → before left ⊎ (now ≡ Some left))
    → IfOk r (λ k. (left : Kept) → after left → before left ⊎ (left ≡ k))
loaded_left (Err e) now before after is may = tt
loaded_left (Ok k) now before after is may = λ left has. elim (may left has) as (λ _. before left ⊎ (left ≡ k)) [ inl b ↦ inl b | inr n ↦ inr (sym (is left n)) ]

pub loaded_same : (r : Result Kept EdgeFault) (old now : Option Kept) (k : Kept) → IsUnknownOr (content_loaded r old) now → IsContent old k → OnErr r (IsContent now k)
loaded_same (Ok x) old now k after is = tt
loaded_same (Err e) old now k after is = λ t told. is t (after t told)
