-- What a refused call adds to what a crash may leave.
use Rattle.std.proofs.Common.{◌≡◌, ℕ, List, [], ◌∷◌, ◌++◌, ◌⊎◌, inl, inr, Option, Some, None, refl, sym, ap, ◌∙◌, ⊎_elim, subst}
use Rattle.jm_edge.specs.declared.calls.Calls.{Calls}
use Rattle.keep_port.specs.declared.kept.Kept.{Kept}
use Rattle.keep_port.specs.declared.memory.MemoryKeeper.{MemoryKeeper}
use Rattle.keep_port.specs.Keeping.{with_row}
use Rattle.keep_port.specs.Memory.{IsOneOf, may_be_left, opened}

-- what is in a list with one more at its end
pub IsOneOf-push : {A : Type 0} (xs : List A) (y x : A) → IsOneOf (xs ++ y ∷ []) x → IsOneOf xs x ⊎ (x ≡ y)
IsOneOf-push [] y x (inl e) = inr e
IsOneOf-push [] y x (inr h) = absurd h
IsOneOf-push (z ∷ zs) y x (inl e) = inl (inl e)
IsOneOf-push (z ∷ zs) y x (inr h) = ⊎_elim (λ a. inl (inr a)) (λ b. inr b) (IsOneOf-push zs y x h)

-- after an `append` that was refused
pub row_refused : (m : MemoryKeeper) (row : List ℕ) (calls : Calls) (k : Kept) → may_be_left (record m { refused_rows = m.refused_rows ++ row ∷ []; appends = calls }) k → may_be_left m k ⊎ (Some (with_row row m.kept) ≡ Some k)
row_refused m row calls k (inl e) = inl (inl e)
row_refused m row calls k (inr (inl (r, h, e))) =
    ⊎_elim
    (λ a. inl (inr (inl (r, a, e))))
    (λ (s : r ≡ row). inr (ap Some (sym (e ∙ ap (λ z. with_row z m.kept) s))))
    (IsOneOf-push m.refused_rows row r h)
row_refused m row calls k (inr (inr w)) = inl (inr (inr w))

-- after a `replace` that was refused
pub whole_refused : (m : MemoryKeeper) (whole : Kept) (calls : Calls) (k : Kept) → may_be_left (record m { refused_wholes = m.refused_wholes ++ whole ∷ []; replaces = calls }) k → may_be_left m k ⊎ (Some whole ≡ Some k)
whole_refused m whole calls k (inl e) = inl (inl e)
whole_refused m whole calls k (inr (inl r)) = inl (inr (inl r))
whole_refused m whole calls k (inr (inr w)) =
    ⊎_elim (λ a. inl (inr (inr a))) (λ s. inr (ap Some (sym s))) (IsOneOf-push m.refused_wholes whole k w)

-- where no call was refused
pub nothing_refused : (kept : Kept) (loads appends replaces : List ℕ) (k : Kept) → may_be_left (opened kept loads appends replaces) k → Some kept ≡ Some k
nothing_refused kept loads appends replaces k (inl e) = ap Some (sym e)
nothing_refused kept loads appends replaces k (inr (inl (r, h, e))) = absurd h
nothing_refused kept loads appends replaces k (inr (inr w)) = absurd w

-- ---- the other way: what must be counted with

IsOneOf-old : {A : Type 0} (xs : List A) (y x : A) → IsOneOf xs x → IsOneOf (xs ++ y ∷ []) x
IsOneOf-old [] y x h = absurd h
IsOneOf-old (z ∷ zs) y x (inl e) = inl e
IsOneOf-old (z ∷ zs) y x (inr h) = inr (IsOneOf-old zs y x h)

IsOneOf-last : {A : Type 0} (xs : List A) (y : A) → IsOneOf (xs ++ y ∷ []) y
IsOneOf-last [] y = inl refl
IsOneOf-last (z ∷ zs) y = inr (IsOneOf-last zs y)

abbrev kept_or : Kept → Option Kept → Kept
kept_or d None = d
kept_or d (Some k) = k

-- after Ok
pub kept_is_left : (m : MemoryKeeper) (k : Kept) → Some m.kept ≡ Some k → may_be_left m k
kept_is_left m k s = inl (sym (ap (kept_or m.kept) s))

-- after an `append` that was refused
pub row_is_left : (m : MemoryKeeper) (row : List ℕ) (calls : Calls) (k : Kept) → may_be_left m k ⊎ (Some (with_row row m.kept) ≡ Some k) → may_be_left (record m { refused_rows = m.refused_rows ++ row ∷ []; appends = calls }) k
row_is_left m row calls k (inl (inl e)) = inl e
row_is_left m row calls k (inl (inr (inl (r, h, e)))) = inr (inl (r, IsOneOf-old m.refused_rows row r h, e))
row_is_left m row calls k (inl (inr (inr w))) = inr (inr w)
row_is_left m row calls k (inr s) = inr (inl (row, IsOneOf-last m.refused_rows row, sym (ap (kept_or m.kept) s)))

-- after a `replace` that was refused
pub whole_is_left : (m : MemoryKeeper) (whole : Kept) (calls : Calls) (k : Kept) → may_be_left m k ⊎ (Some whole ≡ Some k) → may_be_left (record m { refused_wholes = m.refused_wholes ++ whole ∷ []; replaces = calls }) k
whole_is_left m whole calls k (inl (inl e)) = inl e
whole_is_left m whole calls k (inl (inr (inl r))) = inr (inl r)
whole_is_left m whole calls k (inl (inr (inr w))) = inr (inr (IsOneOf-old m.refused_wholes whole k w))
whole_is_left m whole calls k (inr s) = inr (inr (subst (IsOneOf (m.refused_wholes ++ whole ∷ [])) (ap (kept_or whole) s) (IsOneOf-last m.refused_wholes whole)))
