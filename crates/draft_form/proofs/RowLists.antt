-- Rows and ids that are pushed one after the other.
use Rattle.std.proofs.Common.{◌≡◌, ℕ, ◌+◌, List, [], ◌∷◌, ◌++◌, refl, sym, ap, ◌∙◌, append_assoc, arith}
use Rattle.std.proofs.lemmas.List.{append-nil}
use Rattle.mime_writer.specs.declared.heads.PartHead.{PartHead}
use Rattle.draft_form.specs.Structures.{DraftParts, ids_of, leaf, multipart, none, part_count}
use Rattle.draft_form.specs.Rows.{row_count, rows_of}
use Rattle.draft_form.specs.declared.draft.Row.{Row}
use Rattle.draft_form.specs.declared.draft.Row.TheVariants.{Opens, Closes}

regroup_rows : (a b c d : List Row) (x y : Row) → (((a ++ x ∷ []) ++ b) ++ y ∷ []) ++ c ≡ a ++ x ∷ (b ++ y ∷ c)
regroup_rows a b c d x y = simp append_assoc

-- a multipart that begins, what is within it, and its end
pub multipart_rows : (old opened pushed closed : List Row) (h : PartHead) (inner later : DraftParts) → opened ≡ old ++ Opens h ∷ []
    → pushed ++ rows_of none ≡ opened ++ rows_of inner → closed ≡ pushed ++ Closes ∷ []
    → closed ++ rows_of later ≡ old ++ Opens h ∷ (rows_of inner ++ Closes ∷ rows_of later)
multipart_rows old opened pushed closed h inner later p q r =
    ap (λ t. t ++ rows_of later) r
    ∙ ap (λ t. (t ++ Closes ∷ []) ++ rows_of later) (sym (append-nil pushed) ∙ q ∙ ap (λ t. t ++ rows_of inner) p)
    ∙ regroup_rows old (rows_of inner) (rows_of later) [] (Opens h) Closes

pub multipart_ids : (old pushed : List (List ℕ)) (inner later : DraftParts) → pushed ++ ids_of none ≡ old ++ ids_of inner
    → pushed ++ ids_of later ≡ old ++ (ids_of inner ++ ids_of later)
multipart_ids old pushed inner later q =
    ap (λ t. t ++ ids_of later) (sym (append-nil pushed) ∙ q) ∙ append_assoc old (ids_of inner) (ids_of later)

count_both : (xs ys : List Row) → row_count (xs ++ ys) ≡ row_count xs + row_count ys
count_both [] ys = omega arith
count_both (x ∷ xs) ys = let more = count_both xs ys in omega (arith, more)

-- each part begins with one row
pub rows_counted : (p : DraftParts) → row_count (rows_of p) ≡ part_count p
rows_counted none = refl
rows_counted (leaf h b later) = ap (λ n. 1 + n) (rows_counted later)
rows_counted (multipart h inner later) =
    let both = count_both (rows_of inner) (Closes ∷ rows_of later) in
    let i = rows_counted inner in
    let l = rows_counted later in
    omega (arith, both, i, l)
