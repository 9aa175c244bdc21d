-- The tags of a list, the first one at a time.
use Rattle.std.proofs.Common.{◌≡◌, ℕ, ◌<◌, Bool, true, false, not, eqb, cond, List, [], ◌∷◌, ◌++◌, length, get_or, refl, sym, ap, subst, ◌∙◌, arith}
use Rattle.std.specs.Str.{IsUtf8}
use Rattle.std.proofs.lemmas.Bool.{eqb-true}
use Rattle.std.specs.List.{before_first, after_first, position_or_len, slice_split}
use Rattle.std.proofs.lemmas.List.Sums.{prefix_len_passes, prefix_len_stops, split_at_first}
use Rattle.std.proofs.lemmas.List.Splits.{slice_split_first, slice_split_none}
use Rattle.mime_type.proofs.Utf8.{ascii_seam}
use Rattle.mime_type.specs.Labels.{is_some_text, items, languages_in}
use Rattle.mail_text.specs.Texts.{trimmed}

abbrev is_comma : ℕ → Bool
is_comma b = eqb b 44

items_first : (t : List ℕ) (ts : List (List ℕ)) → items (t ∷ ts) ≡ items (t ∷ []) ++ items ts
items_first t ts = elim (is_some_text (trimmed t)) as (λ v. cond v (trimmed t ∷ items ts) (items ts) ≡ cond v (trimmed t ∷ []) [] ++ items ts) [ true ↦ refl | false ↦ refl ]

pub tags_first : (rest tag after : List ℕ) → tag ≡ before_first is_comma rest → after ≡ after_first is_comma rest → position_or_len is_comma rest < length rest
    → languages_in rest ≡ items (tag ∷ []) ++ languages_in after
tags_first rest tag after t a h =
    ap items (slice_split_first is_comma rest 0 h) ∙ items_first (before_first is_comma rest) (slice_split is_comma (after_first is_comma rest))
    ∙ ap (λ x. items (x ∷ []) ++ languages_in (after_first is_comma rest)) (sym t) ∙ ap (λ x. items (tag ∷ []) ++ languages_in x) (sym a)

not_not : (b : Bool) → not b ≡ true → b ≡ false
not_not true h = sym h
not_not false h = refl

pub tags_last : (rest : List ℕ) → position_or_len is_comma rest ≡ length rest → languages_in rest ≡ items (rest ∷ [])
tags_last rest h = ap items (slice_split_none is_comma rest (λ k d low. not_not _ (prefix_len_passes (λ x. not (is_comma x)) rest k d (omega (arith, h)))))

not_false : (b : Bool) → not b ≡ false → b ≡ true
not_false true h = refl
not_false false h = sym h

-- what follows a comma of a text is text
pub after_comma-utf8 : (rest : List ℕ) → IsUtf8 rest → position_or_len is_comma rest < length rest → IsUtf8 (after_first is_comma rest)
after_comma-utf8 rest u h =
    let at = get_or rest (position_or_len is_comma rest) 0 in
    let is : at ≡ 44 = eqb-true at 44 (not_false (is_comma at) (prefix_len_stops (λ x. not (is_comma x)) rest 0 h)) in
    (ascii_seam (before_first is_comma rest) (after_first is_comma rest) at (omega (arith, is)) (subst IsUtf8 (split_at_first is_comma rest 0 h) u)).1
